-- What the words of a run's script spell fits the types of commands.
use Rattle.std.proofs.Common.{◌≡◌, ℕ, ◌+◌, ◌<◌, ◌≤◌, ◌^◌, Bool, true, false, ltb, cond, List, [], ◌∷◌, ◌++◌, Option, Some, None, Result, Ok, Err, refl, subst, arith}
use Rattle.std.specs.Prelude.{codes, bytes_eq, option_map}
use Rattle.std.specs.List.{All, list_all, list_any}
use Rattle.std.specs.Result.{result_ok}
use Rattle.std.proofs.lemmas.List.Elements.{All-cons, All-nil, All-head, All-tail, All-from_get_or}
use Rattle.arrayvec.specs.ArrayVec.{ArrayVec}
use Rattle.hex.specs.Hex.{decode_of}
use Rattle.hex.specs.declared.error.FromHexError.{FromHexError}
use Rattle.hex.proofs.HexLemmas.{decode_of-ok}
use Rattle.epic_num.specs.declared.command.Command.{Command}
use Rattle.epic_num.specs.declared.command.Command.TheVariants as command
use Rattle.epic_num.specs.declared.hop.Level.{Level}
use Rattle.epic_num.specs.declared.hop.Level.TheVariants.{L0, L1, L2, L3}
use Rattle.epic_num.specs.declared.key_name.Holder.{Holder}
use Rattle.epic_num.specs.declared.key_name.Holder.TheVariants as holder
use Rattle.epic_num.specs.declared.moment.TheConstants.{MAX_MOMENT}
use Rattle.epic_num.specs.declared.name.AsId.{AsId}
use Rattle.epic_num.specs.declared.name.HostId.{HostId}
use Rattle.epic_num.specs.Levels.{first_byte, is_first_byte, level_number}
use Rattle.epic_num.specs.Messages.{IsHost}
use Rattle.epic_num.specs.Names.{host_of, number_within}
use Rattle.epic_num.proofs.OneSpelling.{host_from_spelling}
use Rattle.epic_layout.specs.Contents.{IsBytes}
use Rattle.epic_text.specs.declared.script.ScriptKind.{ScriptKind}
use Rattle.epic_text.specs.declared.script.ScriptKind.TheVariants.{NotText, TooMany}
use Rattle.epic_text.specs.declared.script.TheConstants.{MAX_COMMANDS}
use Rattle.epic_text.specs.Lines.{is_text_byte, lines, words}
use Rattle.epic_text.specs.RunScript.{HolderFits, IsSpelled, is_comma, CommandsAreSpelled, run_rule, on_word, at_of, originate_of, extend_of, fetch_of, paths_of, send_of, turn_of, arrive_of, pass_of, carry_of, reveal_of, roll_of, as_named, bytes_of, level_named, segments_of, holder_named, most8, most16, most32, most64}
use Rattle.epic_text.specs.Script.{Fault, line_command, words_command, some_command, is_comment, at_line, numbered, commands_after, commands_of, with_front}
use Rattle.epic_text.proofs.Numbers.{number_most}

-- ---- words

-- what a word spells is such a value
abbrev Gives : {A : Type 0} → Option A → (A → Type 0) → Type 0
Gives {A} o P = (x : A) → o ≡ Some x → P x

number_gives : (most : ℕ) (text : List ℕ) → Gives (number_within most text) (λ n. n ≤ most)
number_gives most text n is = number_most most text n is

host_gives : (text : List ℕ) → Gives (host_of text) IsHost
host_gives text h is =
    let from = ((host_from_spelling 1 (omega arith) text h).0 is).0 in
    record { asn = from.0.0; host = from.1 }

abbrev Exists : ℕ × Level → Type 0
Exists l = is_first_byte (first_byte l.0 l.1) ≡ true

exists_as : (l m : ℕ × Level) → ◌≡◌ {A = Option (ℕ × Level)} (Some l) (Some m) → Exists l → Exists m
exists_as l m h there = let same : l ≡ m = cc in subst Exists same there

levels_exist : (a b c d e f : Bool)
    → Gives (cond a (Some (1, L0)) (cond b (Some (1, L1)) (cond c (Some (1, L2)) (cond d (Some (1, L3)) (cond e (Some (2, L2)) (cond f (Some (2, L3)) None)))))) Exists
unfolding first_byte is_first_byte level_number
levels_exist true b c d e f l h = exists_as (1, L0) l h refl
levels_exist false true c d e f l h = exists_as (1, L1) l h refl
levels_exist false false true d e f l h = exists_as (1, L2) l h refl
levels_exist false false false true e f l h = exists_as (1, L3) l h refl
levels_exist false false false false true f l h = exists_as (2, L2) l h refl
levels_exist false false false false false true l h = exists_as (2, L3) l h refl
levels_exist false false false false false false l h = absurd (cc)

level_gives : (text : List ℕ) → Gives (level_named text) Exists
unfolding level_named
level_gives text l is =
    levels_exist (bytes_eq text (codes "0")) (bytes_eq text (codes "1")) (bytes_eq text (codes "2")) (bytes_eq text (codes "3")) (bytes_eq text (codes "2w")) (bytes_eq text (codes "3w")) l is

decoded_bytes : (text : List ℕ) (r : Result (List ℕ) FromHexError) (bytes : List ℕ) → decode_of text ≡ r → result_ok r ≡ Some bytes → IsBytes bytes
decoded_bytes text (Ok read) bytes is h =
    let same : read ≡ bytes = cc in
    let (even, digits, twice, are) = decode_of-ok text read is in
    subst IsBytes same (All-from_get_or (λ b. b < 256) read 0 (λ i within. are i))
decoded_bytes text (Err e) bytes is h = absurd (cc)

spelled_bytes : (text : List ℕ) (dash : Bool) (bytes : List ℕ) → cond dash (Some []) (result_ok (decode_of text)) ≡ Some bytes → IsBytes bytes
spelled_bytes text true bytes h = let same : [] ≡ bytes = cc in subst IsBytes same (All-nil (λ b. b < 256))
spelled_bytes text false bytes h = decoded_bytes text (decode_of text) bytes refl h

bytes_give : (text : List ℕ) → Gives (bytes_of text) IsBytes
unfolding bytes_of
bytes_give text bytes h = spelled_bytes text (bytes_eq text (codes "-")) bytes h

-- ---- commands

same_command : (c d : Command) → ◌≡◌ {A = Result Command ScriptKind} (Ok c) (Ok d) → IsSpelled c → IsSpelled d
same_command c d h good = let same : c ≡ d = cc in subst IsSpelled same good

at_by : (o : Option ℕ) (c : Command) → Gives o (λ n. n ≤ MAX_MOMENT) → on_word 2 o (λ t. Ok (command.At t)) ≡ Ok c → IsSpelled c
at_by (Some moment) c fits h = same_command (command.At moment) c h (fits moment refl)
at_by None c fits h = absurd (cc)

at_spelled : (arguments : List (List ℕ)) (c : Command) → at_of arguments ≡ Ok c → IsSpelled c
at_spelled (moment ∷ []) c h = at_by (number_within MAX_MOMENT moment) c (number_gives MAX_MOMENT moment) h
at_spelled [] c h = absurd (cc)
at_spelled (moment ∷ next ∷ more) c h = absurd (cc)

originate_by : (a : Option AsId) (o e : Option ℕ) (c : Command) → Gives o (λ n. n ≤ most16) → Gives e (λ n. n ≤ most8)
    → on_word 2 a (λ a. on_word 3 o (λ o. on_word 4 e (λ e. Ok (command.Originate a o e)))) ≡ Ok c → IsSpelled c
originate_by (Some a) (Some o) (Some e) c out exp h =
    let o_fits = out o refl in
    let e_fits = exp e refl in
    same_command (command.Originate a o e) c h (omega (arith, o_fits), omega (arith, e_fits))
originate_by None o e c out exp h = absurd (cc)
originate_by (Some a) None e c out exp h = absurd (cc)
originate_by (Some a) (Some o) None c out exp h = absurd (cc)

originate_spelled : (arguments : List (List ℕ)) (c : Command) → originate_of arguments ≡ Ok c → IsSpelled c
originate_spelled (asn ∷ out ∷ exp ∷ []) c h =
    originate_by (as_named asn) (number_within most16 out) (number_within most8 exp) c (number_gives most16 out) (number_gives most8 exp) h
originate_spelled [] c h = absurd (cc)
originate_spelled (asn ∷ []) c h = absurd (cc)
originate_spelled (asn ∷ out ∷ []) c h = absurd (cc)
originate_spelled (asn ∷ out ∷ exp ∷ next ∷ more) c h = absurd (cc)

extend_by : (p o e : Option ℕ) (c : Command) → Gives o (λ n. n ≤ most16) → Gives e (λ n. n ≤ most8)
    → on_word 2 p (λ p. on_word 3 o (λ o. on_word 4 e (λ e. Ok (command.Extend p o e)))) ≡ Ok c → IsSpelled c
extend_by (Some p) (Some o) (Some e) c out exp h =
    let o_fits = out o refl in
    let e_fits = exp e refl in
    same_command (command.Extend p o e) c h (omega (arith, o_fits), omega (arith, e_fits))
extend_by None o e c out exp h = absurd (cc)
extend_by (Some p) None e c out exp h = absurd (cc)
extend_by (Some p) (Some o) None c out exp h = absurd (cc)

extend_spelled : (arguments : List (List ℕ)) (c : Command) → extend_of arguments ≡ Ok c → IsSpelled c
extend_spelled (parent ∷ out ∷ exp ∷ []) c h =
    extend_by (number_within most32 parent) (number_within most16 out) (number_within most8 exp) c (number_gives most16 out) (number_gives most8 exp) h
extend_spelled [] c h = absurd (cc)
extend_spelled (parent ∷ []) c h = absurd (cc)
extend_spelled (parent ∷ out ∷ []) c h = absurd (cc)
extend_spelled (parent ∷ out ∷ exp ∷ next ∷ more) c h = absurd (cc)

fetch_by : (s o : Option AsId) (e : Option ℕ) (c : Command) → Gives e (λ n. n ≤ most64)
    → on_word 2 s (λ s. on_word 3 o (λ o. on_word 4 e (λ e. Ok (command.Fetch s o e)))) ≡ Ok c → IsSpelled c
fetch_by (Some s) (Some o) (Some e) c epoch h =
    let fits = epoch e refl in
    same_command (command.Fetch s o e) c h (omega (arith, fits))
fetch_by None o e c epoch h = absurd (cc)
fetch_by (Some s) None e c epoch h = absurd (cc)
fetch_by (Some s) (Some o) None c epoch h = absurd (cc)

fetch_spelled : (arguments : List (List ℕ)) (c : Command) → fetch_of arguments ≡ Ok c → IsSpelled c
fetch_spelled (source ∷ of ∷ epoch ∷ []) c h = fetch_by (as_named source) (as_named of) (number_within most64 epoch) c (number_gives most64 epoch) h
fetch_spelled [] c h = absurd (cc)
fetch_spelled (source ∷ []) c h = absurd (cc)
fetch_spelled (source ∷ of ∷ []) c h = absurd (cc)
fetch_spelled (source ∷ of ∷ epoch ∷ next ∷ more) c h = absurd (cc)

paths_by : (f t : Option AsId) (c : Command) → on_word 2 f (λ f. on_word 3 t (λ t. Ok (command.Paths f t))) ≡ Ok c → IsSpelled c
paths_by (Some f) (Some t) c h = same_command (command.Paths f t) c h tt
paths_by None t c h = absurd (cc)
paths_by (Some f) None c h = absurd (cc)

paths_spelled : (arguments : List (List ℕ)) (c : Command) → paths_of arguments ≡ Ok c → IsSpelled c
paths_spelled (from ∷ to ∷ []) c h = paths_by (as_named from) (as_named to) c h
paths_spelled [] c h = absurd (cc)
paths_spelled (from ∷ []) c h = absurd (cc)
paths_spelled (from ∷ to ∷ next ∷ more) c h = absurd (cc)

send_by : (l : Option (ℕ × Level)) (s d : Option HostId) (n : Option (ArrayVec ℕ)) (b : Option (List ℕ)) (c : Command)
    → Gives l Exists → Gives s IsHost → Gives d IsHost → Gives b IsBytes
    → on_word 2 l (λ l. on_word 3 s (λ s. on_word 4 d (λ d. on_word 5 n (λ n. on_word 6 b (λ b. Ok (command.Send l.0 l.1 s d n b)))))) ≡ Ok c → IsSpelled c
send_by (Some l) (Some s) (Some d) (Some n) (Some b) c level src dst bytes h =
    same_command (command.Send l.0 l.1 s d n b) c h (level l refl, (src s refl, (dst d refl, bytes b refl)))
send_by None s d n b c level src dst bytes h = absurd (cc)
send_by (Some l) None d n b c level src dst bytes h = absurd (cc)
send_by (Some l) (Some s) None n b c level src dst bytes h = absurd (cc)
send_by (Some l) (Some s) (Some d) None b c level src dst bytes h = absurd (cc)
send_by (Some l) (Some s) (Some d) (Some n) None c level src dst bytes h = absurd (cc)

send_spelled : (arguments : List (List ℕ)) (c : Command) → send_of arguments ≡ Ok c → IsSpelled c
send_spelled (level ∷ src ∷ dst ∷ numbers ∷ bytes ∷ []) c h =
    send_by (level_named level) (host_of src) (host_of dst) (segments_of numbers) (bytes_of bytes) c
    (level_gives level) (host_gives src) (host_gives dst) (bytes_give bytes) h
send_spelled [] c h = absurd (cc)
send_spelled (level ∷ []) c h = absurd (cc)
send_spelled (level ∷ src ∷ []) c h = absurd (cc)
send_spelled (level ∷ src ∷ dst ∷ []) c h = absurd (cc)
send_spelled (level ∷ src ∷ dst ∷ numbers ∷ []) c h = absurd (cc)
send_spelled (level ∷ src ∷ dst ∷ numbers ∷ bytes ∷ next ∷ more) c h = absurd (cc)

turn_by : (a : Option AsId) (i : Option ℕ) (b : Option (List ℕ)) (c : Command) → Gives b IsBytes
    → on_word 2 a (λ a. on_word 3 i (λ i. on_word 4 b (λ b. Ok (command.Turn a i b)))) ≡ Ok c → IsSpelled c
turn_by (Some a) (Some i) (Some b) c bytes h = same_command (command.Turn a i b) c h (bytes b refl)
turn_by None i b c bytes h = absurd (cc)
turn_by (Some a) None b c bytes h = absurd (cc)
turn_by (Some a) (Some i) None c bytes h = absurd (cc)

turn_spelled : (arguments : List (List ℕ)) (c : Command) → turn_of arguments ≡ Ok c → IsSpelled c
turn_spelled (asn ∷ iface ∷ bytes ∷ []) c h = turn_by (as_named asn) (number_within most16 iface) (bytes_of bytes) c (bytes_give bytes) h
turn_spelled [] c h = absurd (cc)
turn_spelled (asn ∷ []) c h = absurd (cc)
turn_spelled (asn ∷ iface ∷ []) c h = absurd (cc)
turn_spelled (asn ∷ iface ∷ bytes ∷ next ∷ more) c h = absurd (cc)

arrive_by : (o : Option HostId) (b : Option (List ℕ)) (c : Command) → Gives o IsHost → Gives b IsBytes
    → on_word 2 o (λ o. on_word 3 b (λ b. Ok (command.Arrive o b))) ≡ Ok c → IsSpelled c
arrive_by (Some o) (Some b) c host bytes h = same_command (command.Arrive o b) c h (host o refl, bytes b refl)
arrive_by None b c host bytes h = absurd (cc)
arrive_by (Some o) None c host bytes h = absurd (cc)

arrive_spelled : (arguments : List (List ℕ)) (c : Command) → arrive_of arguments ≡ Ok c → IsSpelled c
arrive_spelled (host ∷ bytes ∷ []) c h = arrive_by (host_of host) (bytes_of bytes) c (host_gives host) (bytes_give bytes) h
arrive_spelled [] c h = absurd (cc)
arrive_spelled (host ∷ []) c h = absurd (cc)
arrive_spelled (host ∷ bytes ∷ next ∷ more) c h = absurd (cc)

-- a command of one word, of which nothing is asked
one_by : {A : Type 0} (o : Option A) (f : A → Command) (c : Command) → ((x : A) → IsSpelled (f x)) → on_word 2 o (λ x. Ok (f x)) ≡ Ok c → IsSpelled c
one_by (Some x) f c all h = same_command (f x) c h (all x)
one_by None f c all h = absurd (cc)

pass_spelled : (arguments : List (List ℕ)) (c : Command) → pass_of arguments ≡ Ok c → IsSpelled c
pass_spelled (emission ∷ []) c h = one_by (number_within most32 emission) (λ e. command.Pass e) c (λ _. tt) h
pass_spelled [] c h = absurd (cc)
pass_spelled (emission ∷ next ∷ more) c h = absurd (cc)

carry_spelled : (arguments : List (List ℕ)) (c : Command) → carry_of arguments ≡ Ok c → IsSpelled c
carry_spelled (emission ∷ []) c h = one_by (number_within most32 emission) (λ e. command.Carry e) c (λ _. tt) h
carry_spelled [] c h = absurd (cc)
carry_spelled (emission ∷ next ∷ more) c h = absurd (cc)

either_holder : (b : Bool) (h : Option HostId) (a : Option AsId) → Gives h IsHost
    → Gives (cond b (option_map (λ h. holder.Host h) h) (option_map (λ a. holder.As a) a)) HolderFits
either_holder true (Some h) a host who is = let same : holder.Host h ≡ who = cc in subst HolderFits same (host h refl)
either_holder true None a host who is = absurd (cc)
either_holder false h (Some a) host who is = let same : holder.As a ≡ who = cc in subst HolderFits same tt
either_holder false h None host who is = absurd (cc)

holder_gives : (text : List ℕ) → Gives (holder_named text) HolderFits
unfolding holder_named
holder_gives text = either_holder (list_any is_comma text) (host_of text) (as_named text) (host_gives text)

reveal_by : (o : Option Holder) (c : Command) → Gives o HolderFits → on_word 2 o (λ o. Ok (command.Reveal o)) ≡ Ok c → IsSpelled c
reveal_by (Some o) c fits h = same_command (command.Reveal o) c h (fits o refl)
reveal_by None c fits h = absurd (cc)

reveal_spelled : (arguments : List (List ℕ)) (c : Command) → reveal_of arguments ≡ Ok c → IsSpelled c
reveal_spelled (name ∷ []) c h = reveal_by (holder_named name) c (holder_gives name) h
reveal_spelled [] c h = absurd (cc)
reveal_spelled (name ∷ next ∷ more) c h = absurd (cc)

roll_spelled : (arguments : List (List ℕ)) (c : Command) → roll_of arguments ≡ Ok c → IsSpelled c
roll_spelled (asn ∷ []) c h = one_by (as_named asn) (λ a. command.Roll a) c (λ _. tt) h
roll_spelled [] c h = absurd (cc)
roll_spelled (asn ∷ next ∷ more) c h = absurd (cc)

-- one of two, as a test says
either : (b : Bool) (x y : Result Command ScriptKind) (c : Command) → (x ≡ Ok c → IsSpelled c) → (y ≡ Ok c → IsSpelled c) → cond b x y ≡ Ok c → IsSpelled c
either true x y c f g h = f h
either false x y c f g h = g h

rule_spelled : (verb : List ℕ) (arguments : List (List ℕ)) (c : Command) → run_rule verb arguments ≡ Ok c → IsSpelled c
rule_spelled verb arguments c h =
    either (bytes_eq verb (codes "at")) (at_of arguments) _ c (at_spelled arguments c)
    (either (bytes_eq verb (codes "originate")) (originate_of arguments) _ c (originate_spelled arguments c)
    (either (bytes_eq verb (codes "extend")) (extend_of arguments) _ c (extend_spelled arguments c)
    (either (bytes_eq verb (codes "fetch")) (fetch_of arguments) _ c (fetch_spelled arguments c)
    (either (bytes_eq verb (codes "paths")) (paths_of arguments) _ c (paths_spelled arguments c)
    (either (bytes_eq verb (codes "send")) (send_of arguments) _ c (send_spelled arguments c)
    (either (bytes_eq verb (codes "turn")) (turn_of arguments) _ c (turn_spelled arguments c)
    (either (bytes_eq verb (codes "arrive")) (arrive_of arguments) _ c (arrive_spelled arguments c)
    (either (bytes_eq verb (codes "pass")) (pass_of arguments) _ c (pass_spelled arguments c)
    (either (bytes_eq verb (codes "carry")) (carry_of arguments) _ c (carry_spelled arguments c)
    (either (bytes_eq verb (codes "reveal")) (reveal_of arguments) _ c (reveal_spelled arguments c)
    (either (bytes_eq verb (codes "roll")) (roll_of arguments) _ c (roll_spelled arguments c) (λ k. absurd (cc))))))))))))) h

-- ---- lines

ruled : (r : Result Command ScriptKind) (c : Command) → some_command r ≡ Ok (Some c) → r ≡ Ok c
ruled (Ok d) c h = cc
ruled (Err e) c h = absurd (cc)

of_words : (ws : List (List ℕ)) (c : Command) → words_command run_rule ws ≡ Ok (Some c) → IsSpelled c
of_words [] c h = absurd (cc)
of_words (verb ∷ arguments) c h = by (is_comment verb) h
  where
    by : (b : Bool) → cond b (Ok None) (some_command (run_rule verb arguments)) ≡ Ok (Some c) → IsSpelled c
    by true k = absurd (cc)
    by false k = rule_spelled verb arguments c (ruled (run_rule verb arguments) c k)

of_line : (line : List ℕ) (c : Command) → line_command run_rule line ≡ Ok (Some c) → IsSpelled c
of_line line c h = by (list_all is_text_byte line) h
  where
    by : (b : Bool) → cond b (words_command run_rule (words line)) (Err NotText) ≡ Ok (Some c) → IsSpelled c
    by true k = of_words (words line) c k
    by false k = absurd (cc)

abbrev IsGood : ℕ × Result Command ScriptKind → Type 0
IsGood (line, Ok c) = IsSpelled c
IsGood (line, Err kind) = Unit {0}

of_numbered : (number : ℕ) (ls : List (List ℕ)) → All IsGood (numbered run_rule number ls)
of_numbered number [] = All-nil IsGood
of_numbered number (line ∷ more) = by (of_numbered (number + 1) more) (line_command run_rule line) refl
  where
    by : All IsGood (numbered run_rule (number + 1) more) → (r : Result (Option Command) ScriptKind) → line_command run_rule line ≡ r
        → All IsGood (at_line number r (numbered run_rule (number + 1) more))
    by rest (Ok None) e = rest
    by rest (Ok (Some c)) e = All-cons IsGood (number, Ok c) (numbered run_rule (number + 1) more) (of_line line c e) rest
    by rest (Err kind) e = All-cons IsGood (number, Err kind) (numbered run_rule (number + 1) more) tt rest

fronted : (front : List Command) (r : Result (List Command) Fault) (cs : List Command) → with_front front r ≡ Ok cs → (ds : List Command) × (r ≡ Ok ds) × (front ++ ds ≡ cs)
fronted front (Ok ds) cs h = (ds, refl, cc)
fronted front (Err fault) cs h = absurd (cc)

of_entries : (count : ℕ) (entries : List (ℕ × Result Command ScriptKind)) (cs : List Command) → All IsGood entries → commands_after count entries ≡ Ok cs → All IsSpelled cs
of_entries count [] cs good h = let same : [] ≡ cs = cc in subst (All IsSpelled) same (All-nil IsSpelled)
of_entries count ((line, Err kind) ∷ more) cs good h = absurd (cc)
of_entries count ((line, Ok c) ∷ more) cs good h = by (λ ds is. of_entries (count + 1) more ds (All-tail IsGood (line, Ok c) more good) is) (ltb count MAX_COMMANDS) h
  where
    by : ((ds : List Command) → commands_after (count + 1) more ≡ Ok ds → All IsSpelled ds) → (b : Bool) → cond b (with_front (c ∷ []) (commands_after (count + 1) more)) (Err (line, TooMany)) ≡ Ok cs → All IsSpelled cs
    by others true k =
        let (ds, is, all) = fronted (c ∷ []) (commands_after (count + 1) more) cs k in
        subst (All IsSpelled) all (All-cons IsSpelled c ds (All-head IsGood (line, Ok c) more good) (others ds is))
    by others false k = absurd (cc)

pub commands_spelled : CommandsAreSpelled
commands_spelled text cs h = of_entries 0 (numbered run_rule 1 (lines text)) cs (of_numbered 1 (lines text)) h
