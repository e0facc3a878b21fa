-- What the words of a verdict tell, or their fault. A word that chooses their form is told first, then the number of words, then
-- the first bad word of the line.
use Rattle.std.specs.Prelude.{ℕ, ◌+◌, List, [], ◌∷◌, Option, Some, None, option_map, option_and_then, Result, Ok, Err, codes, bytes_eq, if◌then◌else◌}
use Rattle.std.specs.List.{slice_split}
use Rattle.std.specs.Option.{option_zip}
use Rattle.epic_num.specs.declared.hop.HopName.{HopName}
use Rattle.epic_num.specs.declared.key_name.KeyName.{KeyName}
use Rattle.epic_num.specs.declared.key_name.KeyName.TheVariants as keys
use Rattle.epic_num.specs.declared.name.HostId.{HostId}
use Rattle.epic_num.specs.declared.verdict.Part.{Part}
use Rattle.epic_num.specs.declared.verdict.Part.TheVariants.{Link, Sigma}
use Rattle.epic_num.specs.Names.{as_from, number_within}
use Rattle.epic_text.specs.RunScript.{as_named, bytes_of, is_comma, most8, most32, most64}
use Rattle.epic_record.specs.declared.fault.FileKind.{FileKind}
use Rattle.epic_record.specs.declared.fault.FileKind.TheVariants.{WordCount, BadWord}
use Rattle.epic_record.specs.declared.told.Told.{Told}
use Rattle.epic_record.specs.declared.told.Told.TheVariants as told
use Rattle.epic_record.specs.declared.told.ToldForgery.{ToldForgery}
use Rattle.epic_record.specs.declared.told.ToldForgery.TheVariants as forgery
use Rattle.epic_record.specs.Words.{body_named, on_word, on_words}

-- ---- names of keys

-- the host of an AS, whose isolation domain and number are `least` or more, by the texts of both
abbrev pub host_in : ℕ → List ℕ → List ℕ → Option HostId
host_in least asn number =
    option_map (λ p. record { asn = record { 0 = p.0 }; host = p.1 })
    (option_zip (as_from least asn) (number_within most32 number))

-- the forwarding key of an AS and a generation
abbrev pub fwd_named : List ℕ → List ℕ → Option KeyName
fwd_named asn generation =
    option_map (λ p. keys.Fwd p.0 p.1) (option_zip (as_named asn) (number_within most32 generation))

-- the key that an AS shares with a source, of any AS, in an epoch
abbrev pub field_named : List ℕ → List ℕ → List ℕ → List ℕ → Option KeyName
field_named asn src host epoch =
    option_map (λ p. keys.Field p.0 p.1.0 p.1.1)
    (option_zip (as_named asn) (option_zip (host_in 0 src host) (number_within most64 epoch)))

-- the key that a destination shares with a source, of any AS, in an epoch
abbrev pub dest_named : List ℕ → List ℕ → List ℕ → List ℕ → List ℕ → Option KeyName
dest_named dst number src host epoch =
    option_map (λ p. keys.Dest p.0 p.1.0 p.1.1)
    (option_zip (host_in 1 dst number) (option_zip (host_in 0 src host) (number_within most64 epoch)))

-- the parts of a key's name
abbrev pub key_of : List (List ℕ) → Option KeyName
key_of (kind ∷ asn ∷ generation ∷ []) =
    if bytes_eq kind (codes "fwd") then fwd_named asn generation else None
key_of (kind ∷ asn ∷ src ∷ host ∷ epoch ∷ []) =
    if bytes_eq kind (codes "field") then field_named asn src host epoch else None
key_of (kind ∷ dst ∷ number ∷ src ∷ host ∷ epoch ∷ []) =
    if bytes_eq kind (codes "dest") then dest_named dst number src host epoch else None
key_of parts = None

-- the key that a word names: `fwd,AS,G`, `field,AS,AS,HOST,EPOCH` or `dest,AS,HOST,AS,HOST,EPOCH`
unfoldable pub key_named : List ℕ → Option KeyName
key_named text = key_of (slice_split is_comma text)

-- a key that an AS shares with a source
abbrev pub field_key : KeyName → Option (Option KeyName)
field_key (keys.Field a src epoch) = Some (Some (keys.Field a src epoch))
field_key key = None

-- the key of a field over an authenticator: the authenticator itself, which has no name but `sigma`, or a key shared with the source
unfoldable pub over_key_named : List ℕ → Option (Option KeyName)
over_key_named text = if bytes_eq text (codes "sigma") then Some None else option_and_then field_key (key_named text)

-- ---- verdicts

-- The first word of a verdict has the number `n` in its line. `at` is what the line's second word says of the hop's index, and
-- is judged before the words of the verdict; at a destination nothing is to be judged.

-- `proved FIRST` or `proved FIRST SECOND`, the words after `proved`
abbrev pub proved_of : ℕ → Option ℕ → List (List ℕ) → Result Told FileKind
proved_of n at (first ∷ []) =
    on_word 2 at (λ j. on_word (n + 1) (number_within most32 first) (λ f. Ok (told.Proved f None)))
proved_of n at (first ∷ second ∷ []) =
    on_word 2 at (λ j.
    on_word (n + 1) (number_within most32 first) (λ f.
    on_word (n + 2) (number_within most32 second) (λ s. Ok (told.Proved f (Some s)))))
proved_of n at arguments = Err WordCount

-- `unclaimed`
abbrev pub unclaimed_of : Option ℕ → List (List ℕ) → Result Told FileKind
unclaimed_of at [] = on_word 2 at (λ j. Ok told.Unclaimed)
unclaimed_of at arguments = Err WordCount

-- `opened STEP`
abbrev pub opened_of : ℕ → Option ℕ → List (List ℕ) → Result Told FileKind
opened_of n at (step ∷ []) =
    on_word 2 at (λ j. on_word (n + 1) (number_within most32 step) (λ s. Ok (told.Opened s)))
opened_of n at arguments = Err WordCount

-- a key and what a tag is made over under it, the first of which has the number `n`
abbrev pub signed_named : ℕ → List ℕ → List ℕ → Result (KeyName × List ℕ) FileKind
signed_named n key message = on_word n (key_named key) (λ k. on_word (n + 1) (bytes_of message) (λ m. Ok (k, m)))

-- the key of a field over an authenticator, and what the field is made over
abbrev pub over_named : ℕ → List ℕ → List ℕ → Result ToldForgery FileKind
over_named n key message =
    on_word n (over_key_named key) (λ k. on_word (n + 1) (bytes_of message) (λ m. Ok (forgery.Over k m)))

-- `forged issue KEY MESSAGE TAG`, or `field` or `dest` in place of `issue`: the words from KEY on
abbrev pub plain_of : ℕ → Option ℕ → List (List ℕ) → Result ((KeyName × List ℕ) × List ℕ) FileKind
plain_of n at (key ∷ message ∷ tag ∷ []) =
    on_word 2 at (λ j.
    on_words (signed_named (n + 2) key message) (λ s.
    on_word (n + 4) (bytes_of tag) (λ g. Ok (s, g))))
plain_of n at arguments = Err WordCount

abbrev pub told_plainly : ToldForgery → Result ((KeyName × List ℕ) × List ℕ) FileKind → Result Told FileKind
told_plainly what words = on_words words (λ s. Ok (told.Forged what s.0.0 s.0.1 s.1))

-- `forged issue-over KEY MESSAGE KEY MESSAGE TAG`: the words from the first KEY on
abbrev pub over_of : ℕ → Option ℕ → List (List ℕ) → Result Told FileKind
over_of n at (key ∷ message ∷ over ∷ under ∷ tag ∷ []) =
    on_word 2 at (λ j.
    on_words (signed_named (n + 2) key message) (λ s.
    on_words (over_named (n + 4) over under) (λ what.
    on_word (n + 6) (bytes_of tag) (λ g. Ok (told.Forged what s.0 s.1 g)))))
over_of n at arguments = Err WordCount

-- `forged update HOP KEY MESSAGE TAG`: the words from HOP on
abbrev pub update_of : ℕ → Option ℕ → List (List ℕ) → Result Told FileKind
update_of n at (hop ∷ key ∷ message ∷ tag ∷ []) =
    on_word 2 at (λ j.
    on_word (n + 2) (number_within most8 hop) (λ h.
    on_words (signed_named (n + 3) key message) (λ s.
    on_word (n + 5) (bytes_of tag) (λ g. Ok (told.Forged (forgery.Update h) s.0 s.1 g)))))
update_of n at arguments = Err WordCount

-- the words after `forged`
abbrev pub forged_of : ℕ → Option ℕ → List (List ℕ) → Result Told FileKind
forged_of n at [] = Err WordCount
forged_of n at (what ∷ more) =
    if bytes_eq what (codes "issue") then told_plainly forgery.Issue (plain_of n at more)
    else if bytes_eq what (codes "issue-over") then over_of n at more
    else if bytes_eq what (codes "field") then told_plainly forgery.Field (plain_of n at more)
    else if bytes_eq what (codes "update") then update_of n at more
    else if bytes_eq what (codes "dest") then told_plainly forgery.Dest (plain_of n at more)
    else Err (BadWord (n + 1))

-- a hop's AS, the generation of its key and its body, the first of which has the number `n`
abbrev pub hop_named : ℕ → List ℕ → List ℕ → List ℕ → Result HopName FileKind
hop_named n asn generation body =
    on_word n (as_named asn) (λ a.
    on_word (n + 1) (number_within most32 generation) (λ g.
    on_word (n + 2) (body_named body) (λ b. Ok (record { asn = a; generation = g; body = b }))))

-- `collided PART AS G BODY AS G BODY TAG`: the words after PART
abbrev pub pair_of : Part → ℕ → Option ℕ → List (List ℕ) → Result Told FileKind
pair_of part n at (asn ∷ generation ∷ body ∷ other ∷ number ∷ another ∷ tag ∷ []) =
    on_word 2 at (λ j.
    on_words (hop_named (n + 2) asn generation body) (λ x.
    on_words (hop_named (n + 5) other number another) (λ y.
    on_word (n + 8) (bytes_of tag) (λ g. Ok (told.Collided part x y g)))))
pair_of part n at arguments = Err WordCount

-- the words after `collided`
abbrev pub collided_of : ℕ → Option ℕ → List (List ℕ) → Result Told FileKind
collided_of n at [] = Err WordCount
collided_of n at (part ∷ more) =
    if bytes_eq part (codes "link") then pair_of Link n at more
    else if bytes_eq part (codes "sigma") then pair_of Sigma n at more
    else Err (BadWord (n + 1))

-- the words of a verdict
abbrev pub verdict_of : ℕ → Option ℕ → List (List ℕ) → Result Told FileKind
verdict_of n at [] = Err WordCount
verdict_of n at (word ∷ more) =
    if bytes_eq word (codes "proved") then proved_of n at more
    else if bytes_eq word (codes "unclaimed") then unclaimed_of at more
    else if bytes_eq word (codes "opened") then opened_of n at more
    else if bytes_eq word (codes "forged") then forged_of n at more
    else if bytes_eq word (codes "collided") then collided_of n at more
    else Err (BadWord n)
