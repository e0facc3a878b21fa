-- The hops that a line names are of ASes that have a name.
use Rattle.std.proofs.Common.{◌≡◌, ◌≢◌, ℕ, ◌+◌, Bool, true, false, List, [], ◌∷◌, refl, ap, subst, arith}
use Rattle.std.specs.Prelude.{◌==◌, Option, Some, None, option_map, Result, Ok, Err, codes, bytes_eq, if◌then◌else◌, ⊤}
use Rattle.std.specs.List.{list_all}
use Rattle.std.proofs.lemmas.Option.{same_Some}
use Rattle.epic_num.specs.declared.hop.Body.{Body}
use Rattle.epic_num.specs.declared.hop.HopName.{HopName}
use Rattle.epic_num.specs.declared.key_name.KeyName.{KeyName}
use Rattle.epic_num.specs.declared.name.AsId.{AsId}
use Rattle.epic_num.specs.declared.verdict.Part.{Part}
use Rattle.epic_num.specs.declared.verdict.Part.TheVariants.{Link, Sigma}
use Rattle.epic_num.specs.Names.{as_of, number_within}
use Rattle.epic_num.proofs.OneSpelling.{as_spelling}
use Rattle.epic_text.specs.RunScript.{as_named, bytes_of, most8, most32}
use Rattle.epic_record.specs.declared.fault.FileKind.{FileKind}
use Rattle.epic_record.specs.declared.fault.FileKind.TheVariants.{BadPlace, NotText, UnknownVerb}
use Rattle.epic_record.specs.declared.told.Told.{Told}
use Rattle.epic_record.specs.declared.told.Told.TheVariants as told
use Rattle.epic_record.specs.declared.told.ToldForgery.{ToldForgery}
use Rattle.epic_record.specs.declared.told.ToldForgery.TheVariants as forgery
use Rattle.epic_record.specs.VerdictFile.{at_index, dest_told, hop_told, hop_verdict_of, told_at_dest, told_at_hop}
use Rattle.epic_record.specs.VerdictWords.{collided_of, forged_of, hop_named, opened_of, over_named, over_of, pair_of, plain_of, proved_of, signed_named, told_plainly, unclaimed_of, update_of, verdict_of}
use Rattle.epic_record.specs.Words.{body_named, is_plain_byte, on_word, on_words, pieces}
use Rattle.epic_judge.specs.Known.{IsNamed}

-- an AS that is read has a name
as_has_name : (text : List ℕ) (a : AsId) → as_named text ≡ Some a → a.0 ≢ 0
unfolding as_named
as_has_name text a e = by (as_of text) refl e
  where
    by : (o : Option ℕ) → as_of text ≡ o → option_map (λ n. record { 0 = n }) o ≡ Some a → a.0 ≢ 0
    by None is k = absurd (cc)
    by (Some n) is k =
        let read = ((as_spelling text n).0 is).0 in
        let same : n ≡ a.0 = ap (λ (b : AsId). b.0) (same_Some (record { 0 = n }) a k) in
        λ none. omega (arith, read.1, none, same)

hop_has_name : (n : ℕ) (asn generation body : List ℕ) (x : HopName) → hop_named n asn generation body ≡ Ok x → x.asn.0 ≢ 0
hop_has_name n asn generation body x e = by (as_named asn) refl (number_within most32 generation) (body_named body) e
  where
    by : (o : Option AsId) → as_named asn ≡ o → (g : Option ℕ) (b : Option Body)
        → on_word n o (λ a. on_word (n + 1) g (λ h. on_word (n + 2) b (λ c. Ok (record { asn = a; generation = h; body = c })))) ≡ Ok x → x.asn.0 ≢ 0
    by None is g b k = absurd (cc)
    by (Some a) is None b k = absurd (cc)
    by (Some a) is (Some h) None k = absurd (cc)
    by (Some a) is (Some h) (Some c) k =
        let same : record { asn = a; generation = h; body = c } ≡ x = cc in
        subst (λ (y : HopName). y.asn.0 ≢ 0) same (as_has_name asn a is)

-- ---- what is told names only such hops

abbrev AreNamed : Result Told FileKind → Type 0
AreNamed (Ok line) = IsNamed line
AreNamed (Err kind) = ⊤

by_word : {A : Type 0} (word : ℕ) (o : Option A) (next : A → Result Told FileKind) → ((a : A) → AreNamed (next a)) → AreNamed (on_word word o next)
by_word word None next h = tt
by_word word (Some a) next h = h a

by_words : {A : Type 0} (r : Result A FileKind) (next : A → Result Told FileKind) → ((a : A) → r ≡ Ok a → AreNamed (next a)) → AreNamed (on_words r next)
by_words (Err kind) next h = tt
by_words (Ok a) next h = h a refl

by_test : (b : Bool) (r s : Result Told FileKind) → AreNamed r → AreNamed s → AreNamed (if b then r else s)
by_test true r s h k = h
by_test false r s h k = k

proved_named : (n : ℕ) (at : Option ℕ) (words : List (List ℕ)) → AreNamed (proved_of n at words)
proved_named n at [] = tt
proved_named n at (first ∷ []) =
    by_word 2 at (λ j. on_word (n + 1) (number_within most32 first) (λ f. Ok (told.Proved f None)))
    (λ j. by_word (n + 1) (number_within most32 first) (λ f. Ok (told.Proved f None)) (λ f. tt))
proved_named n at (first ∷ second ∷ []) =
    by_word 2 at (λ j. on_word (n + 1) (number_within most32 first) (λ f. on_word (n + 2) (number_within most32 second) (λ s. Ok (told.Proved f (Some s)))))
    (λ j.
    by_word (n + 1) (number_within most32 first) (λ f. on_word (n + 2) (number_within most32 second) (λ s. Ok (told.Proved f (Some s))))
    (λ f. by_word (n + 2) (number_within most32 second) (λ s. Ok (told.Proved f (Some s))) (λ s. tt)))
proved_named n at (first ∷ second ∷ third ∷ more) = tt

unclaimed_named : (at : Option ℕ) (words : List (List ℕ)) → AreNamed (unclaimed_of at words)
unclaimed_named at [] = by_word 2 at (λ j. Ok told.Unclaimed) (λ j. tt)
unclaimed_named at (word ∷ more) = tt

opened_named : (n : ℕ) (at : Option ℕ) (words : List (List ℕ)) → AreNamed (opened_of n at words)
opened_named n at [] = tt
opened_named n at (step ∷ []) =
    by_word 2 at (λ j. on_word (n + 1) (number_within most32 step) (λ s. Ok (told.Opened s)))
    (λ j. by_word (n + 1) (number_within most32 step) (λ s. Ok (told.Opened s)) (λ s. tt))
opened_named n at (step ∷ other ∷ more) = tt

plainly_named : (what : ToldForgery) (r : Result ((KeyName × List ℕ) × List ℕ) FileKind) → AreNamed (told_plainly what r)
plainly_named what r = by_words r (λ s. Ok (told.Forged what s.0.0 s.0.1 s.1)) (λ s is. tt)

over_named' : (n : ℕ) (at : Option ℕ) (words : List (List ℕ)) → AreNamed (over_of n at words)
over_named' n at [] = tt
over_named' n at (a ∷ []) = tt
over_named' n at (a ∷ b ∷ []) = tt
over_named' n at (a ∷ b ∷ c ∷ []) = tt
over_named' n at (a ∷ b ∷ c ∷ d ∷ []) = tt
over_named' n at (key ∷ message ∷ over ∷ under ∷ tag ∷ []) =
    by_word 2 at
    (λ j. on_words (signed_named (n + 2) key message) (λ s. on_words (over_named (n + 4) over under) (λ what. on_word (n + 6) (bytes_of tag) (λ g. Ok (told.Forged what s.0 s.1 g)))))
    (λ j.
    by_words (signed_named (n + 2) key message) (λ s. on_words (over_named (n + 4) over under) (λ what. on_word (n + 6) (bytes_of tag) (λ g. Ok (told.Forged what s.0 s.1 g))))
    (λ s is.
    by_words (over_named (n + 4) over under) (λ what. on_word (n + 6) (bytes_of tag) (λ g. Ok (told.Forged what s.0 s.1 g)))
    (λ what h. by_word (n + 6) (bytes_of tag) (λ g. Ok (told.Forged what s.0 s.1 g)) (λ g. tt))))
over_named' n at (a ∷ b ∷ c ∷ d ∷ e ∷ f ∷ more) = tt

update_named : (n : ℕ) (at : Option ℕ) (words : List (List ℕ)) → AreNamed (update_of n at words)
update_named n at [] = tt
update_named n at (a ∷ []) = tt
update_named n at (a ∷ b ∷ []) = tt
update_named n at (a ∷ b ∷ c ∷ []) = tt
update_named n at (hop ∷ key ∷ message ∷ tag ∷ []) =
    by_word 2 at
    (λ j. on_word (n + 2) (number_within most8 hop) (λ h. on_words (signed_named (n + 3) key message) (λ s. on_word (n + 5) (bytes_of tag) (λ g. Ok (told.Forged (forgery.Update h) s.0 s.1 g)))))
    (λ j.
    by_word (n + 2) (number_within most8 hop) (λ h. on_words (signed_named (n + 3) key message) (λ s. on_word (n + 5) (bytes_of tag) (λ g. Ok (told.Forged (forgery.Update h) s.0 s.1 g))))
    (λ h.
    by_words (signed_named (n + 3) key message) (λ s. on_word (n + 5) (bytes_of tag) (λ g. Ok (told.Forged (forgery.Update h) s.0 s.1 g)))
    (λ s is. by_word (n + 5) (bytes_of tag) (λ g. Ok (told.Forged (forgery.Update h) s.0 s.1 g)) (λ g. tt))))
update_named n at (a ∷ b ∷ c ∷ d ∷ e ∷ more) = tt

forged_named : (n : ℕ) (at : Option ℕ) (words : List (List ℕ)) → AreNamed (forged_of n at words)
forged_named n at [] = tt
forged_named n at (what ∷ more) =
    by_test (bytes_eq what (codes "issue")) _ _ (plainly_named forgery.Issue (plain_of n at more))
    (by_test (bytes_eq what (codes "issue-over")) _ _ (over_named' n at more)
    (by_test (bytes_eq what (codes "field")) _ _ (plainly_named forgery.Field (plain_of n at more))
    (by_test (bytes_eq what (codes "update")) _ _ (update_named n at more)
    (by_test (bytes_eq what (codes "dest")) _ _ (plainly_named forgery.Dest (plain_of n at more)) tt))))

pair_named : (part : Part) (n : ℕ) (at : Option ℕ) (words : List (List ℕ)) → AreNamed (pair_of part n at words)
pair_named part n at [] = tt
pair_named part n at (a ∷ []) = tt
pair_named part n at (a ∷ b ∷ []) = tt
pair_named part n at (a ∷ b ∷ c ∷ []) = tt
pair_named part n at (a ∷ b ∷ c ∷ d ∷ []) = tt
pair_named part n at (a ∷ b ∷ c ∷ d ∷ e ∷ []) = tt
pair_named part n at (a ∷ b ∷ c ∷ d ∷ e ∷ f ∷ []) = tt
pair_named part n at (asn ∷ generation ∷ body ∷ other ∷ number ∷ another ∷ tag ∷ []) =
    by_word 2 at
    (λ j. on_words (hop_named (n + 2) asn generation body) (λ x. on_words (hop_named (n + 5) other number another) (λ y. on_word (n + 8) (bytes_of tag) (λ g. Ok (told.Collided part x y g)))))
    (λ j.
    by_words (hop_named (n + 2) asn generation body) (λ x. on_words (hop_named (n + 5) other number another) (λ y. on_word (n + 8) (bytes_of tag) (λ g. Ok (told.Collided part x y g))))
    (λ x is.
    by_words (hop_named (n + 5) other number another) (λ y. on_word (n + 8) (bytes_of tag) (λ g. Ok (told.Collided part x y g)))
    (λ y h.
    by_word (n + 8) (bytes_of tag) (λ g. Ok (told.Collided part x y g)) (λ g. hop_has_name (n + 5) other number another y h))))
pair_named part n at (a ∷ b ∷ c ∷ d ∷ e ∷ f ∷ g ∷ h ∷ more) = tt

collided_named : (n : ℕ) (at : Option ℕ) (words : List (List ℕ)) → AreNamed (collided_of n at words)
collided_named n at [] = tt
collided_named n at (part ∷ more) =
    by_test (bytes_eq part (codes "link")) _ _ (pair_named Link n at more)
    (by_test (bytes_eq part (codes "sigma")) _ _ (pair_named Sigma n at more) tt)

verdict_named : (n : ℕ) (at : Option ℕ) (words : List (List ℕ)) → AreNamed (verdict_of n at words)
verdict_named n at [] = tt
verdict_named n at (word ∷ more) =
    by_test (bytes_eq word (codes "proved")) _ _ (proved_named n at more)
    (by_test (bytes_eq word (codes "unclaimed")) _ _ (unclaimed_named at more)
    (by_test (bytes_eq word (codes "opened")) _ _ (opened_named n at more)
    (by_test (bytes_eq word (codes "forged")) _ _ (forged_named n at more)
    (by_test (bytes_eq word (codes "collided")) _ _ (collided_named n at more) tt))))

-- ---- lines

index_named : (hop : ℕ) (at : Option ℕ) (r : Result Told FileKind) → AreNamed r → AreNamed (at_index hop at r)
index_named hop at (Err kind) h = tt
index_named hop None (Ok line) h = tt
index_named hop (Some index) (Ok line) h = by_test (index == hop) (Ok line) (Err BadPlace) h tt

hop_verdict_named : (hop : ℕ) (words : List (List ℕ)) → AreNamed (hop_verdict_of hop words)
hop_verdict_named hop [] = tt
hop_verdict_named hop (index ∷ verdict) =
    index_named hop (number_within most8 index) (verdict_of 3 (number_within most8 index) verdict) (verdict_named 3 (number_within most8 index) verdict)

hop_words_named : (hop : ℕ) (words : List (List ℕ)) → AreNamed (hop_told hop words)
hop_words_named hop [] = tt
hop_words_named hop (verb ∷ more) = by_test (bytes_eq verb (codes "hop")) (hop_verdict_of hop more) (Err UnknownVerb) (hop_verdict_named hop more) tt

dest_words_named : (words : List (List ℕ)) → AreNamed (dest_told words)
dest_words_named [] = tt
dest_words_named (verb ∷ verdict) = by_test (bytes_eq verb (codes "dest")) (verdict_of 2 (Some 0) verdict) (Err UnknownVerb) (verdict_named 2 (Some 0) verdict) tt

pub hop_line_named : (hop : ℕ) (line : List ℕ) (told : Told) → told_at_hop hop line ≡ Ok told → IsNamed told
unfolding told_at_hop
hop_line_named hop line told e =
    subst AreNamed e (by_test (list_all is_plain_byte line) (hop_told hop (pieces line)) (Err NotText) (hop_words_named hop (pieces line)) tt)

pub dest_line_named : (line : List ℕ) (told : Told) → told_at_dest line ≡ Ok told → IsNamed told
unfolding told_at_dest
dest_line_named line told e =
    subst AreNamed e (by_test (list_all is_plain_byte line) (dest_told (pieces line)) (Err NotText) (dest_words_named (pieces line)) tt)
