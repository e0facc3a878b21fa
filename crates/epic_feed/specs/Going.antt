-- Private: serves proofs of this crate alone; no public contract cites it.
-- How far a file was read, and what a reader was fed of it.
use Rattle.std.specs.Prelude.{◌≡◌, ℕ, ◌+◌, ◌<◌, ◌≤◌, List, [], ◌++◌, length, drop, Option, Some, None, Result, Ok, Err, ⊤}
use Rattle.epic_capture.specs.Records.{Captured, Records, whole}
use Rattle.epic_capture.specs.Streams.{Stream}
use Rattle.epic_ports.specs.Files.{Files}
use Rattle.epic_feed.specs.declared.damage.Damage.{Damage}
use Rattle.epic_feed.specs.declared.feeding.FeedError.{FeedError}
use Rattle.epic_feed.specs.declared.feeding.FeedError.TheVariants.{Damaged, Failed, Stopped, OutOfMemory}
use Rattle.epic_feed.specs.Files.{Holds}

-- a file begins with these bytes, and has no others where they are fewer than four
pub record Opens (contents : Option Files) (name first : List ℕ) : Type 0 where
  pub rest : List ℕ
  pub holds : Holds contents name (first ++ rest)
  pub few : length first < 4 → rest ≡ []

-- these are bytes of a file from `at` on; none comes only at its end
abbrev pub AreNext : Option Files → List ℕ → ℕ → List ℕ → Type 0
AreNext None name at piece = ⊤
AreNext (Some files) name at piece =
    (bytes : List ℕ) × (back : List ℕ) × (files name ≡ Some bytes) × (drop at bytes ≡ piece ++ back) × (length piece ≡ 0 → length bytes ≤ at)

-- a reader was fed so many further bytes of a file
pub record FedMore {R E : Type 0} (stream : Stream R E) (contents : Option Files) (name : List ℕ) (at n : ℕ) (old new : R) : Type 0 where
  pub piece : List ℕ
  pub are : AreNext contents name at piece
  pub count : length piece ≡ n
  pub bytes : (rest : List ℕ) → stream.to_come new rest ≡ stream.to_come old (piece ++ rest)
  pub fed : stream.fed new ≡ stream.fed old + n
  pub held : length (stream.held new) ≡ length (stream.held old) + n
  pub room : length (stream.held new) ≤ stream.size

-- the rest of a file has no records, and this damage or none
abbrev pub EndsSo : {X : Type 0} → Records Damage → Result X FeedError → Type 0
EndsSo r (Ok x) = r ≡ whole
EndsSo r (Err (Damaged e)) = r ≡ record { items = []; damage = Some e }
EndsSo r (Err Failed) = ⊥
EndsSo r (Err (Stopped e)) = ⊥
EndsSo r (Err OutOfMemory) = ⊥

-- these records stand before the others
abbrev pub with_records : {E : Type 0} → List Captured → Records E → Records E
with_records xs more = record { items = xs ++ more.items; damage = more.damage }

-- A reader that was in a state once is in another now: it was fed the bytes of a file up to `at`, of which these were
-- first, and handed out these records, which were taken. What is to come to it is what came besides.
pub record Going {R E : Type 0} (stream : Stream R E) (contents : Option Files) (name first : List ℕ) (start now : R) (at room : ℕ) (took : List Captured → Type 0) : Type 0 where
  pub items : List Captured
  pub more : List ℕ
  pub rest : List ℕ
  pub holds : Holds contents name ((first ++ more) ++ rest)
  pub same : (back : List ℕ) → stream.to_come start ((first ++ more) ++ back) ≡ with_records items (stream.to_come now back)
  pub at_is : length (first ++ more) ≡ at
  pub fed : stream.fed now ≡ at
  pub far : at ≤ 67174400
  pub held : length (stream.held now) ≤ stream.size
  pub left : 262144 ≤ room + length items
  pub did : took items
