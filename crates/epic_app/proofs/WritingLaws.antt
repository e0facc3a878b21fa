-- Texts that are written piece by piece.
use Rattle.std.proofs.Common.{◌≡◌, ◌≤◌, ℕ, List, [], ◌++◌, Option, Result, Ok, Err, OnOk, OnErr, sym, ◌∙◌, append_assoc, arith}
use Rattle.epic_ports.specs.Faults.{FailsOnlyBy, Rose}
use Rattle.epic_ports.specs.Written.{Appends, WritesBefore}
use Rattle.epic_ports.specs.declared.error.PortError.{PortError}
use Rattle.epic_ports.specs.declared.error.PortError.TheVariants.{Failed, OutOfMemory}
use Rattle.epic_ports.proofs.Appended.{Appends-none, Appends-trans, AppendsFront-after, AppendsFront-more, AppendsFront-whole, WritesBefore-after, WritesBefore-more}
use Rattle.epic_app.specs.Writing.{Stops, Writes}

-- a text that was written as a whole
pub writes_all : {X : Type 0} (text : List ℕ) (old new : Option (List ℕ)) (before now : ℕ) (r : Result X PortError)
    → OnOk r (Appends old new text) → OnErr r (WritesBefore old new text) → FailsOnlyBy before now r → Writes text old new before now r
writes_all text old new before now (Ok x) ok err cause = ok
writes_all text old new before now (Err Failed) ok err cause = (err, cause)
writes_all text old new before now (Err OutOfMemory) ok err cause = absurd cause

-- an answer that is this error
pub writes_err : {X : Type 0} (text : List ℕ) (old new : Option (List ℕ)) (before now : ℕ) (r : Result X PortError) (e : PortError)
    → r ≡ Err e → Stops text old new before now e → Writes text old new before now r
writes_err text old new before now r e is stops = rw is stops

-- memory was wanting before anything was written
pub stops_first : (text : List ℕ) (old : Option (List ℕ)) (before now : ℕ) → Stops text old old before now OutOfMemory
stops_first text old before now = AppendsFront-more old old [] text (AppendsFront-whole old old [] (Appends-none old))

rose_in : (a b c : ℕ) → a ≤ b → Rose b c → Rose a c
rose_in a b c low rose = grind (arith, low, rose)

-- a text was written, and then less of another
pub stops_after : (u v w : Option (List ℕ)) (a b : List ℕ) (k m n : ℕ) (e : PortError) → Appends u v a → k ≤ m → Stops b v w m n e → Stops (a ++ b) u w k n e
stops_after u v w a b k m n Failed first low (less, rose) = (WritesBefore-after u v w a b first less, rose_in k m n low rose)
stops_after u v w a b k m n OutOfMemory first low front = AppendsFront-after u v w a b first front

-- less of a text is less of what begins with it
pub stops_more : (u v : Option (List ℕ)) (a b : List ℕ) (m n : ℕ) (e : PortError) → Stops a u v m n e → Stops (a ++ b) u v m n e
stops_more u v a b m n Failed (less, rose) = (WritesBefore-more u v a b less, rose)
stops_more u v a b m n OutOfMemory front = AppendsFront-more u v a b front

-- less of a piece, with text before it and after it
pub stops_in : (u v w : Option (List ℕ)) (front piece more all : List ℕ) (k m n : ℕ) (e : PortError) → Appends u v front → k ≤ m → Stops piece v w m n e
    → all ≡ front ++ (piece ++ more) → Stops all u w k n e
stops_in u v w front piece more all k m n e first low stops is =
    rw is (stops_after u v w front (piece ++ more) k m n e first low (stops_more v w piece more m n e stops))

-- a piece was written after those before it
pub piece_after : (u v w : Option (List ℕ)) (front piece more all : List ℕ) → Appends u v front →
    Appends v w piece → all ≡ front ++ (piece ++ more) →
    (front' : List ℕ) × Appends u w front' × (all ≡ front' ++ more)
piece_after u v w front piece more all before now is = (front ++ piece, Appends-trans u v w front piece before now, is ∙ sym (append_assoc front piece more))
