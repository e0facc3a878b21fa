-- What follows of bytes that were written in pieces.
use Rattle.std.proofs.Common.{◌≡◌, ◌<◌, List, ℕ, [], ◌∷◌, ◌++◌, length, Option, Some, None, Result, Ok, Err, OnErr, sym, ◌∙◌, ap, subst, append_assoc, append-nil, arith}
use Rattle.epic_ports.specs.Written.{Appends, AppendsFront, Keeps, WritesBefore}

-- nothing was written where nothing changed
pub Appends-none : (w : Option (List ℕ)) → Appends w w []
Appends-none None = tt
Appends-none (Some w) = sym (append-nil w)

-- a piece and then another is both together
pub Appends-trans : (u v w : Option (List ℕ)) (a b : List ℕ)
    → Appends u v a
    → Appends v w b
    → Appends u w (a ++ b)
Appends-trans None v w a b first second = tt
Appends-trans (Some u) None w a b first second = absurd first
Appends-trans (Some u) (Some v) None a b first second = absurd second
Appends-trans (Some u) (Some v) (Some w) a b first second = second ∙ ap (λ x. x ++ b) first ∙ append_assoc u a b

-- what is kept is written with nothing added
pub Appends-kept : (v w : Option (List ℕ)) → Keeps v w → Appends v w []
Appends-kept None w keeps = tt
Appends-kept (Some v) None keeps = absurd keeps
Appends-kept (Some v) (Some w) keeps = keeps ∙ sym (append-nil v)

-- after a piece was written, a front of the next piece was written
pub AppendsFront-after : (u v w : Option (List ℕ)) (a b : List ℕ)
    → Appends u v a
    → AppendsFront v w b
    → AppendsFront u w (a ++ b)
AppendsFront-after u v w a b first (front, back, is, second) =
    (a ++ front, back, ap (λ x. a ++ x) is ∙ sym (append_assoc a front back), Appends-trans u v w a front first second)

-- a front of a piece is a front of what begins with that piece
pub AppendsFront-more : (u v : Option (List ℕ)) (a b : List ℕ)
    → AppendsFront u v a
    → AppendsFront u v (a ++ b)
AppendsFront-more u v a b (front, back, is, first) =
    (front, back ++ b, ap (λ x. x ++ b) is ∙ append_assoc front back b, first)

-- a whole piece is a front of it
pub AppendsFront-whole : (u v : Option (List ℕ)) (a : List ℕ) → Appends u v a → AppendsFront u v a
AppendsFront-whole u v a first = (a, [], sym (append-nil a), first)

-- a fact holds on an error of any result
pub on_err : {X E : Type 0} (r : Result X E) (P : Type 0) → P → OnErr r P
on_err (Ok x) P p = tt
on_err (Err e) P p = p

-- what is kept after a piece leaves that piece
pub Appends-then_kept : (u v w : Option (List ℕ)) (a : List ℕ) → Appends u v a → Keeps v w → Appends u w a
Appends-then_kept u v w a first keeps =
    let P = Appends u w in subst P (append-nil a) (Appends-trans u v w a [] first (Appends-kept v w keeps))

-- some bytes were written, of those that are left none, and there are some
pub WritesBefore-here : (u v w : Option (List ℕ)) (front rest bytes : List ℕ)
    → bytes ≡ front ++ rest
    → 0 < length rest
    → Appends u v front
    → Keeps v w
    → WritesBefore u w bytes
WritesBefore-here u v w front [] bytes is some first keeps = absurd (omega arith)
WritesBefore-here u v w front (byte ∷ back) bytes is some first keeps = record {
  front = front;
  byte = byte;
  back = back;
  order = is;
  written = Appends-then_kept u v w front first keeps;
}

-- after a piece was written, less of the next piece was
pub WritesBefore-after : (u v w : Option (List ℕ)) (a b : List ℕ)
    → Appends u v a
    → WritesBefore v w b
    → WritesBefore u w (a ++ b)
WritesBefore-after u v w a b first next = record {
  front = a ++ next.front;
  byte = next.byte;
  back = next.back;
  order = ap (λ x. a ++ x) next.order ∙ sym (append_assoc a next.front (next.byte ∷ next.back));
  written = Appends-trans u v w a next.front first next.written;
}

-- less of a piece is less of what begins with that piece
pub WritesBefore-more : (u v : Option (List ℕ)) (a b : List ℕ)
    → WritesBefore u v a
    → WritesBefore u v (a ++ b)
WritesBefore-more u v a b less = record {
  front = less.front;
  byte = less.byte;
  back = less.back ++ b;
  order = ap (λ x. x ++ b) less.order ∙ append_assoc less.front (less.byte ∷ less.back) b;
  written = less.written;
}
