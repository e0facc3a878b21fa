-- Pieces that are written one after the other.
use Rattle.std.proofs.Common.{◌≡◌, ℕ, ◌+◌, ◌<◌, Option, Bor, List, ◌++◌, length, drop, get_or, flat_map, ap, ◌∙◌}
use Rattle.std.proofs.lemmas.List.{drop_more}
use Rattle.epic_ports.specs.Written.{Appends, WritesBefore}
use Rattle.epic_ports.proofs.Appended.{WritesBefore-after, WritesBefore-more}

-- the piece at this place is the first of the pieces from there on
pub pieces_step : (pieces : List (Bor (List ℕ))) (i : ℕ) (d : Bor (List ℕ)) (front all : List ℕ) →
    i < length pieces →
    all ≡ front ++ flat_map (λ piece. piece.now) (drop i pieces) →
    all ≡ front ++ ((get_or pieces i d).now ++ flat_map (λ piece. piece.now) (drop (i + 1) pieces))
pieces_step pieces i d front all within is =
    is ∙ ap (λ (rest : List (Bor (List ℕ))). front ++ flat_map (λ piece. piece.now) rest) (drop_more pieces i d within)

-- less of a piece was written after those before it
pub less_in_piece : (u v w : Option (List ℕ)) (front piece more all : List ℕ) → Appends u v front →
    WritesBefore v w piece → all ≡ front ++ (piece ++ more) → WritesBefore u w all
less_in_piece u v w front piece more all before less is =
    rw is (WritesBefore-after u v w front (piece ++ more) before (WritesBefore-more v w piece more less))
