-- A body by its bytes, one by one.
use Rattle.std.proofs.Common.{◌≡◌, ℕ, List, [], ◌∷◌, length, get_or, refl, arith}
use Rattle.std.specs.Int.{w16, w32, from_be_bytes}
use Rattle.epic_num.specs.declared.hop.Body.{Body}
use Rattle.epic_record.specs.Words.{body_of}

abbrev body_by_reads : List ℕ → Body
body_by_reads bs = record {
  pos = get_or bs 0 0;
  exp = get_or bs 1 0;
  ts_path = from_be_bytes w32 (get_or bs 2 0 ∷ get_or bs 3 0 ∷ get_or bs 4 0 ∷ get_or bs 5 0 ∷ []);
  inn = from_be_bytes w16 (get_or bs 6 0 ∷ get_or bs 7 0 ∷ []);
  out = from_be_bytes w16 (get_or bs 8 0 ∷ get_or bs 9 0 ∷ []);
  link = get_or bs 10 0 ∷ get_or bs 11 0 ∷ get_or bs 12 0 ∷ get_or bs 13 0 ∷ get_or bs 14 0 ∷ get_or bs 15 0 ∷ get_or bs 16 0 ∷ get_or bs 17 0 ∷ [];
}

pub body_by_reads-is : (bs : List ℕ) → length bs ≡ 18 → body_by_reads bs ≡ body_of bs
unfolding body_of
body_by_reads-is (b0 ∷ b1 ∷ b2 ∷ b3 ∷ b4 ∷ b5 ∷ b6 ∷ b7 ∷ b8 ∷ b9 ∷ l0 ∷ l1 ∷ l2 ∷ l3 ∷ l4 ∷ l5 ∷ l6 ∷ l7 ∷ []) n = refl
body_by_reads-is _ n = absurd (omega (arith, n))
