-- A body and its 18 bytes.
use Rattle.std.proofs.Common.{◌≡◌, ℕ, zero, suc, ◌<◌, List, [], ◌∷◌, ◌++◌, length, get_or, refl, arith}
use Rattle.std.specs.Int.{w16, w32, from_be_bytes}
use Rattle.std.proofs.lemmas.Nat.{be_bytes_2, be_bytes_4}
use Rattle.epic_num.specs.declared.hop.Body.{Body}
use Rattle.epic_num.specs.BigEndian.{u16_bytes, u32_bytes}
use Rattle.epic_num.specs.Bodies.{body_bytes}
use Rattle.epic_app.specs.Spelling.{body_of}

-- the parts, byte by byte
abbrev body_by_reads : List ℕ → Body
body_by_reads bs = record {
  pos = get_or bs 0 0;
  exp = get_or bs 1 0;
  ts_path = from_be_bytes w32 (get_or bs 2 0 ∷ get_or bs 3 0 ∷ get_or bs 4 0 ∷ get_or bs 5 0 ∷ []);
  inn = from_be_bytes w16 (get_or bs 6 0 ∷ get_or bs 7 0 ∷ []);
  out = from_be_bytes w16 (get_or bs 8 0 ∷ get_or bs 9 0 ∷ []);
  link = get_or bs 10 0 ∷ get_or bs 11 0 ∷ get_or bs 12 0 ∷ get_or bs 13 0 ∷ get_or bs 14 0 ∷ get_or bs 15 0 ∷ get_or bs 16 0 ∷ get_or bs 17 0 ∷ [];
}

pub body_of-by_reads : (bs : List ℕ) → length bs ≡ 18 → body_by_reads bs ≡ body_of bs
unfolding body_of
body_of-by_reads (b0 ∷ b1 ∷ b2 ∷ b3 ∷ b4 ∷ b5 ∷ b6 ∷ b7 ∷ b8 ∷ b9 ∷ l0 ∷ l1 ∷ l2 ∷ l3 ∷ l4 ∷ l5 ∷ l6 ∷ l7 ∷ []) n = refl
body_of-by_reads _ n = absurd (omega (arith, n))

two_bytes : (a b : ℕ) → a < 256 → b < 256 → (i : ℕ) → get_or (a ∷ b ∷ []) i 0 < 256
two_bytes a b af bf zero = af
two_bytes a b af bf (suc zero) = bf
two_bytes a b af bf (suc (suc i)) = omega arith

four_bytes : (a b c d : ℕ) → a < 256 → b < 256 → c < 256 → d < 256 → (i : ℕ) →
    get_or (a ∷ b ∷ c ∷ d ∷ []) i 0 < 256
four_bytes a b c d af bf cf df zero = af
four_bytes a b c d af bf cf df (suc zero) = bf
four_bytes a b c d af bf cf df (suc (suc zero)) = cf
four_bytes a b c d af bf cf df (suc (suc (suc zero))) = df
four_bytes a b c d af bf cf df (suc (suc (suc (suc i)))) = omega arith

-- the body that 18 bytes spell has these bytes
pub body_bytes-by_reads : (bs : List ℕ) → length bs ≡ 18 → ((i : ℕ) → get_or bs i 0 < 256) →
    body_bytes (body_by_reads bs) ≡ bs
unfolding body_bytes u16_bytes u32_bytes
body_bytes-by_reads (b0 ∷ b1 ∷ b2 ∷ b3 ∷ b4 ∷ b5 ∷ b6 ∷ b7 ∷ b8 ∷ b9 ∷ l0 ∷ l1 ∷ l2 ∷ l3 ∷ l4 ∷ l5 ∷ l6 ∷ l7 ∷ []) n f =
    let link = l0 ∷ l1 ∷ l2 ∷ l3 ∷ l4 ∷ l5 ∷ l6 ∷ l7 ∷ [] in
    let ts = be_bytes_4 (b2 ∷ b3 ∷ b4 ∷ b5 ∷ []) (from_be_bytes w32 (b2 ∷ b3 ∷ b4 ∷ b5 ∷ [])) refl (four_bytes b2 b3 b4 b5 (f 2) (f 3) (f 4) (f 5)) refl in
    let inn = be_bytes_2 (b6 ∷ b7 ∷ []) (from_be_bytes w16 (b6 ∷ b7 ∷ [])) refl (two_bytes b6 b7 (f 6) (f 7)) refl in
    let out = be_bytes_2 (b8 ∷ b9 ∷ []) (from_be_bytes w16 (b8 ∷ b9 ∷ [])) refl (two_bytes b8 b9 (f 8) (f 9)) refl in
    λ i. b0 ∷ b1 ∷ (ts i ++ (inn i ++ (out i ++ link)))
body_bytes-by_reads _ n f = absurd (omega (arith, n))
