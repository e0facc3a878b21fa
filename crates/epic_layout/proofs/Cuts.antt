-- Pieces of a list of bytes, cut and joined.
use Rattle.std.proofs.Common.{◌≡◌, ℕ, Fits, w8, zero, suc, ◌+◌, ◌*◌, ◌^◌, ◌<◌, ◌≤◌, List, [], ◌∷◌, ◌++◌, length, take, drop, refl, ap, sym, ◌∙◌, arith, ⊎_elim}
use Rattle.std.specs.List.{flat_map, range_with_len}
use Rattle.std.specs.Int.{w16, w32, w64}
use Rattle.std.proofs.Math.Seq.{take-add}
use Rattle.std.proofs.lemmas.Bool.{cases_lt}
use Rattle.std.proofs.lemmas.List.{append-nil, take-append-drop, drop-drop, drop_more, get_or-take, get_or-drop, get_or_past, length-take, length-take-le, length-drop}
use Rattle.std.proofs.lemmas.List.Concat.{flat_map-append}
use Rattle.std.proofs.lemmas.List.Elements.{All-take, All-drop, All-from_get_or}
use Rattle.std.proofs.lemmas.Nat.{be_bytes_2, be_bytes_4, be_bytes_8}
use Rattle.epic_num.specs.BigEndian.{u16_bytes, u32_bytes, u64_bytes}
use Rattle.epic_layout.specs.Pieces.{byte, piece, number}
use Rattle.epic_layout.specs.Contents.{IsBytes}
use Rattle.epic_layout.proofs.Ranges.{range_more}

pub byte_fits : (b : List ℕ) → IsBytes b → (i : ℕ) → byte b i < 256
byte_fits b h i = ⊎_elim (λ l. h i 0 l) (λ past. rw (get_or_past b i 0 past) (omega arith)) (cases_lt i (length b))

pub byte-piece : (b : List ℕ) (at n i : ℕ) → i < n → byte (piece b at n) i ≡ byte b (at + i)
byte-piece b at n i h = get_or-take n (drop at b) i 0 h ∙ get_or-drop at b i 0

short : (b : List ℕ) (at n i : ℕ) → n ≤ i → length (piece b at n) ≤ i
short b at n i h = omega (arith, length-take n (drop at b))

pub piece_fits : (b : List ℕ) → IsBytes b → (at n : ℕ) → (i : ℕ) → byte (piece b at n) i < 256
piece_fits b h at n i =
    ⊎_elim (λ l. rw (byte-piece b at n i l) (byte_fits b h (at + i)))
    (λ past. rw (get_or_past (piece b at n) i 0 (short b at n i past)) (omega arith)) (cases_lt i n)

-- a piece of a packet's bytes is made of bytes
pub IsBytes-piece : (b : List ℕ) → IsBytes b → (at n : ℕ) → IsBytes (piece b at n)
IsBytes-piece b h at n = All-take (λ x. x < 256) n (drop at b) (All-drop (λ x. x < 256) at b h)

pub length-piece : (b : List ℕ) (at n : ℕ) → at + n ≤ length b → length (piece b at n) ≡ n
length-piece b at n h = length-take-le n (drop at b) (omega (arith, length-drop at b))

-- a piece is a piece and the piece after it
pub piece-add : (b : List ℕ) (at m n : ℕ) → piece b at (m + n) ≡ piece b at m ++ piece b (at + m) n
piece-add b at m n = take-add m n (drop at b) ∙ ap (λ xs. piece b at m ++ take n xs) (drop-drop m at b)

-- what is left is a piece and what is left after it
pub drop-piece : (b : List ℕ) (at n : ℕ) → drop at b ≡ piece b at n ++ drop (at + n) b
drop-piece b at n = sym (take-append-drop n (drop at b)) ∙ ap (λ xs. piece b at n ++ xs) (drop-drop n at b)

pub piece-suc : (b : List ℕ) (at n : ℕ) → at < length b → piece b at (suc n) ≡ byte b at ∷ piece b (at + 1) n
piece-suc b at n h = ap (take (suc n)) (drop_more b at 0 h)

pub piece_2 : (b : List ℕ) (at n : ℕ) → at + 1 < length b → piece b at (suc (suc n)) ≡ byte b at ∷ byte b (at + 1) ∷ piece b (at + 2) n
piece_2 b at n h =
    let next : (at + 1) + 1 ≡ at + 2 = omega arith in
    piece-suc b at (suc n) (omega arith)
    ∙ ap (λ xs. byte b at ∷ xs) (piece-suc b (at + 1) n h)
    ∙ ap (λ k. byte b at ∷ byte b (at + 1) ∷ piece b k n) next

pub piece_4 : (b : List ℕ) (at n : ℕ) → at + 3 < length b → piece b at (suc (suc (suc (suc n)))) ≡ byte b at ∷ byte b (at + 1) ∷ byte b (at + 2) ∷ byte b (at + 3) ∷ piece b (at + 4) n
piece_4 b at n h =
    let third : (at + 2) + 1 ≡ at + 3 = omega arith in
    let rest : (at + 2) + 2 ≡ at + 4 = omega arith in
    piece_2 b at (suc (suc n)) (omega arith)
    ∙ ap (λ xs. byte b at ∷ byte b (at + 1) ∷ xs) (piece_2 b (at + 2) n (omega arith))
    ∙ (λ i. byte b at ∷ byte b (at + 1) ∷ byte b (at + 2) ∷ byte b (third i) ∷ piece b (rest i) n)

-- numbers read and written again
pub u16_bytes-number : (b : List ℕ) (at : ℕ) → IsBytes b → at + 2 ≤ length b → u16_bytes (number w16 b at) ≡ piece b at 2
unfolding u16_bytes number
u16_bytes-number b at h l = be_bytes_2 (piece b at 2) _ (length-piece b at 2 l) (piece_fits b h at 2) refl

pub u32_bytes-number : (b : List ℕ) (at : ℕ) → IsBytes b → at + 4 ≤ length b → u32_bytes (number w32 b at) ≡ piece b at 4
unfolding u32_bytes number
u32_bytes-number b at h l = be_bytes_4 (piece b at 4) _ (length-piece b at 4 l) (piece_fits b h at 4) refl

pub u64_bytes-number : (b : List ℕ) (at : ℕ) → IsBytes b → at + 8 ≤ length b → u64_bytes (number w64 b at) ≡ piece b at 8
unfolding u64_bytes number
u64_bytes-number b at h l = be_bytes_8 (piece b at 8) _ (length-piece b at 8 l) (piece_fits b h at 8) refl

-- the numbers fit their widths
pub number_16 : (b : List ℕ) (at : ℕ) → IsBytes b → number w16 b at < 2 ^ 16
unfolding number
number_16 b at h = let p = piece_fits b h at 2 in omega (arith, p 0, p 1)

pub number_32 : (b : List ℕ) (at : ℕ) → IsBytes b → number w32 b at < 2 ^ 32
unfolding number
number_32 b at h = let p = piece_fits b h at 4 in omega (arith, p 0, p 1, p 2, p 3)

pub number_64 : (b : List ℕ) (at : ℕ) → IsBytes b → number w64 b at < 2 ^ 64
unfolding number
number_64 b at h = let p = piece_fits b h at 8 in omega (arith, p 0, p 1, p 2, p 3, p 4, p 5, p 6, p 7)

-- rows of one width, each a piece, are a piece
pub rows : (b : List ℕ) (g : ℕ → List ℕ) (base w k : ℕ) → ((i : ℕ) → i < k → g i ≡ piece b (base + w * i) w) → flat_map g (range_with_len 0 k) ≡ piece b base (w * k)
rows b g base w zero each = let none : 0 ≡ w * 0 = omega arith in ap (piece b base) none
rows b g base w (suc k) each =
    let more : suc k ≡ k + 1 = omega arith in
    let all : w * k + w ≡ w * suc k = omega arith in
    ap (λ n. flat_map g (range_with_len 0 n)) more
    ∙ ap (flat_map g) (range_more k)
    ∙ flat_map-append g (range_with_len 0 k) (k ∷ [])
    ∙ ap (λ xs. flat_map g (range_with_len 0 k) ++ xs) (append-nil (g k) ∙ each k (omega arith))
    ∙ ap (λ xs. xs ++ piece b (base + w * k) w) (rows b g base w k (λ i l. each i (omega arith)))
    ∙ sym (piece-add b base (w * k) w)
    ∙ ap (piece b base) all

-- as a check knows it of a parameter that is a slice of bytes
pub IsBytes-from : (b : List ℕ) → ((i : ℕ) → Fits w8 (byte b i)) → IsBytes b
IsBytes-from b h = All-from_get_or (λ x. x < 256) b 0 (λ i _. (h i).fits)
