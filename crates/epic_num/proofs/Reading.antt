-- Parts read off the front of bytes: what two equal texts begin with is equal, and so is what is left.
use Rattle.std.proofs.Common.{◌≡◌, ℕ, ◌<◌, ◌^◌, List, [], ◌∷◌, ◌++◌, length, refl, sym, ◌∙◌, ap, arith, append_assoc}
use Rattle.std.specs.Prelude.{flat_map}
use Rattle.std.specs.List.{AllByRecursion}
use Rattle.std.specs.Int.{w16, w32, w64, from_be_bytes}
use Rattle.std.proofs.lemmas.Nat.{from_be_bytes-to_be_bytes_2, from_be_bytes-to_be_bytes_4, from_be_bytes-to_be_bytes_8}
use Rattle.epic_num.specs.declared.name.HostId.{HostId}
use Rattle.epic_num.specs.BigEndian.{u16_bytes, u32_bytes, u64_bytes}
use Rattle.epic_num.specs.Messages.{host_bytes, IsHost}

-- one element
pub read_one : {A : Type 0} (x y : A) (xs ys : List A) → x ∷ xs ≡ y ∷ ys → (x ≡ y) × (xs ≡ ys)
read_one x y xs ys e = (cc, cc)

-- a part of a known length
pub read_part : {A : Type 0} (xs ys us vs : List A) → length xs ≡ length ys → xs ++ us ≡ ys ++ vs → (xs ≡ ys) × (us ≡ vs)
read_part [] [] us vs l e = (refl, e)
read_part [] (y ∷ ys) us vs l e = absurd (omega arith)
read_part (x ∷ xs) [] us vs l e = absurd (omega arith)
read_part (x ∷ xs) (y ∷ ys) us vs l e =
    let first = read_one x y (xs ++ us) (ys ++ vs) e in
    let rest = read_part xs ys us vs (omega arith) first.1 in
    (λ i. first.0 i ∷ rest.0 i, rest.1)

-- ---- numbers

pub length-u16_bytes : (n : ℕ) → length (u16_bytes n) ≡ 2
unfolding u16_bytes
length-u16_bytes n = refl

pub length-u32_bytes : (n : ℕ) → length (u32_bytes n) ≡ 4
unfolding u32_bytes
length-u32_bytes n = refl

pub length-u64_bytes : (n : ℕ) → length (u64_bytes n) ≡ 8
unfolding u64_bytes
length-u64_bytes n = refl

pub u16_bytes-same : (m n : ℕ) → m < 2 ^ 16 → n < 2 ^ 16 → u16_bytes m ≡ u16_bytes n → m ≡ n
unfolding u16_bytes
u16_bytes-same m n mf nf e = sym (from_be_bytes-to_be_bytes_2 m mf) ∙ (ap (from_be_bytes w16) e ∙ from_be_bytes-to_be_bytes_2 n nf)

pub u32_bytes-same : (m n : ℕ) → m < 2 ^ 32 → n < 2 ^ 32 → u32_bytes m ≡ u32_bytes n → m ≡ n
unfolding u32_bytes
u32_bytes-same m n mf nf e = sym (from_be_bytes-to_be_bytes_4 m mf) ∙ (ap (from_be_bytes w32) e ∙ from_be_bytes-to_be_bytes_4 n nf)

pub u64_bytes-same : (m n : ℕ) → m < 2 ^ 64 → n < 2 ^ 64 → u64_bytes m ≡ u64_bytes n → m ≡ n
unfolding u64_bytes
u64_bytes-same m n mf nf e = sym (from_be_bytes-to_be_bytes_8 m mf) ∙ (ap (from_be_bytes w64) e ∙ from_be_bytes-to_be_bytes_8 n nf)

pub read_u16 : (m n : ℕ) (us vs : List ℕ) → m < 2 ^ 16 → n < 2 ^ 16 → u16_bytes m ++ us ≡ u16_bytes n ++ vs → (m ≡ n) × (us ≡ vs)
read_u16 m n us vs mf nf e =
    let p = read_part (u16_bytes m) (u16_bytes n) us vs (length-u16_bytes m ∙ sym (length-u16_bytes n)) e in
    (u16_bytes-same m n mf nf p.0, p.1)

pub read_u32 : (m n : ℕ) (us vs : List ℕ) → m < 2 ^ 32 → n < 2 ^ 32 → u32_bytes m ++ us ≡ u32_bytes n ++ vs → (m ≡ n) × (us ≡ vs)
read_u32 m n us vs mf nf e =
    let p = read_part (u32_bytes m) (u32_bytes n) us vs (length-u32_bytes m ∙ sym (length-u32_bytes n)) e in
    (u32_bytes-same m n mf nf p.0, p.1)

pub read_u64 : (m n : ℕ) (us vs : List ℕ) → m < 2 ^ 64 → n < 2 ^ 64 → u64_bytes m ++ us ≡ u64_bytes n ++ vs → (m ≡ n) × (us ≡ vs)
read_u64 m n us vs mf nf e =
    let p = read_part (u64_bytes m) (u64_bytes n) us vs (length-u64_bytes m ∙ sym (length-u64_bytes n)) e in
    (u64_bytes-same m n mf nf p.0, p.1)

-- ---- hosts

pub length-host_bytes : (h : HostId) → length (host_bytes h) ≡ 12
unfolding host_bytes u32_bytes u64_bytes
length-host_bytes h = refl

pub read_host : (h k : HostId) (us vs : List ℕ) → IsHost h → IsHost k → host_bytes h ++ us ≡ host_bytes k ++ vs → (h ≡ k) × (us ≡ vs)
unfolding host_bytes
read_host h k us vs hf kf e =
    let f : u64_bytes h.asn.0 ++ (u32_bytes h.host ++ us) ≡ u64_bytes k.asn.0 ++ (u32_bytes k.host ++ vs) = sym (append_assoc (u64_bytes h.asn.0) (u32_bytes h.host) us) ∙ (e ∙ append_assoc (u64_bytes k.asn.0) (u32_bytes k.host) vs) in
    let a = read_u64 h.asn.0 k.asn.0 _ _ hf.asn kf.asn f in
    let n = read_u32 h.host k.host us vs hf.host kf.host a.1 in
    (λ i. record { asn = record { 0 = a.0 i }; host = n.0 i }, n.1)

-- ---- rows of items that have one width

module _ {A : Type 0} (code : A → List ℕ) (Fits : A → Type 0) (width : ℕ) (wide : (x : A) → Fits x → length (code x) ≡ width) (differ : (x y : A) → Fits x → Fits y → code x ≡ code y → x ≡ y) where
  pub read_row : (xs ys : List A) (us vs : List ℕ) → length xs ≡ length ys → AllByRecursion Fits xs → AllByRecursion Fits ys → flat_map code xs ++ us ≡ flat_map code ys ++ vs → (xs ≡ ys) × (us ≡ vs)
  read_row [] [] us vs l xf yf e = (refl, e)
  read_row [] (y ∷ ys) us vs l xf yf e = absurd (omega arith)
  read_row (x ∷ xs) [] us vs l xf yf e = absurd (omega arith)
  read_row (x ∷ xs) (y ∷ ys) us vs l xf yf e =
      let f : code x ++ (flat_map code xs ++ us) ≡ code y ++ (flat_map code ys ++ vs) = sym (append_assoc (code x) (flat_map code xs) us) ∙ (e ∙ append_assoc (code y) (flat_map code ys) vs) in
      let first = read_part (code x) (code y) (flat_map code xs ++ us) (flat_map code ys ++ vs) (wide x xf.0 ∙ sym (wide y yf.0)) f in
      let rest = read_row xs ys us vs (omega arith) xf.1 yf.1 first.1 in
      (λ i. differ x y xf.0 yf.0 first.0 i ∷ rest.0 i, rest.1)
