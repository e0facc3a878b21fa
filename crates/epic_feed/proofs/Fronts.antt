-- What is known of a file that is read in pieces.
use Rattle.std.proofs.Common.{◌≡◌, ◌⊎◌, ℕ, ◌+◌, ◌-◌, ◌<◌, ◌≤◌, min, List, [], ◌∷◌, ◌++◌, length, take, drop, Option, Some, None, refl, sym, ap, ◌∙◌, inl, inr, append_assoc, append-nil, length-append, arith}
use Rattle.std.specs.Prelude.{⊤}
use Rattle.std.proofs.Math.Seq.{drop-append_seam}
use Rattle.std.proofs.lemmas.List.{take-append-drop, length-drop, length-take-le}
use Rattle.std.proofs.lemmas.Option.{same_Some}
use Rattle.epic_ports.specs.Files.{Files, KeepsFiles, ReadsPiece, bytes_at, bytes_or_none}
use Rattle.epic_feed.specs.Files.{Holds, Begins, SameFile}
use Rattle.epic_capture.specs.Streams.{Stream}
use Rattle.epic_feed.specs.Going.{Opens, AreNext, FedMore}

nothing : (xs : List ℕ) → length xs ≡ 0 → xs ≡ []
nothing [] none = refl
nothing (x ∷ xs) none = absurd (omega (arith, none))

-- ---- the file stays

pub same_kept : (name : List ℕ) (old new : Option Files) → KeepsFiles old new → SameFile name old new
same_kept name None new keeps = tt
same_kept name (Some f) None keeps = absurd keeps
same_kept name (Some f) (Some g) keeps = ap (λ (files : Files). files name) keeps

pub same_both : (name : List ℕ) (u v w : Option Files) → SameFile name u v → SameFile name v w → SameFile name u w
same_both name None v w first next = tt
same_both name (Some f) None w first next = absurd first
same_both name (Some f) (Some g) None first next = absurd next
same_both name (Some f) (Some g) (Some h) first next = next ∙ first

pub kept_both : (u v w : Option Files) → KeepsFiles u v → KeepsFiles v w → KeepsFiles u w
kept_both None v w first next = tt
kept_both (Some f) None w first next = absurd first
kept_both (Some f) (Some g) None first next = absurd next
kept_both (Some f) (Some g) (Some h) first next = next ∙ first

pub kept_itself : (u : Option Files) → KeepsFiles u u
kept_itself None = tt
kept_itself (Some f) = refl

-- ---- its first bytes

-- the file begins with these bytes, if it is there
abbrev pub HasFront : Option Files → List ℕ → List ℕ → Type 0
HasFront None name bytes = ⊤
HasFront (Some files) name bytes = (all : List ℕ) → files name ≡ Some all → all ≡ bytes ++ drop (length bytes) all

pub front_none : (contents : Option Files) (name : List ℕ) → HasFront contents name []
front_none None name = tt
front_none (Some f) name = λ all is. refl

front_by : (all bytes piece back : List ℕ) → all ≡ bytes ++ drop (length bytes) all → drop (length bytes) all ≡ piece ++ back
    → all ≡ (bytes ++ piece) ++ back
front_by all bytes piece back begins is = begins ∙ ap (λ rest. bytes ++ rest) is ∙ sym (append_assoc bytes piece back)

-- a piece more was read behind them
pub front_more : (old mid : Option Files) (name bytes : List ℕ) (at n : ℕ) (buffer : List ℕ) → KeepsFiles old mid
    → length bytes ≡ at → HasFront old name bytes → ReadsPiece mid name at n buffer → HasFront old name (bytes ++ take n buffer)
front_more None mid name bytes at n buffer keeps len has reads = tt
front_more (Some f) None name bytes at n buffer keeps len has reads = absurd keeps
front_more (Some f) (Some g) name bytes at n buffer keeps len has (found, there, gives) = λ all is.
    let same : found ≡ all = same_Some found all (sym there ∙ (ap (λ (files : Files). files name) keeps ∙ is)) in
    let piece : drop (length bytes) all ≡ take n buffer ++ drop (at + n) all =
    (λ k. drop (len k) (sym same k)) ∙ (gives.piece ∙ ap (λ xs. take n buffer ++ drop (at + n) xs) same) in
    let split = front_by all bytes (take n buffer) (drop (at + n) all) (has all is) piece in
    let back : drop (length (bytes ++ take n buffer)) all ≡ drop (at + n) all =
    ap (drop (length (bytes ++ take n buffer))) split ∙ drop-append_seam (bytes ++ take n buffer) (drop (at + n) all) in
    split ∙ ap (λ rest. (bytes ++ take n buffer) ++ rest) (sym back)

-- and then the file begins with all of them, which are at least four, or all that there are
pub opens_so : (old mid : Option Files) (name bytes : List ℕ) (at n : ℕ) (buffer all : List ℕ) → KeepsFiles old mid
    → length bytes ≡ at → 0 < length buffer → HasFront old name bytes → ReadsPiece mid name at n buffer
    → all ≡ bytes ++ take n buffer → (n ≡ 0) ⊎ (4 ≤ length all) → Opens old name all
opens_so None mid name bytes at n buffer all keeps len some has reads is enough = record { rest = []; holds = tt; few = λ short. refl }
opens_so (Some f) None name bytes at n buffer all keeps len some has reads is enough = absurd keeps
opens_so (Some f) (Some g) name bytes at n buffer all keeps len some has (found, there, gives) is enough =
    let holds : f name ≡ Some found = sym (ap (λ (files : Files). files name) keeps) ∙ there in
    let begins = (front_more (Some f) (Some g) name bytes at n buffer keeps len has (found, there, gives)) found holds in
    record {
      rest = drop (length all) found;
      holds = holds ∙ ap Some (begins ∙ (λ k. sym is k ++ drop (length (sym is k)) found));
      few = few enough;
    }
  where
    few : (n ≡ 0) ⊎ (4 ≤ length all) → length all < 4 → drop (length all) found ≡ []
    few (inr many) short = absurd (omega (arith, many, short))
    few (inl none) short =
        let end : length found ≤ at = gives.end none some in
        nothing (drop (length all) found) (omega (arith, length-drop (length all) found, ap length is, length-append bytes (take n buffer), len, end))

-- ---- further bytes

-- a part of a piece that was read
pub next_part : (contents : Option Files) (name : List ℕ) (at n k : ℕ) (buffer piece : List ℕ) → ReadsPiece contents name at n buffer
    → piece ≡ take n buffer → (k ≡ 0 → n ≡ 0) → 0 < length buffer → length (take k piece) ≡ k → AreNext contents name at (take k piece)
next_part None name at n k buffer piece reads is none some count = tt
next_part (Some f) name at n k buffer piece (bytes, there, gives) is none some count = (
  bytes,
  drop k piece ++ drop (at + n) bytes,
  there,
  gives.piece ∙ (ap (λ front. front ++ drop (at + n) bytes) (sym is ∙ sym (take-append-drop k piece)) ∙ append_assoc (take k piece) (drop k piece) (drop (at + n) bytes)),
  λ empty. gives.end (none (sym count ∙ empty)) some,
)

-- a reader was fed as much of a piece that was read as there is room for
pub fed_so : {R E : Type 0} (stream : Stream R E) (contents : Option Files) (name : List ℕ) (at n k : ℕ) (buffer : List ℕ) (old new : R)
    → ReadsPiece contents name at n buffer → n ≤ length buffer → 0 < length buffer → length (stream.held old) < stream.size
    → k ≡ min (length (take n buffer)) (stream.size - length (stream.held old)) → length (stream.held new) ≡ length (stream.held old) + k
    → stream.fed new ≡ stream.fed old + k → ((rest : List ℕ) → stream.to_come new rest ≡ stream.to_come old (take k (take n buffer) ++ rest))
    → FedMore stream contents name at k old new
fed_so stream contents name at n k buffer old new reads within some room count held fed bytes =
    let piece = take n buffer in
    let long : length piece ≡ n = length-take-le n buffer within in
    let all : length (take k piece) ≡ k = length-take-le k piece (grind (arith, count)) in
    record {
      piece = take k piece;
      are = next_part contents name at n k buffer piece reads refl (λ none. grind (arith, count, none, long, room)) some all;
      count = all;
      bytes = bytes;
      fed = fed;
      held = held;
      room = grind (arith, held, count, room);
    }

-- the rest of a file behind a piece of it
pub record Behind (contents : Option Files) (name front piece : List ℕ) : Type 0 where
  pub rest : List ℕ
  pub holds : Holds contents name (front ++ (piece ++ rest))
  pub end : length piece ≡ 0 → Holds contents name front

pub behind_piece : (old mid : Option Files) (name front rest : List ℕ) (at : ℕ) (piece : List ℕ) → Holds old name (front ++ rest)
    → SameFile name old mid → length front ≡ at → AreNext mid name at piece → Behind old name front piece
behind_piece None mid name front rest at piece holds same len next = record { rest = []; holds = tt; end = λ none. tt }
behind_piece (Some f) None name front rest at piece holds same len next = absurd same
behind_piece (Some f) (Some g) name front rest at piece holds same len (bytes, back, there, is, end) =
    let all : bytes ≡ front ++ rest = same_Some bytes (front ++ rest) (sym there ∙ (same ∙ holds)) in
    let past : drop at bytes ≡ rest = (λ k. drop (sym len k) (all k)) ∙ drop-append_seam front rest in
    let parts : rest ≡ piece ++ back = sym past ∙ is in
    record {
      rest = back;
      holds = holds ∙ ap (λ more. Some (front ++ more)) parts;
      end = λ none.
          let short : length (front ++ rest) ≤ length front = omega (arith, end none, ap length all, len) in
          let empty : rest ≡ [] = nothing rest (omega (arith, short, length-append front rest)) in
          holds ∙ ap Some (ap (λ more. front ++ more) empty ∙ append-nil front);
    }

-- a file begins with what it holds
pub begins_so : (contents : Option Files) (name front rest : List ℕ) → Holds contents name (front ++ rest) → Begins contents name front
begins_so None name front rest holds = tt
begins_so (Some f) name front rest holds = (rest, ap bytes_or_none holds)

pub begins_nothing : (contents : Option Files) (name : List ℕ) → Begins contents name []
begins_nothing None name = tt
begins_nothing (Some f) name = (bytes_at (Some f) name, refl)
