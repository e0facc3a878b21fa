-- The records of whole captures, block by block.
use Rattle.std.proofs.Common.{◌≡◌, ℕ, zero, suc, ◌+◌, ◌≤◌, false, cond, List, [], ◌++◌, length, take, drop, Result, Ok, Err, ◌⊎◌, inl, inr, refl, ap, sym, ◌∙◌, arith, append-nil, length-append, length-drop}
use Rattle.std.specs.Prelude.{◌==◌}
use Rattle.std.proofs.lemmas.List.{take-append-le, drop-append-le}
use Rattle.std.proofs.lemmas.Bool.{ne_eqb, eq-eqb, true≢false, cases_eq}
use Rattle.epic_capture.specs.Records.{Records, whole, damaged}
use Rattle.epic_capture.specs.Streams.{first}
use Rattle.epic_pcapng.specs.declared.block.Head.{Head}
use Rattle.epic_pcapng.specs.declared.block.Kind.{Kind}
use Rattle.epic_pcapng.specs.declared.block.Kind.TheVariants as types
use Rattle.epic_pcapng.specs.declared.damage.NgError.{NgError}
use Rattle.epic_pcapng.specs.declared.damage.NgKind.TheVariants.{Truncated}
use Rattle.epic_pcapng.specs.declared.section.Section.{Section}
use Rattle.epic_pcapng.specs.Damage.{damage, is_truncated}
use Rattle.epic_pcapng.specs.Blocks.{heading, ends, least}
use Rattle.epic_pcapng.specs.Grammar.{Step, Block, content, of_content, of_end, of_heading, block_at, with_item, after_block, records_to, records_from}
use Rattle.epic_pcapng.specs.Steps.{answer_of}
use Rattle.epic_pcapng.proofs.Results.{block_error, same_end_error, same_head_error, same_block_error, end_not_error, head_not_error, block_not_error}
use Rattle.epic_pcapng.proofs.Blocks.{no_heading, heading_fits, heading_longer, ends_fits, ends_longer}

-- each block has at least 12 bytes
pub least_12 : (head : Head) → 12 ≤ least head.kind
least_12 head = by head.kind
  where
    by : (kind : Kind) → 12 ≤ least kind
    by types.Section = omega arith
    by types.Interface = omega arith
    by types.Simple = omega arith
    by types.Enhanced = omega arith
    by types.Other = omega arith

-- the block whose head, end and content are these
pub block_of : (section : Section) (begin : ℕ) (xs : List ℕ) (head : Head) (step : Step) → heading section.order begin xs ≡ Ok head
    → ends head.order begin head.len 0 xs ≡ Ok tt → content section begin head (take head.len xs) ≡ Ok step
    → block_at section begin xs ≡ Ok (record { len = head.len; step = step })
unfolding block_at
block_of section begin xs head step h e c = rw (h, e, c) refl

pub head_fails : (section : Section) (begin : ℕ) (xs : List ℕ) (e : NgError) → heading section.order begin xs ≡ Err e → block_at section begin xs ≡ Err e
unfolding block_at
head_fails section begin xs e h = rw h refl

pub end_fails : (section : Section) (begin : ℕ) (xs : List ℕ) (head : Head) (e : NgError) → heading section.order begin xs ≡ Ok head
    → ends head.order begin head.len 0 xs ≡ Err e → block_at section begin xs ≡ Err e
unfolding block_at
end_fails section begin xs head e h f = rw (h, f) refl

pub content_fails : (section : Section) (begin : ℕ) (xs : List ℕ) (head : Head) (e : NgError) → heading section.order begin xs ≡ Ok head
    → ends head.order begin head.len 0 xs ≡ Ok tt → content section begin head (take head.len xs) ≡ Err e → block_at section begin xs ≡ Err e
unfolding block_at
content_fails section begin xs head e h f c = rw (h, f, c) refl

-- the block takes some bytes, and no more than there are
pub record Takes (xs : List ℕ) (block : Block) : Type 0 where
  pub some : 12 ≤ block.len
  pub there : block.len ≤ length xs

pub block_takes : (section : Section) (begin : ℕ) (xs : List ℕ) (block : Block) → block_at section begin xs ≡ Ok block → Takes xs block
unfolding block_at
block_takes section begin xs block h = by_head (heading section.order begin xs) refl h
  where
    by_content : (head : Head) → 12 ≤ head.len → head.len ≤ length xs → (r : Result Step NgError) → of_content head.len r ≡ Ok block → Takes xs block
    by_content head low high (Err e) h = absurd (cc)
    by_content head low high (Ok step) h =
        let is : record { len = head.len; step = step } ≡ block = cc in
        let len : head.len ≡ block.len = ap (λ (b : Block). b.len) is in
        record { some = omega (arith, len, low); there = omega (arith, len, high) }

    by_end : (head : Head) → 12 ≤ head.len → (r : Result (Unit {0}) NgError) → ends head.order begin head.len 0 xs ≡ r → of_end section begin head xs r ≡ Ok block → Takes xs block
    by_end head low (Err e) is h = absurd (cc)
    by_end head low (Ok done) is h =
        let fits = ends_fits head.order begin head.len 0 xs is in
        by_content head low (omega (arith, fits.0)) (content section begin head (take head.len xs)) h

    by_head : (r : Result Head NgError) → heading section.order begin xs ≡ r → of_heading section begin xs r ≡ Ok block → Takes xs block
    by_head (Err e) is h = absurd (cc)
    by_head (Ok head) is h =
        let fits = heading_fits section.order begin xs head is in
        by_end head (omega (arith, fits.least, least_12 head)) (ends head.order begin head.len 0 xs) refl h

-- a block, or damage but an early end, stays
pub block_longer : (section : Section) (begin : ℕ) (xs ys : List ℕ) → (block_at section begin xs ≡ Err (damage Truncated begin) → ⊥)
    → block_at section begin (xs ++ ys) ≡ block_at section begin xs
unfolding block_at
block_longer section begin xs ys open_ = by_head (heading section.order begin xs) refl open_
  where
    by_end : (head : Head) → 12 ≤ head.len → (r : Result (Unit {0}) NgError) → ends head.order begin head.len 0 xs ≡ r → (of_end section begin head xs r ≡ Err (damage Truncated begin) → ⊥)
        → of_end section begin head (xs ++ ys) (ends head.order begin head.len 0 (xs ++ ys)) ≡ of_end section begin head xs r
    by_end head low (Err e) is open2 =
        let longer = ends_longer head.order begin head.len 0 xs ys (omega arith)
        (λ t. open2 (ap block_error (same_end_error e (damage Truncated begin) (sym is ∙ t)))) in
        rw (longer, is) refl
    by_end head low (Ok done) is open2 =
        let longer = ends_longer head.order begin head.len 0 xs ys (omega arith) (λ t. end_not_error (damage Truncated begin) (sym is ∙ t)) in
        let fits = ends_fits head.order begin head.len 0 xs is in
        let same : take head.len (xs ++ ys) ≡ take head.len xs = take-append-le head.len xs ys (omega (arith, fits.0)) in
        rw (longer, is, same) refl

    by_head : (r : Result Head NgError) → heading section.order begin xs ≡ r → (of_heading section begin xs r ≡ Err (damage Truncated begin) → ⊥)
        → of_heading section begin (xs ++ ys) (heading section.order begin (xs ++ ys)) ≡ of_heading section begin xs r
    by_head (Err e) is open2 =
        let longer = heading_longer section.order begin xs ys
        (λ t. open2 (ap block_error (same_head_error e (damage Truncated begin) (sym is ∙ t)))) in
        rw (longer, is) refl
    by_head (Ok head) is open2 =
        let longer = heading_longer section.order begin xs ys (λ t. head_not_error head (damage Truncated begin) (sym is ∙ t)) in
        let fits = heading_fits section.order begin xs head is in
        rw (longer, is) (by_end head (omega (arith, fits.least, least_12 head)) (ends head.order begin head.len 0 xs) refl open2)

-- no bytes are an early end
pub block_none : (section : Section) (begin : ℕ) (xs : List ℕ) → begin ≤ 67108864 → length xs ≡ 0 → block_at section begin xs ≡ Err (damage Truncated begin)
block_none section begin xs limit none = head_fails section begin xs (damage Truncated begin) (no_heading section.order begin xs limit none)

-- any two bounds that are great enough give the same
same_bound : (n m : ℕ) (section : Section) (begin : ℕ) (xs : List ℕ) → length xs ≤ n → length xs ≤ m → records_to n section begin xs ≡ records_to m section begin xs
unfolding records_to
same_bound zero zero section begin xs h k = refl
same_bound zero (suc m) section begin xs h k = rw (eq-eqb (length xs) 0 (omega arith)) refl
same_bound (suc n) zero section begin xs h k = rw (eq-eqb (length xs) 0 (omega arith)) refl
same_bound (suc n) (suc m) section begin xs h k =
    by (λ section begin xs h k. same_bound n m section begin xs h k) (cases_eq (length xs) 0) (block_at section begin xs) refl
  where
    by : ((section : Section) (begin : ℕ) (xs : List ℕ) → length xs ≤ n → length xs ≤ m → records_to n section begin xs ≡ records_to m section begin xs) → (length xs ≡ 0) ⊎ (length xs ≡ 0 → ⊥) → (r : Result Block NgError) → block_at section begin xs ≡ r
        → cond (length xs == 0) whole (after_block begin xs r (λ section begin xs. records_to n section begin xs))
        ≡ cond (length xs == 0) whole (after_block begin xs r (λ section begin xs. records_to m section begin xs))
    by more (inl none) r is = rw (eq-eqb (length xs) 0 none) refl
    by more (inr some) (Err e) is = refl
    by more (inr some) (Ok block) is =
        let takes = block_takes section begin xs block is in
        let less = length-drop block.len xs in
        ap (λ (others : Records NgError). cond (length xs == 0) whole (with_item block.step.item others))
        (more block.step.section (begin + block.len) (drop block.len xs) (omega (arith, less, takes.some, takes.there)) (omega (arith, less, takes.some, takes.there)))

-- nothing is left
pub records_none : (section : Section) (begin : ℕ) (xs : List ℕ) → length xs ≡ 0 → records_from section begin xs ≡ whole
unfolding records_to
records_none section begin xs none = ap (λ (n : ℕ). records_to n section begin xs) none

-- damage at the front
pub records_damage : (section : Section) (begin : ℕ) (xs : List ℕ) (e : NgError) → (length xs ≡ 0 → ⊥) → block_at section begin xs ≡ Err e
    → records_from section begin xs ≡ damaged e
unfolding records_to
records_damage section begin xs e some is = by (length xs) refl
  where
    by : (n : ℕ) → length xs ≡ n → records_to n section begin xs ≡ damaged e
    by zero h = absurd (some h)
    by (suc n) h = rw (ne_eqb (length xs) 0 some, is) refl

-- a block at the front
pub records_block : (section : Section) (begin : ℕ) (xs : List ℕ) (block : Block) → block_at section begin xs ≡ Ok block
    → records_from section begin xs ≡ with_item block.step.item (records_from block.step.section (begin + block.len) (drop block.len xs))
unfolding records_to
records_block section begin xs block is = by (length xs) refl
  where
    takes : Takes xs block
    takes = block_takes section begin xs block is

    by : (n : ℕ) → length xs ≡ n
        → records_to n section begin xs ≡ with_item block.step.item (records_from block.step.section (begin + block.len) (drop block.len xs))
    by zero h = absurd (omega (arith, takes.some, takes.there, h))
    by (suc n) h =
        let less = length-drop block.len xs in
        let some : length xs ≡ 0 → ⊥ = λ none. omega (arith, takes.some, takes.there, none) in
        let bound = same_bound n (length (drop block.len xs)) block.step.section (begin + block.len) (drop block.len xs)
        (omega (arith, less, takes.some, takes.there, h)) (omega arith) in
        rw (ne_eqb (length xs) 0 some, is) (ap (with_item block.step.item) bound)

-- a block at the front of the bytes held, whatever follows them
pub block_held : (section : Section) (begin : ℕ) (xs : List ℕ) (block : Block) (rest : List ℕ) → block_at section begin xs ≡ Ok block
    → records_from section begin (xs ++ rest) ≡ with_item block.step.item (records_from block.step.section (begin + block.len) (drop block.len xs ++ rest))
block_held section begin xs block rest is =
    let takes = block_takes section begin xs block is in
    let longer : block_at section begin (xs ++ rest) ≡ Ok block =
    block_longer section begin xs rest (λ t. block_not_error block (damage Truncated begin) (sym is ∙ t)) ∙ is in
    let behind : drop block.len (xs ++ rest) ≡ drop block.len xs ++ rest = drop-append-le block.len xs rest takes.there in
    records_block section begin (xs ++ rest) block longer
    ∙ ap (λ (ys : List ℕ). with_item block.step.item (records_from block.step.section (begin + block.len) ys)) behind

-- damage at the front of the bytes held, whatever follows them
pub damage_held : (section : Section) (begin : ℕ) (xs : List ℕ) (e : NgError) (rest : List ℕ) → begin ≤ 67108864 → block_at section begin xs ≡ Err e
    → is_truncated e.kind ≡ false → records_from section begin (xs ++ rest) ≡ damaged e
damage_held section begin xs e rest limit is other =
    let not_early : block_at section begin xs ≡ Err (damage Truncated begin) → ⊥ = λ t.
    true≢false (sym (ap (λ (e : NgError). is_truncated e.kind) (same_block_error e (damage Truncated begin) (sym is ∙ t))) ∙ other) in
    let some : length (xs ++ rest) ≡ 0 → ⊥ = λ none. not_early (block_none section begin xs limit (omega (arith, none, length-append xs rest))) in
    records_damage section begin (xs ++ rest) e some (block_longer section begin xs rest not_early ∙ is)

-- what the bytes held say next, at damage
pub damage_next : (section : Section) (begin : ℕ) (xs : List ℕ) (e : NgError) → begin ≤ 67108864 → block_at section begin xs ≡ Err e
    → first (λ e. is_truncated e.kind) (records_from section begin (xs ++ [])) ≡ answer_of e
damage_next section begin xs e limit is = rw append-nil (by (cases_eq (length xs) 0))
  where
    by : (length xs ≡ 0) ⊎ (length xs ≡ 0 → ⊥) → first (λ e. is_truncated e.kind) (records_from section begin xs) ≡ answer_of e
    by (inl none) =
        let e_is : e ≡ damage Truncated begin = same_block_error e (damage Truncated begin) (sym is ∙ block_none section begin xs limit none) in
        rw (records_none section begin xs none, e_is) refl
    by (inr some) = rw (records_damage section begin xs e some is) refl
