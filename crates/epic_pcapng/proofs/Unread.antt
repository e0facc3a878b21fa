-- The end of a file, by the blocks that no reader has passed.
use Rattle.std.proofs.Common.{◌≡◌, ℕ, ◌+◌, ◌≤◌, true, List, length, take, drop, Option, Some, None, Result, Ok, Err, refl, ap, sym, ◌∙◌, arith}
use Rattle.std.proofs.lemmas.Bool.{true≢false}
use Rattle.epic_capture.specs.declared.numbers.Order.{Order}
use Rattle.epic_capture.specs.Records.{Captured, Records, damaged}
use Rattle.epic_capture.specs.Streams.{first}
use Rattle.epic_pcapng.specs.declared.block.Head.{Head}
use Rattle.epic_pcapng.specs.declared.damage.NgError.{NgError}
use Rattle.epic_pcapng.specs.declared.section.Section.{Section}
use Rattle.epic_pcapng.specs.Damage.{is_truncated}
use Rattle.epic_pcapng.specs.Blocks.{heading, ends}
use Rattle.epic_pcapng.specs.Grammar.{Step, content, with_item, records_from}
use Rattle.epic_pcapng.specs.Steps.{EndsAs}
use Rattle.epic_pcapng.proofs.Results.{none_not_answer, chose_none}
use Rattle.epic_pcapng.proofs.Blocks.{HeadFits, heading_fits, ends_fits}
use Rattle.epic_pcapng.proofs.Contents.{Says, content_says}
use Rattle.epic_pcapng.proofs.Runs.{block_of, head_fails, end_fails, content_fails, records_none, records_damage, records_block}

-- the same records are to come, in a section whose numbers have this order
pub record Reaches (all : Records NgError) (order : Order) (at : ℕ) (rest : List ℕ) : Type 0 where
  pub section : Section
  pub same_order : section.order ≡ order
  pub same : all ≡ records_from section at rest

-- How far the blocks were passed.
pub record Unread (first_order : Order) (begin : ℕ) (bytes : List ℕ) (order : Order) (at : ℕ) (rest : List ℕ) : Type 0 where
  pub limit : at ≤ 67108864
  pub reaches : (section : Section) → section.order ≡ first_order → first (λ e. is_truncated e.kind) (records_from section begin bytes) ≡ Ok None
      → Reaches (records_from section begin bytes) order at rest

pub unread_none : (order : Order) (begin : ℕ) (bytes : List ℕ) → begin ≤ 67108864 → Unread order begin bytes order begin bytes
unread_none order begin bytes limit = record { limit = limit; reaches = λ section is h. record { section = section; same_order = is; same = refl } }

passes_block : (all : Records NgError) (order : Order) (at : ℕ) (rest : List ℕ) (head : Head) → first (λ e. is_truncated e.kind) all ≡ Ok None
    → heading order at rest ≡ Ok head → ends head.order at head.len 0 rest ≡ Ok tt → Reaches all order at rest → Reaches all head.order (at + head.len) (drop head.len rest)
passes_block all order at rest head none head_is end_is reaches =
    by (content reaches.section at head (take head.len rest)) refl says
  where
    section_head : heading reaches.section.order at rest ≡ Ok head
    section_head = ap (λ (o : Order). heading o at rest) reaches.same_order ∙ head_is

    fits : HeadFits reaches.section.order at (length rest) head
    fits = heading_fits reaches.section.order at rest head section_head

    says : Says head.order (content reaches.section at head (take head.len rest))
    says = content_says reaches.section at head (take head.len rest) fits.same_order

    by_item : (step : Step) → step.section.order ≡ head.order → (o : Option Captured) → all ≡ with_item o (records_from step.section (at + head.len) (drop head.len rest))
        → Reaches all head.order (at + head.len) (drop head.len rest)
    by_item step order_is None is = record { section = step.section; same_order = order_is; same = is }
    by_item step order_is (Some x) is = absurd (none_not_answer x (sym none ∙ ap (first (λ e. is_truncated e.kind)) is))

    by : (r : Result Step NgError) → content reaches.section at head (take head.len rest) ≡ r → Says head.order r → Reaches all head.order (at + head.len) (drop head.len rest)
    by (Err e) is late =
        let damage_is : all ≡ damaged e = reaches.same ∙ records_damage reaches.section at rest e (λ h. omega (arith, fits.eight, h))
        (content_fails reaches.section at rest head e section_head end_is is) in
        let early : is_truncated e.kind ≡ true = chose_none (is_truncated e.kind) e (sym (ap (first (λ e. is_truncated e.kind)) damage_is) ∙ none) in
        absurd (true≢false (sym early ∙ late))
    by (Ok step) is order_is =
        by_item step order_is step.item
        (reaches.same ∙ records_block reaches.section at rest (record { len = head.len; step = step }) (block_of reaches.section at rest head step section_head end_is is))

pub unread_more : (first_order : Order) (begin : ℕ) (bytes : List ℕ) (order : Order) (at : ℕ) (rest : List ℕ) (head : Head)
    → heading order at rest ≡ Ok head → ends head.order at head.len 0 rest ≡ Ok tt → Unread first_order begin bytes order at rest
    → Unread first_order begin bytes head.order (at + head.len) (drop head.len rest)
unread_more first_order begin bytes order at rest head head_is end_is so_far = record {
  limit = (ends_fits head.order at head.len 0 rest end_is).1 so_far.limit;
  reaches = λ section is h. passes_block (records_from section begin bytes) order at rest head h head_is end_is (so_far.reaches section is h);
}

pub unread_done : (first_order : Order) (begin : ℕ) (bytes : List ℕ) (order : Order) (at : ℕ) (rest : List ℕ) → length rest ≡ 0
    → Unread first_order begin bytes order at rest → EndsAs first_order begin bytes (Ok tt)
unread_done first_order begin bytes order at rest none so_far section is h =
    let reaches = so_far.reaches section is h in
    reaches.same ∙ records_none reaches.section at rest none

pub unread_head : (first_order : Order) (begin : ℕ) (bytes : List ℕ) (order : Order) (at : ℕ) (rest : List ℕ) (e : NgError) → (length rest ≡ 0 → ⊥)
    → heading order at rest ≡ Err e → Unread first_order begin bytes order at rest → EndsAs first_order begin bytes (Err e)
unread_head first_order begin bytes order at rest e some head_is so_far section is h =
    let reaches = so_far.reaches section is h in
    let section_head : heading reaches.section.order at rest ≡ Err e = ap (λ (o : Order). heading o at rest) reaches.same_order ∙ head_is in
    reaches.same ∙ records_damage reaches.section at rest e some (head_fails reaches.section at rest e section_head)

pub unread_end : (first_order : Order) (begin : ℕ) (bytes : List ℕ) (order : Order) (at : ℕ) (rest : List ℕ) (head : Head) (e : NgError) → (length rest ≡ 0 → ⊥)
    → heading order at rest ≡ Ok head → ends head.order at head.len 0 rest ≡ Err e → Unread first_order begin bytes order at rest → EndsAs first_order begin bytes (Err e)
unread_end first_order begin bytes order at rest head e some head_is end_is so_far section is h =
    let reaches = so_far.reaches section is h in
    let section_head : heading reaches.section.order at rest ≡ Ok head = ap (λ (o : Order). heading o at rest) reaches.same_order ∙ head_is in
    reaches.same ∙ records_damage reaches.section at rest e some (end_fails reaches.section at rest head e section_head end_is)
