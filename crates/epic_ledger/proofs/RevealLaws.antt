-- The holders that were revealed, in a tree.
use Rattle.std.proofs.Common.{◌≡◌, ℕ, ◌<◌, List, length, Option, Some, Ordering}
use Rattle.std.specs.Prelude.{position, slice_index, slice_index_or}
use Rattle.epic_num.specs.Same.{same_holder}
use Rattle.epic_num.specs.declared.key_name.Holder.{Holder}
use Rattle.epic_tree.specs.Index.{key_side}
use Rattle.epic_tree.specs.Sides.{Ordered, found, by_tag}
use Rattle.epic_ledger.specs.Facts.{as_reveal, reveals_in}
use Rattle.epic_ledger.specs.Indexes.{keys_of, IsIndexed, reveal_kind}
use Rattle.epic_ledger.specs.Queries.{reveal_of}
use Rattle.epic_ledger.specs.Ranks.{holder_cmp, holder_tag}
use Rattle.epic_ledger.specs.declared.event.Event.{Event}
use Rattle.epic_ledger.proofs.KindLaws.{first_place, first_within, first_says}
use Rattle.epic_ledger.proofs.RankLaws.{holder_back, holder_tagged}

-- on which side of the holders that were revealed a holder stands
abbrev pub holder_side : List Event → Ordered → Holder → ℕ → Ordering
holder_side events tree h = by_tag tree.tags (holder_tag h) (key_side holder_cmp reveal_kind.none (keys_of reveal_kind events) h)

pub holder_place : (events : List Event) (at : List ℕ) (tree : Ordered) (h : Holder) (o : Option ℕ) → IsIndexed reveal_kind events at tree → o ≡ found (holder_side events tree h) tree.places → o ≡ position (λ r. same_holder r.holder h) (reveals_in events)
holder_place events at tree h o index e =
    first_place reveal_kind events at tree h (λ r. same_holder r.holder h) o holder_tagged (λ r. holder_back h r.holder) index e

pub holder_within : (events : List Event) (at : List ℕ) (tree : Ordered) (h : Holder) (i : ℕ) → IsIndexed reveal_kind events at tree → Some i ≡ found (holder_side events tree h) tree.places → i < length at
holder_within events at tree h i index e =
    first_within reveal_kind events at (λ r. same_holder r.holder h) i index.numbers (holder_place events at tree h (Some i) index e)

pub holder_answer : (events : List Event) (at : List ℕ) (tree : Ordered) (h : Holder) (i : ℕ) (e : Event) → IsIndexed reveal_kind events at tree → Some i ≡ found (holder_side events tree h) tree.places → as_reveal (slice_index_or events (slice_index at i) e) ≡ reveal_of (reveals_in events) h
unfolding reveal_of
holder_answer events at tree h i e index f =
    first_says reveal_kind events at (λ r. same_holder r.holder h) i e index.numbers (holder_within events at tree h i index f)
    (holder_place events at tree h (Some i) index f)
