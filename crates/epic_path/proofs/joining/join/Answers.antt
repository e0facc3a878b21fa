use Rattle.std.proofs.Common.{sym, ◌∙◌}
use Rattle.std.proofs.lemmas.Bool.{eqb-true}
use Rattle.std.proofs.lemmas.Result.{err_from_is_err_and}
use Rattle.epic_path.specs.Joins.{legs_of}
use Rattle.epic_path.proofs.WalkLaws.{joined_none, joined_long, joined_err, joined_kinds, short_parts, walked_lawful}
use Rattle.epic_path.proofs.joining.join.Goals as goal

pub returns-then-is_empty : goal.returns-then-is_empty
unfolding legs_of
returns-then-is_empty c = joined_none c.args.from c.args.segments.now (eqb-true _ _ (sym c.is_empty.ensures ∙ c.if-is_empty.true))

pub returns-then-not-are_short : goal.returns-then-not-are_short
unfolding legs_of
returns-then-not-are_short c =
    joined_long c.args.from c.args.segments.now (sym c.is_empty.ensures ∙ c.if-is_empty.false) (sym c.are_short.ensures.short ∙ c.if-not-are_short.true)

pub walk-requires : goal.walk-requires
walk-requires c = (short_parts c.args.segments.now (sym c.are_short.ensures.short ∙ c.if-not-are_short.false)).0

pub returns-in_err-legs : goal.returns-in_err-legs
unfolding legs_of
returns-in_err-legs c =
    let p = err_from_is_err_and c.from_residual.result c.from_residual.ensures.1 in
    rw (p.1, p.2) (joined_err c.args.from c.args.segments.now _ (sym c.is_empty.ensures ∙ c.if-is_empty.false) (sym c.are_short.ensures.short ∙ c.if-not-are_short.false)
    (sym (rw c.in_err-legs.was at c.walk.ensures)))

pub returns-then-not-are_lawful_kinds : goal.returns-then-not-are_lawful_kinds
unfolding legs_of
returns-then-not-are_lawful_kinds c =
    joined_kinds c.args.from c.args.segments.now c.in_ok-legs.legs.items _ (sym c.is_empty.ensures ∙ c.if-is_empty.false) (sym c.are_short.ensures.short ∙ c.if-not-are_short.false)
    (sym (rw c.in_ok-legs.was at c.walk.ensures))
    (sym (rw c.as_slice.ensures.value at c.are_lawful_kinds.ensures) ∙ c.if-not-are_lawful_kinds.true)

pub invariant_of-result : goal.invariant_of-result
invariant_of-result c = record {
  lawful = walked_lawful c.args.from c.args.segments.now c.in_ok-legs.legs.items c.requires
      (rw (c.if-not-are_short.false) at c.are_short.ensures.each)
      (short_parts c.args.segments.now (sym c.are_short.ensures.short ∙ c.if-not-are_short.false)).1
      (sym (rw c.in_ok-legs.was at c.walk.ensures))
      (sym (rw c.as_slice.ensures.value at c.are_lawful_kinds.ensures) ∙ c.if-not-are_lawful_kinds.false);
}

pub returns : goal.returns
unfolding legs_of
returns c =
    joined_kinds c.args.from c.args.segments.now c.in_ok-legs.legs.items _ (sym c.is_empty.ensures ∙ c.if-is_empty.false) (sym c.are_short.ensures.short ∙ c.if-not-are_short.false)
    (sym (rw c.in_ok-legs.was at c.walk.ensures))
    (sym (rw c.as_slice.ensures.value at c.are_lawful_kinds.ensures) ∙ c.if-not-are_lawful_kinds.false)
