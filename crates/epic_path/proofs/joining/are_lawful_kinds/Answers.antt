use Rattle.std.proofs.Common.{sym, ◌∙◌}
use Rattle.epic_path.proofs.JoinLemmas.{no_kind, one_kind, three_kinds}
use Rattle.epic_path.proofs.joining.are_lawful_kinds.Goals as goal

pub returns-in-len1 : goal.returns-in-len1
returns-in-len1 c = one_kind _ c.args.legs.now c.in-len1.len_at_least c.in-len1.len_below

pub returns-then-may_follow : goal.returns-then-may_follow
returns-then-may_follow c =
    three_kinds _ c.args.legs.now _ _ _ _ c.in-len3.len_at_least c.in-len3.len_below c.first-item-then-legs-lt4.is c.second-item-then-legs-lt4.is c.third-item.is
    (rw (sym c.may_follow-in-len3.ensures ∙ c.if-may_follow.true) c.may_follow-then-may_follow.ensures)

pub returns-else-may_follow : goal.returns-else-may_follow
returns-else-may_follow c =
    three_kinds _ c.args.legs.now _ _ _ _ c.in-len3.len_at_least c.in-len3.len_below c.first-item-then-legs-lt4.is c.second-item-then-legs-lt4.is c.third-item.is
    (rw (sym c.may_follow-in-len3.ensures ∙ c.if-may_follow.false) c.if-may_follow.false)

pub returns-in_default : goal.returns-in_default
returns-in_default c = no_kind _ c.args.legs.now c.in_default.len_below
