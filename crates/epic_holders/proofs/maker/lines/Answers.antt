use Rattle.std.proofs.Common.{◌≡◌, true, sym, subst}
use Rattle.std.specs.Prelude.{IfSome}
use Rattle.epic_topo.specs.Network.{has}
use Rattle.epic_holders.proofs.maker.lines.Goals as goal

pub other_of-requires-clause-sent : goal.other_of-requires-clause-sent
other_of-requires-clause-sent c =
    subst (λ o. IfSome o (λ s. has c.args.topo.now s.1.asn ≡ true)) (sym c.sent_hop-sent.ensures) c.requires.sent
