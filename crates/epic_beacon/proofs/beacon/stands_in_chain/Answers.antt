use Rattle.std.proofs.Common.{sym, ◌∙◌, ap}
use Rattle.epic_beacon.specs.Issuing.{stands_in}
use Rattle.epic_beacon.proofs.Issued.{chain_there}
use Rattle.epic_beacon.proofs.beacon.stands_in_chain.Goals as goal

pub returns : goal.returns
returns c =
    c.stands_in.ensures ∙ ap (stands_in c.args.a) (sym (chain_there c.args.beacons.now c.args.number c.args.beacon.now c.requires))
