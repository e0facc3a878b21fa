use Rattle.std.proofs.Common.{◌≡◌}
use Rattle.std.specs.Prelude.{Some}
use Rattle.epic_ledger.specs.Facts.{issues_in, packet_at}
use Rattle.epic_ledger.specs.Walks.{sent_with, spot}
use Rattle.epic_ledger.proofs.Spots.{spot_hit}
use Rattle.epic_ledger.proofs.sends.issue_at_hop.Goals as goal

pub returns-in-Some : goal.returns-in-Some
unfolding packet_at sent_with
returns-in-Some c =
    let s = sent_with c.args.emissions.now.emissions c.args.sending in
    let told = c.in-Some.ensures in
    let here : Some c.in-Some.spot ≡ spot s.packet c.args.hop = rw c.bytes_of.ensures.bytes at told in
    rw (c.ancestor.ensures, c.last_issue-last.ensures) (spot_hit (issues_in c.args.log.now.events) s c.args.hop c.in-Some.spot here)
