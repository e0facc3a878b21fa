use Rattle.epic_audit.proofs.Whole.{chains_are_whole, issued_chains_are_whole}
use Rattle.epic_audit.proofs.chain.whole_chains.Goals as goal

pub returns : goal.returns
returns c = record { last_issued = chains_are_whole; all_issued = issued_chains_are_whole }
