use Rattle.std.proofs.Common.{rules, ◌≡◌, Err, ap}
use Rattle.epic_ports.specs.declared.error.PortError.TheVariants.{OutOfMemory}
use Rattle.epic_ports.proofs.Counting.{counts_same}
use Rattle.epic_ports.proofs.named_store.NamedStoreStore.read_at.Goals as goal

pub returns-in_err-refuse_read-clause-reads : goal.returns-in_err-refuse_read-clause-reads
returns-in_err-refuse_read-clause-reads c = counts_same _ _ _ c.in_err-refuse_read.ensures.reads

pub returns-in_err-refuse_read-clause-cause : goal.returns-in_err-refuse_read-clause-cause
returns-in_err-refuse_read-clause-cause c =
    let memory : c.from_residual.result ≡ Err OutOfMemory = search rules in
    rw memory (ap (λ counts. counts c.args.name.now) c.in_err-refuse_read.ensures.reads)
