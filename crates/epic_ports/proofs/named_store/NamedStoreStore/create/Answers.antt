use Rattle.std.proofs.Common.{rules, ◌≡◌, Err, ap}
use Rattle.epic_ports.specs.declared.error.PortError.TheVariants.{OutOfMemory}
use Rattle.epic_ports.proofs.Counting.{counts_same}
use Rattle.epic_ports.proofs.named_store.NamedStoreStore.create.Goals as goal

pub returns-in_err-refuse_write-clause-writes : goal.returns-in_err-refuse_write-clause-writes
returns-in_err-refuse_write-clause-writes c = counts_same _ _ _ c.in_err-refuse_write.ensures.writes

pub returns-in_err-refuse_write-clause-cause : goal.returns-in_err-refuse_write-clause-cause
returns-in_err-refuse_write-clause-cause c =
    let memory : c.from_residual.result ≡ Err OutOfMemory = search rules in
    rw memory (ap (λ counts. counts c.args.name.now) c.in_err-refuse_write.ensures.writes)
