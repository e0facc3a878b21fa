use Rattle.std.proofs.Common.{sym}
use Rattle.epic_ports.proofs.MemFiles.{found_file, missing_file, stands_at}
use Rattle.epic_ports.proofs.mem_file.file.Goals as goal

pub returns-in-Some : goal.returns-in-Some
returns-in-Some c =
    let at = stands_at c.args.files.now c.args.name.now c.in-Some.i c.index-files-i.result (sym c.in-Some.ensures) c.index-files-i.is in
    rw (c.as_slice.ensures.value, ← c.index-files-i.is) (sym (found_file _ _ _ _ at))

pub returns-in-None : goal.returns-in-None
returns-in-None c = sym (missing_file c.args.files.now c.args.name.now (sym c.in-None.ensures))
