use Rattle.epic_ports.proofs.MemFiles.{push_file}
use Rattle.epic_ports.proofs.mem_file.add_file.Goals as goal

pub returns-clause-ok : goal.returns-clause-ok
returns-clause-ok c =
    let pushed = push_file c.args.files.now.items c.args.name.now (c.in_ok-name.name, c.in_ok-bytes.bytes) c.requires c.in_ok-name.ensures.ok in
    rw (c.in_ok-push.ensures.items, ← c.in_ok-bytes.ensures.items) pushed
