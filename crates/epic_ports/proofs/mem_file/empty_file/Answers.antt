use Rattle.std.proofs.Common.{Some, sym, ◌∙◌, ap, refl}
use Rattle.epic_ports.proofs.MemFiles.{missing_file, set_file, stands_at}
use Rattle.epic_ports.proofs.mem_file.empty_file.Goals as goal

pub add_file-requires : goal.add_file-requires
add_file-requires c = missing_file c.args.files.now.items c.args.name.now (rw (← c.deref.ensures.value) (sym c.in-None.ensures))

pub returns-in-Some-clause-ok : goal.returns-in-Some-clause-ok
returns-in-Some-clause-ok c =
    let at = stands_at c.args.files.now.items c.args.name.now c.in-Some.i c.index_mut.result.now (rw (← c.deref.ensures.value) (sym c.in-Some.ensures)) c.index_mut.ensures.value in
    let emptied = set_file _ _ _ _ (c.index_mut.result.now.0, c.clear.new.self) at refl in
    (emptied.0 ∙ ap (λ bytes. Some bytes) c.clear.ensures.items, emptied.1)
