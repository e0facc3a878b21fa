use Rattle.std.proofs.Common.{sym, refl}
use Rattle.epic_ports.proofs.MemFiles.{found_file, keep_file, missing_file, set_file, stands_at}
use Rattle.epic_ports.proofs.Appended.{on_err}
use Rattle.epic_ports.proofs.mem_file.grow_file.Goals as goal

pub add_file-requires : goal.add_file-requires
add_file-requires c = missing_file c.args.files.now.items c.args.name.now (rw (← c.deref.ensures.value) (sym c.in-None.ensures))

pub returns-in_err-extend_from_slice-in-Some-clause-err : goal.returns-in_err-extend_from_slice-in-Some-clause-err
returns-in_err-extend_from_slice-in-Some-clause-err c =
    let at = stands_at c.args.files.now.items c.args.name.now c.in-Some.i c.index_mut.result.now (rw (← c.deref.ensures.value) (sym c.in-Some.ensures)) c.index_mut.ensures.value in
    on_err _ _ (keep_file _ _ _ _ (c.index_mut.result.now.0, c.extend_from_slice.new.self) at refl c.in_err-extend_from_slice-in-Some.ensures.items)

pub returns-in_ok-extend_from_slice-in-Some-clause-ok : goal.returns-in_ok-extend_from_slice-in-Some-clause-ok
returns-in_ok-extend_from_slice-in-Some-clause-ok c =
    let at = stands_at c.args.files.now.items c.args.name.now c.in-Some.i c.index_mut.result.now (rw (← c.deref.ensures.value) (sym c.in-Some.ensures)) c.index_mut.ensures.value in
    let grown = set_file _ _ _ _ (c.index_mut.result.now.0, c.extend_from_slice.new.self) at refl in
    let had = found_file _ _ _ _ at in
    (rw (had, ← c.in_ok-extend_from_slice-in-Some.ensures.items) grown.0, grown.1)

pub returns-in-None-clause-ok : goal.returns-in-None-clause-ok
returns-in-None-clause-ok c =
    let missing = missing_file c.args.files.now.items c.args.name.now (rw (← c.deref.ensures.value) (sym c.in-None.ensures)) in
    rw missing c.add_file.ensures.ok
