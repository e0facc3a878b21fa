use Rattle.std.proofs.Common.{rules, ◌≡◌, ◌<◌, ◌≤◌, ◌++◌, length, take, inl, inr}
use Rattle.epic_feed.proofs.Fronts.{opens_so}
use Rattle.epic_feed.proofs.first.first_bytes.Goals as goal

pub returns-then-n-eq0-clause-file : goal.returns-then-n-eq0-clause-file
returns-then-n-eq0-clause-file g c =
    let (few, has, keeps, reads, writes) = c.loop-bytes.invariant in
    let some : 0 < length c.read_at.new.buf = search rules in
    let len : length c.loop-bytes.bytes.items ≡ c.len.result = search rules in
    let all : c.extend_from_slice.new.self.items ≡ c.loop-bytes.bytes.items ++ take c.in_ok-n.n c.read_at.new.buf = search rules in
    let none : c.in_ok-n.n ≡ 0 = search rules in
    opens_so (g.S.Store.contents c.args.store.now) (g.S.Store.contents c.loop-bytes.store) c.args.name.now c.loop-bytes.bytes.items c.len.result c.in_ok-n.n c.read_at.new.buf
    c.extend_from_slice.new.self.items keeps len some has c.in_ok-n.ensures.bytes all (inl none)

pub returns-then-len-ge4-clause-file : goal.returns-then-len-ge4-clause-file
returns-then-len-ge4-clause-file g c =
    let (few, has, keeps, reads, writes) = c.loop-bytes.invariant in
    let some : 0 < length c.read_at.new.buf = search rules in
    let len : length c.loop-bytes.bytes.items ≡ c.len.result = search rules in
    let all : c.extend_from_slice.new.self.items ≡ c.loop-bytes.bytes.items ++ take c.in_ok-n.n c.read_at.new.buf = search rules in
    let many : 4 ≤ length c.extend_from_slice.new.self.items = search rules in
    opens_so (g.S.Store.contents c.args.store.now) (g.S.Store.contents c.loop-bytes.store) c.args.name.now c.loop-bytes.bytes.items c.len.result c.in_ok-n.n c.read_at.new.buf
    c.extend_from_slice.new.self.items keeps len some has c.in_ok-n.ensures.bytes all (inr many)
