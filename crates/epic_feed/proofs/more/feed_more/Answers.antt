use Rattle.std.proofs.Common.{rules, ◌≤◌, ◌<◌, length}
use Rattle.epic_feed.proofs.Fronts.{fed_so}
use Rattle.epic_feed.proofs.more.feed_more.Goals as goal

pub returns-clause-ok : goal.returns-clause-ok
returns-clause-ok g c =
    let within : c.in_ok-n.n ≤ length c.read_at.new.buf = search rules in
    let some : 0 < length c.read_at.new.buf = search rules in
    fed_so g.R.Form.stream (g.S.Store.contents c.args.store.now) c.args.name.now c.args.at c.in_ok-n.n c.feed.result c.read_at.new.buf
    c.args.reader.now c.feed.new.self c.in_ok-n.ensures.bytes within some c.requires.room
    c.feed.ensures.count c.feed.ensures.held c.feed.ensures.fed c.feed.ensures.bytes
