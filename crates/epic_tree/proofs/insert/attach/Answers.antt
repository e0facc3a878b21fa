use Rattle.std.proofs.Common.{◌≡◌, ◌+◌, length, arith, length-append}
use Rattle.epic_tree.specs.Sides.{by_tag}
use Rattle.epic_tree.specs.Shapes.{one, count, inserted}
use Rattle.epic_tree.specs.Arena.{shape, tags_of, Stands, Keeps}
use Rattle.epic_tree.proofs.Adding.{IsFresh, is_fresh, is_added, inserted_tagged, written_back}
use Rattle.epic_tree.proofs.Standing.{keeps_length}
use Rattle.epic_tree.proofs.insert.attach.Goals as goal

pub insert_under-requires : goal.insert_under-requires
insert_under-requires g c =
    let a = c.args.nodes.now.items in
    let b = c.as_mut_slice.result.now in
    let few = c.args.nodes.now.ok.0 in
    let f : IsFresh a b c.tag-tag.result c.args.root =
    rw (c.as_mut_slice.ensures.value, c.push_reserved.ensures.items) (is_fresh a c.tag-tag.result c.args.root c.requires.kept (omega (arith, few))) in
    let end : c.len-fresh.result ≡ length a = omega (arith, few) in
    let long : length b ≡ length a + 1 = rw (c.as_mut_slice.ensures.value, c.push_reserved.ensures.items) (length-append a _) in
    record {
      tree = f.tree;
      balanced = rw f.same c.requires.kept.balanced;
      low = rw f.same (omega (arith, c.requires.kept.low, few));
      fresh = rw end f.fresh;
      apart = rw end f.apart;
      known = λ i low other. c.requires.known i (omega arith);
    }

pub returns-clause-added : goal.returns-clause-added
returns-clause-added g c =
    let a = c.args.nodes.now.items in
    let b = c.as_mut_slice.result.now in
    let d = c.insert_under.new.nodes in
    let few = c.args.nodes.now.ok.0 in
    let f : IsFresh a b c.tag-tag.result c.args.root =
    rw (c.as_mut_slice.ensures.value, c.push_reserved.ensures.items) (is_fresh a c.tag-tag.result c.args.root c.requires.kept (omega (arith, few))) in
    let end : c.len-fresh.result ≡ length a = omega (arith, few) in
    let long : length b ≡ length a + 1 = rw (c.as_mut_slice.ensures.value, c.push_reserved.ensures.items) (length-append a _) in
    let longer = keeps_length _ b d c.insert_under.ensures.kept in
    let side = by_tag (tags_of a) (g.S.Aim.tag c.args.aim.now) (g.S.Aim.side c.args.aim.now) in
    let tagged = inserted_tagged a b c.tag-tag.result c.args.root c.tag-tag.result (g.S.Aim.side c.args.aim.now) c.len-fresh.result c.requires.kept f in
    let stands : Stands d c.insert_under.result (inserted side (length a) (shape b c.args.root)) =
    rw (← c.tag-tag.ensures, ← end) (rw tagged at c.insert_under.ensures.stands) in
    let kept : Keeps (λ k. count k (shape b c.args.root) + one k (length a)) b d = rw (← end) c.insert_under.ensures.kept in
    let added = is_added side a b d c.tag-tag.result c.args.root c.insert_under.result c.requires.kept (omega (arith, few)) f long c.requires.cut stands kept in
    rw (written_back d _ c.push_reserved.new.self.len (omega (arith, long, longer, few, c.push_reserved.ensures.len))) added
