use Rattle.std.proofs.Common.{◌≡◌, ◌<◌, ◌+◌, ◌++◌, ◌∷◌, [], length, Some, None, cond, is_eq, rules, ap, sym, subst, ◌∙◌}
use Rattle.std.specs.BTreeMap.{get}
use Rattle.epic_beacon.specs.Chained.{IsChained}
use Rattle.epic_beacon.specs.Issuing.{twin}
use Rattle.epic_beacon.specs.Store.{Held}
use Rattle.epic_beacon.specs.Twins.{Likeness, likeness, likeness_cmp}
use Rattle.epic_beacon.proofs.Twins.{indexed_more}
use Rattle.epic_beacon.proofs.beacons.Beacons.add.Goals as goal

pub invariant_of-self-in-Ok : goal.invariant_of-self-in-Ok
invariant_of-self-in-Ok c =
    let b = c.args.beacon in
    let old = c.self.inside in
    let store = sym c.self.view_is in
    let items = c.push_reserved.ensures.items ∙ ap (λ bs. bs ++ b ∷ []) c.reserve.ensures.items in
    let count : c.len.result ≡ length old.beacons.items = search rules in
    let shared : c.likeness.result ≡ likeness b.name b.parent = c.likeness.ensures in
    let put = subst (λ (k : Likeness). (q : Likeness) → get likeness_cmp c.insert.new.self q
    ≡ cond (is_eq (likeness_cmp k q)) (Some (length old.beacons.items + 1)) (get likeness_cmp old.twins q)) shared
    (rw (← count) c.in-Ok.ensures.updates.0) in
    rw items (indexed_more old.twins c.insert.new.self old.beacons.items b c.self.invariant
    (subst (λ (s : Held). length s.beacons < 65536) store c.requires.few)
    (subst (λ (s : Held). IsChained s.beacons (length s.beacons + 1) b) store c.requires.chained)
    (subst (λ (s : Held). twin s.beacons b.name b.parent ≡ None) store c.requires.new) put)
