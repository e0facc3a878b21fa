use Rattle.std.proofs.Common.{◌≡◌, ◌+◌, nat_cmp, sym, ◌∙◌, subst, ap}
use Rattle.std.specs.Prelude.{Some}
use Rattle.std.specs.BTreeMap.{Updates}
use Rattle.epic_beacon.specs.Store.{Held, Store, Rolls, generation_in, store_of, with_roll}
use Rattle.epic_beacon.proofs.Rolled.{rolled, unrolled}
use Rattle.epic_beacon.proofs.beacons.Beacons.roll.Goals as goal
use Rattle.epic_beacon.proofs.beacons.Beacons.roll.Goals.{in-Ok, in-Err}

pub returns : goal.returns
returns c =
    let a = c.args.a in
    let beacons = c.self.inside.beacons.items in
    let old = c.self.inside.generations in
    let put = c.insert.new.self in
    let new : Store = record { beacons = beacons; generations = generation_in put.entries } in
    let was : c.generation-next.result ≡ generation_in old.entries a =
    c.generation-next.ensures ∙ sym (ap (λ (v : Held). (store_of v).generations a) c.self.view_is) in
    elim c.match-insert.branch [
      | in-Ok w ↦ subst (Rolls (store_of c.args.self.now) new a) (sym w.result-is) (
        ap (λ n. n + 1) c.generation-next.ensures,
        subst (λ (v : Held). new ≡ with_roll (store_of v) a) c.self.view_is
            (λ i. record {
              beacons = beacons;
              generations = λ b. rolled old put a (subst (λ n. Updates nat_cmp old put a.0 (Some (n + 1))) was w.in-Ok.ensures.updates) b i;
            }),
      )
      | in-Err w ↦ subst (Rolls (store_of c.args.self.now) new a) (sym w.result-is)
          (subst (λ (v : Held). new ≡ store_of v) c.self.view_is (λ i. record { beacons = beacons; generations = λ b. unrolled old put w.in-Err.ensures.err b i }))
    ]
