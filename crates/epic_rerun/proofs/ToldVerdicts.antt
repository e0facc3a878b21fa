-- The verdicts on an acceptance can be told: what their lines show is of ASes of the topology.
use Rattle.std.proofs.Common.{◌≡◌, ℕ, ◌+◌, ◌-◌, ◌<◌, ◌≤◌, Bool, true, false, cond, ltb, List, [], ◌∷◌, length, Option, None, Some, IsTrue, refl, ap, sym, subst, ◌∙◌, arith}
use Rattle.std.specs.Prelude.{option_map, option_and_then}
use Rattle.std.specs.List.{All}
use Rattle.std.proofs.lemmas.Bool.{and_from}
use Rattle.std.proofs.lemmas.List.Elements.{All-cons, All-nil}
use Rattle.epic_num.specs.declared.hop.HopName.{HopName}
use Rattle.epic_num.specs.declared.name.AsId.{AsId}
use Rattle.epic_num.specs.declared.verdict.ForgedKind.TheVariants as kind
use Rattle.epic_num.specs.Chains.{Issue}
use Rattle.epic_num.specs.Levels.{is_tagged}
use Rattle.epic_layout.specs.Contents.{Contents, IsPacket, hop_count}
use Rattle.epic_layout.specs.Route.{Route, place, is_first}
use Rattle.epic_layout.proofs.OneSpelling.{paths_are_one}
use Rattle.epic_topo.specs.Network.{Network, has}
use Rattle.epic_keys.specs.Keys.{owner}
use Rattle.epic_fields.specs.HopChecks.{hop_name}
use Rattle.epic_fields.specs.PacketTags.{field_name, dest_name}
use Rattle.epic_ledger.specs.Facts.{Facts, Pass, Sent, pass_name, sent_issue}
use Rattle.epic_ledger.specs.Queries.{chain_pass, is_on_path}
use Rattle.epic_ledger.proofs.PathLaws.{some_hop}
use Rattle.epic_audit.specs.Clauses.{higher, lower, sent_as}
use Rattle.epic_audit.specs.ForgedText.{has_form, fits_level}
use Rattle.epic_audit.specs.Kept.{ArePackets, Kept, PassesKept}
use Rattle.epic_audit.specs.Verdicts.{hop_lines, hop_verdict, broken, broken_between, broken_chain, parent_name, uncovered, twin_pass, opened_or_forged, dest_lines, dest_verdict}
use Rattle.epic_audit.specs.declared.uncovered.Uncovered.{Uncovered}
use Rattle.epic_audit.proofs.Arrivals.{SentThere, sent_there, IsUncovered, uncovered_hop, twin_there}
use Rattle.epic_audit.proofs.Finds.{found}
use Rattle.epic_model.specs.Passing.{hop_verdicts}
use Rattle.epic_model.proofs.Travelled.{named_by, named_issue}
use Rattle.epic_text.specs.VerdictText.{IsForgeryOf, IsTellable}

-- ---- hops

lower_known : (t : Network) (w x : HopName) → IsTrue (has t w.asn) → IsTrue (has t x.asn)
    → IsTrue (has t (lower w x).asn)
unfolding lower
lower_known t w x known here = cond_known (ltb w.body.pos x.body.pos)
  where
    cond_known : (b : Bool) → IsTrue (has t (cond b w x).asn)
    cond_known true = known
    cond_known false = here

broken_left : (issues : List Issue) (z : HopName) (o : Option ℕ) (b : Bool)
    (pair : HopName × HopName) → broken issues z o b ≡ Some pair → pair.0 ≡ z
broken_left issues z None b pair h = absurd (cc)
broken_left issues z (Some n) true pair h = absurd (cc)
broken_left issues z (Some n) false pair h =
    let same : pair ≡ (z, parent_name issues n) = cc in ap (λ (q : HopName × HopName). q.0) same

-- the left one of the two at which a chain breaks is of an AS of the topology
pair_known : (t : Network) (f : Facts) (x : HopName) (p : Contents) (j : ℕ) → PassesKept t f.passes
    → IsTrue (has t x.asn)
    → (pair : HopName × HopName) → broken_chain f x p j ≡ Some pair → IsTrue (has t pair.0.asn)
unfolding broken_chain broken_between chain_pass pass_name
pair_known t f x p j kept here pair h = by (is_first (place p.route.segments j))
    (chain_pass f.passes p.route (j - 1)) refl h
  where
    by : (b : Bool) (o : Option Pass) → chain_pass f.passes p.route (j - 1) ≡ o
        → cond b None
        (option_and_then
        (λ w. broken_between f.issues (higher (pass_name w) x)
        (lower (pass_name w) x)) o) ≡ Some pair
        → IsTrue (has t pair.0.asn)
    by true o e s = absurd (cc)
    by false None e s = absurd (cc)
    by false (Some w) e s =
        let is = found (is_on_path p.route (j - 1)) f.passes w e in
        let left : pair.0 ≡ lower (pass_name w) x = broken_left f.issues
        (lower (pass_name w) x) _ _ pair s in
        rw left (lower_known t (pass_name w) x (kept is.index w is.there).known here)

-- a line of the table can be told, where what it tells of is of the topology
lines_told : (t : Network) (p : Contents) (x : HopName) (j : ℕ) → j < hop_count p
    → IsTrue (has t x.asn)
    → (issue step : Option ℕ) (twin : Option HopName) (pair : Option (HopName × HopName))
    (tagged : Bool) (send opened : Option ℕ) (other : Option HopName)
    → is_tagged p.first ≡ tagged
    → ((q : HopName × HopName) → pair ≡ Some q → IsTrue (has t q.0.asn))
    → IsTellable t p
    (hop_lines x j (field_name t x.asn p) issue step twin pair tagged send opened other)
unfolding has_form fits_level owner field_name
lines_told t p x j within here None (Some step) twin pair tagged send opened other is known = tt
lines_told t p x j within here None None (Some twin) pair tagged send opened other is known = here
lines_told t p x j within here None None None pair tagged send opened other is known
    = record { hop = within; form = refl; owner_there = here; level = refl }
lines_told t p x j within here (Some issue) step twin (Some pair) tagged send opened other is known
    = known pair refl
lines_told t p x j within here (Some issue) step twin None false send opened other is known = tt
lines_told t p x j within here (Some issue) step twin None true (Some send) opened other is known
    = tt
lines_told t p x j within here (Some issue) step twin None true None (Some opened) other is known
    = tt
lines_told t p x j within here (Some issue) step twin None true None None (Some other) is known
    = here
lines_told t p x j within here (Some issue) step twin None true None None None is known
    = record { hop = within; form = refl; owner_there = here; level = is }

hop_told : (t : Network) (f : Facts) (x : HopName) (p : Contents) (j : ℕ) → Kept t f
    → j < hop_count p → IsTrue (has t x.asn)
    → IsTellable t p (hop_verdict t f x p j)
hop_told t f x p j kept within here =
    lines_told t p x j within here _ _ _ (broken_chain f x p j) (is_tagged p.first) _ _ _ refl
    (pair_known t f x p j kept.passes here)

-- of all hops that a router of the AS handled, from hop j on
pub hops_told : (t : Network) (f : Facts) (a : AsId) (p : Contents) (j : ℕ) (gs : List ℕ)
    → Kept t f → IsTrue (has t a) → j + length gs ≤ hop_count p
    → All (IsTellable t p) (hop_verdicts t f a p j gs)
unfolding hop_name
hops_told t f a p j [] kept here within = All-nil (IsTellable t p)
hops_told t f a p j (g ∷ gs) kept here within =
    All-cons (IsTellable t p) (hop_verdict t f (hop_name a g p j) p j)
    (hop_verdicts t f a p (j + 1) gs)
    (hop_told t f (hop_name a g p j) p j kept (omega (arith, within)) here)
    (hops_told t f a p (j + 1) gs kept here (omega (arith, within)))

-- one a generation
pub hops_counted : (t : Network) (f : Facts) (a : AsId) (p : Contents) (j : ℕ) (gs : List ℕ)
    → length (hop_verdicts t f a p j gs) ≡ length gs
hops_counted t f a p j [] = refl
hops_counted t f a p j (g ∷ gs) =
    (let rest = hops_counted t f a p (j + 1) gs in omega (arith, rest))

-- ---- destinations

module _ (t : Network) (f : Facts) (p : Contents) (packets : ArePackets f) (kept : Kept t f)
    (packet : IsPacket p) (here : IsTrue (has t p.dst.asn)) where
  opened_told : (opened : Option ℕ) → is_tagged p.first ≡ true
      → IsTellable t p (opened_or_forged (dest_name t p) opened)
  unfolding has_form fits_level owner dest_name
  opened_told (Some step) tagged = tt
  opened_told None tagged
      = record { hop = some_hop p packet; form = refl; owner_there = here; level = tagged }

  -- an uncovered hop is one of the packet, and of an AS of the topology
  within : (s : Sent) (u : Uncovered) → SentThere f p s → IsUncovered f p s u → u.hop < hop_count p
  within s u there is =
      let same = (paths_are_one s.packet.route p.route
      (packets.sent there.index s there.there).route packet.route there.alike.path_is).routes in
      subst (λ (r : Route). u.hop < length r.hops) same is.inside

  named_known : (s : Sent) (u : Uncovered) → IsUncovered f p s u → IsTrue (has t u.name.asn)
  named_known s u is =
      let i = named_issue f.issues (sent_issue f.issues s u.hop) u.name
      (sym (named_by f.issues s u.hop is.inside) ∙ is.named) in
      subst (λ (y : HopName). IsTrue (has t y.asn)) i.1.1
      (kept.issues (sent_issue f.issues s u.hop) i.0 i.1.0).known

  update_told : (s : Sent) (u : Uncovered) → SentThere f p s → IsUncovered f p s u
      → is_tagged p.first ≡ true
      → IsForgeryOf t p
      (record { kind = kind.Update; hop = u.hop; key = field_name t u.name.asn p; generation = u.name.generation })
  unfolding has_form fits_level owner field_name
  update_told s u there is tagged = record {
    hop = within s u there is;
    form = refl;
    owner_there = named_known s u is;
    level = and_from _ _ tagged is.level;
  }

  twin_known : (u : Uncovered) (y : HopName) → twin_pass t f p u ≡ Some y → IsTrue (has t y.asn)
  unfolding pass_name
  twin_known u y e =
      let twin = twin_there t f p u y e in
      subst (λ (z : HopName). IsTrue (has t z.asn)) twin.name_is
      (kept.passes twin.index twin.pass twin.there).known

  dest_lines_told : (tagged : Bool) (send : Option Sent) (hop : Option Uncovered) (updated : Bool)
      (twin : Option HopName) (opened : Option ℕ)
      → is_tagged p.first ≡ tagged → sent_as f.sends p ≡ send → uncovered f p ≡ hop
      → option_and_then (twin_pass t f p) hop ≡ twin
      → IsTellable t p
      (dest_lines t p tagged (option_map (λ s. s.emission) send) hop updated twin opened)
  dest_lines_told false send hop updated twin opened et es eh ew = tt
  dest_lines_told true (Some s) None updated twin opened et es eh ew = tt
  dest_lines_told true (Some s) (Some u) true (Some twin) opened et es eh ew = twin_known u twin ew
  dest_lines_told true (Some s) (Some u) true None opened et es eh ew =
      update_told s u (sent_there f p s es) (uncovered_hop f p s u es eh) et
  dest_lines_told true (Some s) (Some u) false twin opened et es eh ew = opened_told opened et
  dest_lines_told true None hop updated twin opened et es eh ew = opened_told opened et

  pub dest_told : IsTellable t p (dest_verdict t f p)
  dest_told = dest_lines_told (is_tagged p.first) (sent_as f.sends p) (uncovered f p) _
      (option_and_then (twin_pass t f p) (uncovered f p)) _ refl refl refl refl
