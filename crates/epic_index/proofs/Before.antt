-- The hop that was passed before another in its segment.
use Rattle.std.proofs.Common.{◌≡◌, ℕ, ◌-◌, ◌<◌, Bool, true, false, Option, Some, None, refl, ap, sym, ◌∙◌, arith}
use Rattle.std.specs.Prelude.{option_map, if◌then◌else◌}
use Rattle.std.proofs.lemmas.Option.{same_Some}
use Rattle.epic_num.specs.declared.hop.Body.{Body}
use Rattle.epic_num.specs.declared.name.AsId.{AsId}
use Rattle.epic_layout.specs.Contents.{Contents, IsPacket, hop_count}
use Rattle.epic_layout.specs.Route.{place, is_first, body}
use Rattle.epic_layout.proofs.HopPlaces.{neighbours_follow}
use Rattle.epic_layout.proofs.OneSpelling.{paths_are_one}
use Rattle.epic_ledger.specs.History.{History}
use Rattle.epic_ledger.specs.Facts.{Facts, Pass, facts_of, pass_name}
use Rattle.epic_ledger.specs.Lawful.{IsLawful}
use Rattle.epic_ledger.specs.Queries.{chain_pass}
use Rattle.epic_fields.specs.HopChecks.{hop_name}
use Rattle.epic_audit.specs.Searches.{passed_before}
use Rattle.epic_audit.proofs.Chained.{passed_there, pass_name_is}
use Rattle.epic_audit.proofs.Growth.{lawful_packets}

-- the first hop of a packet has none before it
pub some_before : (p : Contents) (j : ℕ) → IsPacket p → j < hop_count p → is_first (place p.route.segments j) ≡ false → 0 < j
some_before p j is lt e =
    let counted = is.route.counted in (neighbours_follow p.route.segments j (omega arith) e).0

abbrev pub row : Pass → AsId × ℕ × ℕ
row w = (w.asn, w.generation, w.emission)

pub before_is : (h : History) (p : Contents) (j : ℕ) (r : AsId × ℕ × ℕ) → IsLawful h → IsPacket p → is_first (place p.route.segments j) ≡ false
    → Some r ≡ option_map row (chain_pass (facts_of h).passes p.route (j - 1))
    → Some (hop_name r.0 r.1 p (j - 1)) ≡ passed_before (facts_of h) p j
unfolding passed_before
before_is h p j r lawful packet first e =
    by (chain_pass (facts_of h).passes p.route (j - 1)) refl e
    ∙ sym (ap (λ (b : Bool). if b then None else option_map pass_name (chain_pass (facts_of h).passes p.route (j - 1))) first)
  where
    by : (o : Option Pass) → chain_pass (facts_of h).passes p.route (j - 1) ≡ o → Some r ≡ option_map row o → Some (hop_name r.0 r.1 p (j - 1)) ≡ option_map pass_name o
    by None k s = absurd (cc)
    by (Some w) k s =
        let there = passed_there (facts_of h) p.route (j - 1) w k in
        let same = (paths_are_one w.packet.route p.route ((lawful_packets h lawful).passed there.0 w there.1).route packet.route there.3).routes in
        let is : r ≡ row w = same_Some r (row w) s in
        ap Some (ap (λ (q : AsId × ℕ × ℕ). hop_name q.0 q.1 p (j - 1)) is ∙ sym (pass_name_is w p (j - 1) same there.2))

pub none_before : (f : Facts) (p : Contents) (j : ℕ) → is_first (place p.route.segments j) ≡ true → None ≡ passed_before f p j
unfolding passed_before
none_before f p j e = sym (ap (λ (b : Bool). if b then None else option_map pass_name (chain_pass f.passes p.route (j - 1))) e)

pub none_passed : (f : Facts) (p : Contents) (j : ℕ) → None ≡ option_map row (chain_pass f.passes p.route (j - 1)) → None ≡ passed_before f p j
unfolding passed_before
none_passed f p j e = by (is_first (place p.route.segments j)) (chain_pass f.passes p.route (j - 1)) e
  where
    by : (b : Bool) (o : Option Pass) → None ≡ option_map row o → None ≡ (if b then None else option_map pass_name o)
    by true o k = refl
    by false None k = refl
    by false (Some w) k = absurd (cc)

-- a name whose body was read from the packet
pub name_read : (a : AsId) (g : ℕ) (p : Contents) (k : ℕ) (b : Body) → b ≡ body p.route k → record { asn = a; generation = g; body = b } ≡ hop_name a g p k
unfolding hop_name
name_read a g p k b e i = record { asn = a; generation = g; body = e i }
