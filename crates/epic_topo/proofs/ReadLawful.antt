-- A text tells of a lawful topology.
use Rattle.std.proofs.Common.{◌≡◌, ℕ, ◌+◌, ◌≤◌, List, [], length, Option, None, Some, Ok, IfOk, nat_le, arith, ap, refl}
use Rattle.std.proofs.lemmas.Bool.{cond_both, leb-true}
use Rattle.std.proofs.lemmas.List.{length_push}
use Rattle.toml.specs.Data.{Data, Items, no_items, item, as_array}
use Rattle.epic_num.specs.declared.profile.Profile.{Profile}
use Rattle.epic_num.specs.Moments.{IsProfile}
use Rattle.epic_topo.specs.Lawful.{IsNewLink, IsNewSystem, IsTopology}
use Rattle.epic_topo.specs.Network.{Network, with_link, with_system}
use Rattle.epic_topo.specs.Reading.{fails, or_fails, value_at, item_count, rows, profile_of, next_system, with_systems, with_systems_of, next_link, with_links, with_links_of, document, topology}
use Rattle.epic_topo.specs.declared.fault.TopoKey.{TopoKey}
use Rattle.epic_topo.specs.declared.fault.TopoKey.TheVariants as key
use Rattle.epic_topo.specs.declared.fault.TopoKind.TheVariants.{WrongKind, TooMany}
use Rattle.epic_topo.proofs.Fits.{next_link_fits, next_system_fits, profile_fits}
use Rattle.epic_topo.proofs.Grown.{grown_link, grown_system}
use Rattle.epic_topo.proofs.Steps.{after, at_ok}

-- a topology with settings and nothing else
bare_lawful : (p : Profile) → IsProfile p → IsTopology (record { profile = p; systems = []; links = [] })
bare_lawful p h =
    record {
      settings = h;
      few_systems = omega arith;
      few_links = omega arith;
      each_system = λ k d lt. absurd (omega arith);
      other_systems = λ i j d before lt. absurd (omega arith);
      each_link = λ k d lt. absurd (omega arith);
      other_ends = λ i j d before lt. absurd (omega arith);
    }

few_rows : (k : TopoKey) (most : ℕ) (d : Data) → IfOk (rows k most d) (λ ds. item_count ds ≤ most)
unfolding rows
few_rows k most d =
    after (or_fails WrongKind k 0 (as_array d)) _ _ (λ ds _.
    cond_both (nat_le (item_count ds) most) (Ok ds) (fails TooMany k 0) (λ r. IfOk r (λ es. item_count es ≤ most))
    (λ e. leb-true (item_count ds) most e) (λ _. tt))

-- ---- the ASes

systems_lawful : (n : Network) (ds : Items) → length n.systems + item_count ds ≤ 4096 → IsTopology n → n.links ≡ []
    → IfOk (with_systems n ds) (λ m. IsTopology m × (m.links ≡ []))
systems_lawful n no_items few t none = (t, none)
systems_lawful n (item d ds) few t none =
    after (next_system n d) _ _ (λ s read.
    systems_lawful (with_system n s) ds (omega (arith, length_push n.systems s))
    (grown_system n s t none (omega arith) (at_ok (IsNewSystem n) (next_system n d) s read (next_system_fits n d))) none)

systems_of_lawful : (p : Profile) (o : Option Data) → IsProfile p
    → IfOk (with_systems_of (record { profile = p; systems = []; links = [] }) o) (λ m. IsTopology m × (m.links ≡ []))
systems_of_lawful p None h = (bare_lawful p h, refl)
systems_of_lawful p (Some d) h =
    after (rows key.As 4096 d) _ _ (λ ds read.
    systems_lawful (record { profile = p; systems = []; links = [] }) ds
    (let few : item_count ds ≤ 4096 = at_ok (λ es. item_count es ≤ 4096) (rows key.As 4096 d) ds read (few_rows key.As 4096 d) in omega arith)
    (bare_lawful p h) refl)

-- ---- the links

links_lawful : (n : Network) (ds : Items) → length n.links + item_count ds ≤ 16384 → IsTopology n → IfOk (with_links n ds) IsTopology
links_lawful n no_items few t = t
links_lawful n (item d ds) few t =
    after (next_link n d) _ _ (λ l read.
    links_lawful (with_link n l) ds (omega (arith, length_push n.links l))
    (grown_link n l t (omega arith) (at_ok (IsNewLink n) (next_link n d) l read (next_link_fits n d))))

links_of_lawful : (n : Network) (o : Option Data) → IsTopology n → n.links ≡ [] → IfOk (with_links_of n o) IsTopology
links_of_lawful n None t none = t
links_of_lawful n (Some d) t none =
    after (rows key.Link 16384 d) _ _ (λ ds read.
    links_lawful n ds
    (let few : item_count ds ≤ 16384 = at_ok (λ es. item_count es ≤ 16384) (rows key.Link 16384 d) ds read (few_rows key.Link 16384 d) in
    omega (arith, ap length none))
    t)

-- ---- the text

pub read_lawful : (text : List ℕ) → IfOk (topology text) IsTopology
unfolding topology
read_lawful text =
    after (document text) _ _ (λ t _.
    after (profile_of (value_at key.Profile t)) _ _ (λ p read.
    after (with_systems_of (record { profile = p; systems = []; links = [] }) (value_at key.As t)) _ _ (λ n grown.
    let fits = at_ok IsProfile (profile_of (value_at key.Profile t)) p read (profile_fits (value_at key.Profile t)) in
    let lawful = at_ok (λ m. IsTopology m × (m.links ≡ [])) (with_systems_of (record { profile = p; systems = []; links = [] }) (value_at key.As t))
    n grown (systems_of_lawful p (value_at key.As t) fits) in
    links_of_lawful n (value_at key.Link t) lawful.0 lawful.1)))
