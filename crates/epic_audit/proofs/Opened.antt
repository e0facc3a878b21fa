-- What is known of a hop of a sent packet that isn't covered.
use Rattle.std.proofs.Common.{◌≡◌, ℕ, ◌<◌, Bool, true, false, ◌||◌, not, Option, Some, None, List, find, refl, ap, sym, ◌∙◌, subst}
use Rattle.std.specs.Prelude.{option_map, option_and_then, unwrap_or, if◌then◌else◌, nat_lt}
use Rattle.std.specs.List.{range_with_len}
use Rattle.std.specs.Option.{option_map_or}
use Rattle.std.proofs.lemmas.Option.{same_Some}
use Rattle.epic_num.specs.declared.hop.HopName.{HopName}
use Rattle.epic_num.specs.declared.key_name.Holder.TheVariants.{As, Host}
use Rattle.epic_num.specs.Chains.{Issue, name_of}
use Rattle.epic_layout.specs.Contents.{Contents, hop_count}
use Rattle.epic_topo.specs.Network.{Network, has}
use Rattle.epic_fields.specs.Issues.{IssuesKept}
use Rattle.epic_ledger.specs.Facts.{Facts, Sent, sent_issue, sent_name}
use Rattle.epic_ledger.specs.Queries.{send_of}
use Rattle.epic_num.specs.Levels.{is_updated}
use Rattle.epic_audit.specs.Reveals.{is_revealed}
use Rattle.epic_audit.specs.Searches.{name_sent, is_passed, is_open, open_hop, first_open}
use Rattle.epic_num.specs.Chains.{no_name}
use Rattle.epic_audit.specs.declared.uncovered.Uncovered.{Uncovered}
use Rattle.epic_audit.proofs.Arrivals.{range_within}
use Rattle.epic_audit.proofs.Finds.{found}
use Rattle.epic_audit.proofs.Queries.{name_there}

-- the AS of an issued hop is of the topology
known_name : (t : Network) (issues : List Issue) (n : ℕ) (x : HopName) → IssuesKept t issues → name_of issues n ≡ Some x → has t x.asn ≡ true
known_name t issues n x kept e =
    let there = name_there issues n x e in
    subst (λ (y : HopName). has t y.asn ≡ true) there.2 (kept n there.0 there.1).known

known_sent : (t : Network) (issues : List Issue) (s : Sent) (j : ℕ) (x : HopName) → IssuesKept t issues → sent_name issues s j ≡ Some x → has t x.asn ≡ true
unfolding sent_name
known_sent t issues s j x kept e = by (nat_lt j (hop_count s.packet)) e
  where
    by : (b : Bool) → (if b then name_of issues (sent_issue issues s j) else None) ≡ Some x → has t x.asn ≡ true
    by true k = known_name t issues (sent_issue issues s j) x kept k
    by false k = absurd (cc)

-- the hop is one of so many, of an AS of the topology
pub record OpenAt (t : Network) (u : Uncovered) (hops : ℕ) : Type 0 where
  pub inside : u.hop < hops
  pub known : has t u.name.asn ≡ true

named_open : (f : Facts) (p : Contents) (i : ℕ) → is_open f p i ≡ true → (x : HopName) × (name_sent f p i ≡ Some x)
unfolding is_open
named_open f p i e = by (name_sent f p i) refl e
  where
    by : (o : Option HopName) → name_sent f p i ≡ o → option_map_or (λ x. not (is_revealed f.reveals (As x.asn) || is_passed f x p i)) o false ≡ true
        → (x : HopName) × (name_sent f p i ≡ Some x)
    by None k h = absurd (cc)
    by (Some x) k h = (x, k)

known_open : (t : Network) (f : Facts) (p : Contents) (i : ℕ) (x : HopName) → IssuesKept t f.issues → name_sent f p i ≡ Some x → has t x.asn ≡ true
unfolding name_sent
known_open t f p i x kept e = by (send_of f.sends p.src p.ts) e
  where
    by : (o : Option Sent) → option_and_then (λ s. sent_name f.issues s i) o ≡ Some x → has t x.asn ≡ true
    by None k = absurd (cc)
    by (Some s) k = known_sent t f.issues s i x kept k

pub open_at : (t : Network) (f : Facts) (p : Contents) (hops : ℕ) (u : Uncovered) → IssuesKept t f.issues → first_open f p hops ≡ Some u → OpenAt t u hops
unfolding first_open
open_at t f p hops u kept e =
    by (not (is_updated p.first) || (is_revealed f.reveals (Host p.src) || is_revealed f.reveals (As p.src.asn))) (find (is_open f p) (range_with_len 0 hops)) refl e
  where
    by : (b : Bool) (o : Option ℕ) → find (is_open f p) (range_with_len 0 hops) ≡ o → (if b then None else option_map (open_hop f p) o) ≡ Some u → OpenAt t u hops
    by true o k h = absurd (cc)
    by false None k h = absurd (cc)
    by false (Some i) k h =
        let is = found (is_open f p) (range_with_len 0 hops) i k in
        let named = named_open f p i is.passes in
        let same : open_hop f p i ≡ u = same_Some (open_hop f p i) u h in
        let name : named.0 ≡ u.name = sym (ap (λ (o : Option HopName). unwrap_or o no_name) named.1) ∙ ap (λ (v : Uncovered). v.name) same in
        record {
          inside = subst (λ (v : Uncovered). v.hop < hops) same (range_within hops is.index i is.there);
          known = subst (λ (x : HopName). has t x.asn ≡ true) name (known_open t f p i named.0 kept named.1);
        }
