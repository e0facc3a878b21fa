-- The tests of the verdicts decide what they ask.
use Rattle.std.proofs.Common.{◌≡◌, ℕ, List, ap}
use Rattle.std.specs.Bool.{Decides}
use Rattle.std.specs.Prelude.{Option, Some, None}
use Rattle.std.proofs.lemmas.Bool.Decides.{Decides-eqb, Decides-and, Decides-like}
use Rattle.std.proofs.lemmas.Slice.Eq.{bytes_eq-Decides}
use Rattle.epic_num.specs.declared.hop.HopName.{HopName}
use Rattle.epic_num.specs.Chains.{Issue, name_of}
use Rattle.epic_num.proofs.SameLaws.{same_as-Decides, same_host-Decides, same_name-Decides}
use Rattle.epic_layout.specs.Contents.{Contents}
use Rattle.epic_layout.specs.Spelling.{path_bytes}
use Rattle.epic_topo.specs.Network.{Network}
use Rattle.epic_fields.specs.Tags.{sigma}
use Rattle.epic_ledger.specs.Facts.{Sent, Pass, pass_name}
use Rattle.epic_ledger.specs.Queries.{is_send_of, is_pass_of, same_path}
use Rattle.epic_audit.specs.Clauses.{is_sent_like, is_sent_as}
use Rattle.epic_audit.specs.declared.uncovered.Uncovered.{Uncovered}
use Rattle.epic_audit.specs.Verdicts.{is_named, is_twin, is_child, is_twin_pass}

pub is_named-Decides : (x : HopName) (o : Option HopName) → Decides (is_named x o) (o ≡ Some x)
is_named-Decides x None = (λ e. absurd (cc), λ e. absurd (cc))
is_named-Decides x (Some y) = Decides-like _ (λ e. ap Some e) (λ e. cc) (same_name-Decides y x)

pub is_send_of-Decides : (p : Contents) (s : Sent) → Decides (is_send_of p.src p.ts s) ((s.packet.src ≡ p.src) × (s.packet.ts ≡ p.ts))
unfolding is_send_of
is_send_of-Decides p s = Decides-and _ _ (same_host-Decides s.packet.src p.src) (Decides-eqb s.packet.ts p.ts)

pub is_sent_like-Decides : (p : Contents) (s : Sent)
    → Decides (is_sent_like p s) (((s.packet.src ≡ p.src) × (s.packet.ts ≡ p.ts)) × (s.packet.first ≡ p.first))
unfolding is_sent_like
is_sent_like-Decides p s = Decides-and _ _ (is_send_of-Decides p s) (Decides-eqb s.packet.first p.first)

pub is_twin-Decides : (t : Network) (x y : HopName) → Decides (is_twin t x y) ((y.asn ≡ x.asn) × (sigma t y ≡ sigma t x))
unfolding is_twin
is_twin-Decides t x y = Decides-and _ _ (same_as-Decides y.asn x.asn) (bytes_eq-Decides (sigma t y) (sigma t x))

pub is_child-Decides : (issues : List Issue) (y z : HopName) (i : Issue)
    → Decides (is_child issues y z i) ((i.name ≡ y) × (name_of issues i.parent ≡ Some z))
unfolding is_child
is_child-Decides issues y z i = Decides-and _ _ (same_name-Decides i.name y) (is_named-Decides z (name_of issues i.parent))

-- what it means that a packet was sent as p is
pub record SentAs (p : Contents) (s : Sent) : Type 0 where
  pub src_is : s.packet.src ≡ p.src
  pub ts_is : s.packet.ts ≡ p.ts
  pub first_is : s.packet.first ≡ p.first
  pub dst_is : s.packet.dst ≡ p.dst
  pub path_is : path_bytes s.packet.route ≡ path_bytes p.route
  pub payload_is : s.packet.payload ≡ p.payload

pub is_sent_as-Decides : (p : Contents) (s : Sent) → Decides (is_sent_as p s) (SentAs p s)
unfolding is_sent_as same_path
is_sent_as-Decides p s =
    Decides-like _
    (λ e. record { src_is = e.0.0.0.0.0; ts_is = e.0.0.0.0.1; first_is = e.0.0.0.1; dst_is = e.0.0.1; path_is = e.0.1; payload_is = e.1 })
    (λ e. (((((e.src_is, e.ts_is), e.first_is), e.dst_is), e.path_is), e.payload_is))
    (Decides-and _ _
    (Decides-and _ _
    (Decides-and _ _ (is_sent_like-Decides p s) (same_host-Decides s.packet.dst p.dst))
    (bytes_eq-Decides (path_bytes s.packet.route) (path_bytes p.route)))
    (bytes_eq-Decides s.packet.payload p.payload))

-- what it means that a hop of a packet like p was accepted at an index
pub record PassedLike (x : HopName) (p : Contents) (i : ℕ) (w : Pass) : Type 0 where
  pub first_is : w.packet.first ≡ p.first
  pub name_is : pass_name w ≡ x
  pub src_is : w.packet.src ≡ p.src
  pub ts_is : w.packet.ts ≡ p.ts
  pub hop_is : w.hop ≡ i

pub is_pass_of-Decides : (x : HopName) (p : Contents) (i : ℕ) (w : Pass) → Decides (is_pass_of p.first x p.src p.ts i w) (PassedLike x p i w)
unfolding is_pass_of
is_pass_of-Decides x p i w =
    Decides-like _
    (λ e. record { first_is = e.0.0.0.0; name_is = e.0.0.0.1; src_is = e.0.0.1; ts_is = e.0.1; hop_is = e.1 })
    (λ e. ((((e.first_is, e.name_is), e.src_is), e.ts_is), e.hop_is))
    (Decides-and _ _
    (Decides-and _ _
    (Decides-and _ _
    (Decides-and _ _ (Decides-eqb w.packet.first p.first) (same_name-Decides (pass_name w) x))
    (same_host-Decides w.packet.src p.src))
    (Decides-eqb w.packet.ts p.ts))
    (Decides-eqb w.hop i))

-- what it means that a twin of the hop was
pub record TwinPassed (t : Network) (p : Contents) (u : Uncovered) (w : Pass) : Type 0 where
  pub asn_is : (pass_name w).asn ≡ u.name.asn
  pub sigma_is : sigma t (pass_name w) ≡ sigma t u.name
  pub first_is : w.packet.first ≡ p.first
  pub src_is : w.packet.src ≡ p.src
  pub ts_is : w.packet.ts ≡ p.ts
  pub hop_is : w.hop ≡ u.hop

pub is_twin_pass-Decides : (t : Network) (p : Contents) (u : Uncovered) (w : Pass) → Decides (is_twin_pass t p u w) (TwinPassed t p u w)
unfolding is_twin_pass
is_twin_pass-Decides t p u w =
    Decides-like _
    (λ e. record { hop_is = e.0.0.0.0; ts_is = e.0.0.0.1; first_is = e.0.0.1; src_is = e.0.1; asn_is = e.1.0; sigma_is = e.1.1 })
    (λ e. ((((e.hop_is, e.ts_is), e.first_is), e.src_is), (e.asn_is, e.sigma_is)))
    (Decides-and _ _
    (Decides-and _ _
    (Decides-and _ _
    (Decides-and _ _ (Decides-eqb w.hop u.hop) (Decides-eqb w.packet.ts p.ts))
    (Decides-eqb w.packet.first p.first))
    (same_host-Decides w.packet.src p.src))
    (is_twin-Decides t u.name (pass_name w)))
