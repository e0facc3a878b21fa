-- Hops of one AS with one authenticator: what is found of them, and what it means that none is.
use Rattle.std.proofs.Common.{◌≡◌, ◌≢◌, ℕ, suc, Bool, true, false, refl, ap, sym, ◌∙◌}
use Rattle.std.specs.Prelude.{Option, Some, None, find, option_map, option_and_then, slice_get, if◌then◌else◌}
use Rattle.std.proofs.lemmas.Option.{cond_some}
use Rattle.epic_num.specs.declared.hop.HopName.{HopName}
use Rattle.epic_num.specs.Chains.{Issue, issue_at}
use Rattle.epic_num.proofs.ChainLaws.{issue_at-suc}
use Rattle.epic_layout.specs.Contents.{Contents}
use Rattle.epic_topo.specs.Network.{Network}
use Rattle.epic_fields.specs.Tags.{sigma}
use Rattle.epic_ledger.specs.Facts.{Facts, Sent, sent_name}
use Rattle.epic_num.specs.Levels.{is_timed}
use Rattle.epic_audit.specs.Clauses.{IsIssued, is_sent_like}
use Rattle.epic_audit.specs.Collided.{HaveOneSigma}
use Rattle.epic_audit.specs.Kept.{AreApart}
use Rattle.epic_audit.specs.Verdicts.{is_twin, twin_issue, twin_sent}
use Rattle.epic_audit.proofs.Finds.{found, missing, found_only}
use Rattle.epic_audit.proofs.Queries.{at_place, named_there}
use Rattle.epic_audit.proofs.Decided.{is_twin-Decides, is_sent_like-Decides}

-- another hop that is a twin of x collides with it
pub one_sigma : (t : Network) (x y : HopName) → is_twin t x y ≡ true → x ≢ y → HaveOneSigma t x y
one_sigma t x y e differ =
    let both = (is_twin-Decides t x y).0 e in record { differ = differ; asn_is = sym both.0; sigma_is = sym both.1 }

-- ---- among issues

pub record TwinIssued (t : Network) (f : Facts) (x : HopName) (p : Contents) (y : HopName) : Type 0 where
  pub level : is_timed p.first ≡ true
  pub issued : IsIssued f.issues y
  pub twin : is_twin t x y ≡ true

pub twin_issued : (t : Network) (f : Facts) (x : HopName) (p : Contents) (y : HopName) → twin_issue t f x p ≡ Some y → TwinIssued t f x p y
unfolding twin_issue
twin_issued t f x p y e = by (is_timed p.first) (find (λ i. is_twin t x i.name) f.issues) refl refl e
  where
    by : (b : Bool) (o : Option Issue) → is_timed p.first ≡ b → find (λ i. is_twin t x i.name) f.issues ≡ o
        → (if b then option_map (λ i. i.name) o else None) ≡ Some y → TwinIssued t f x p y
    by false o h k s = absurd (cc)
    by true None h k s = absurd (cc)
    by true (Some i) h k s =
        let is = found (λ (n : Issue). is_twin t x n.name) f.issues i k in
        let same : i.name ≡ y = cc in
        record {
          level = h;
          issued = record { number = suc is.index; named = named_there f.issues (suc is.index) i (issue_at-suc f.issues is.index ∙ is.there) ∙ ap Some same };
          twin = ap (is_twin t x) (sym same) ∙ is.passes;
        }

pub no_twin_issued : (t : Network) (f : Facts) (x : HopName) (p : Contents) → twin_issue t f x p ≡ None → is_timed p.first ≡ true
    → (number : ℕ) (i : Issue) → issue_at f.issues number ≡ Some i → i.name.asn ≡ x.asn → sigma t i.name ≡ sigma t x → ⊥
unfolding twin_issue
no_twin_issued t f x p e level number i there asn same =
    by (find (λ n. is_twin t x n.name) f.issues) refl
    (sym (ap (λ (b : Bool). if b then option_map (λ n. n.name) (find (λ n. is_twin t x n.name) f.issues) else None) level) ∙ e)
  where
    by : (o : Option Issue) → find (λ n. is_twin t x n.name) f.issues ≡ o → option_map (λ n. n.name) o ≡ None → ⊥
    by (Some n) k s = cc
    by None k s =
        let at = at_place f.issues number i there in
        let fails = missing (λ (n : Issue). is_twin t x n.name) f.issues k at.0 i at.1 in
        let passes = (is_twin-Decides t x i.name).1 (asn, same) in
        cc

-- ---- among sent packets

-- a packet that p's source sent with p's first byte and timestamp, over another hop at j
pub record TwinSent (t : Network) (f : Facts) (x : HopName) (p : Contents) (j : ℕ) (y : HopName) : Type 0 where
  pub index : ℕ
  pub send : Sent
  pub there : slice_get f.sends index ≡ Some send
  pub alike : is_sent_like p send ≡ true
  pub named : sent_name f.issues send j ≡ Some y
  pub twin : is_twin t x y ≡ true

pub twin_was_sent : (t : Network) (f : Facts) (x : HopName) (p : Contents) (j : ℕ) (y : HopName) → twin_sent t f x p j ≡ Some y → TwinSent t f x p j y
unfolding twin_sent
twin_was_sent t f x p j y e = by (find (is_sent_like p) f.sends) refl e
  where
    named : (s : Sent) (o : Option HopName) → find (is_sent_like p) f.sends ≡ Some s → sent_name f.issues s j ≡ o
        → option_and_then (λ z. if is_twin t x z then Some z else None) o ≡ Some y → TwinSent t f x p j y
    named s None k n h = absurd (cc)
    named s (Some z) k n h =
        let is = found (is_sent_like p) f.sends s k in
        let c = cond_some (is_twin t x z) z y h in
        record { index = is.index; send = s; there = is.there; alike = is.passes; named = n ∙ ap Some c.1; twin = ap (is_twin t x) (sym c.1) ∙ c.0 }

    by : (o : Option Sent) → find (is_sent_like p) f.sends ≡ o
        → option_and_then (λ z. if is_twin t x z then Some z else None) (option_and_then (λ s. sent_name f.issues s j) o) ≡ Some y → TwinSent t f x p j y
    by None k h = absurd (cc)
    by (Some s) k h = named s (sent_name f.issues s j) k refl h

-- the one packet that was sent so is the first
pub sent_alone : (f : Facts) (p : Contents) (n : ℕ) (s : Sent) → AreApart f.sends → slice_get f.sends n ≡ Some s → is_sent_like p s ≡ true
    → find (is_sent_like p) f.sends ≡ Some s
sent_alone f p n s apart there alike =
    found_only (is_sent_like p) f.sends n s there alike
    (λ m r at same.
    let u = (is_sent_like-Decides p r).0 same in
    let v = (is_sent_like-Decides p s).0 alike in
    apart m n r s at there (u.0.0 ∙ sym v.0.0) (u.0.1 ∙ sym v.0.1))

pub no_twin_sent : (t : Network) (f : Facts) (x : HopName) (p : Contents) (j n : ℕ) (s : Sent) (y : HopName) → AreApart f.sends
    → twin_sent t f x p j ≡ None → slice_get f.sends n ≡ Some s → is_sent_like p s ≡ true → sent_name f.issues s j ≡ Some y → is_twin t x y ≡ true → ⊥
unfolding twin_sent
no_twin_sent t f x p j n s y apart e there alike named twin =
    let first = sent_alone f p n s apart there alike in
    let some : Some y ≡ None =
    sym (ap (λ (b : Bool). if b then Some y else None) twin)
    ∙ (sym (ap (option_and_then (λ z. if is_twin t x z then Some z else None)) (ap (option_and_then (λ r. sent_name f.issues r j)) first ∙ named)) ∙ e) in
    cc
