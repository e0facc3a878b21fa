-- A policer that is offered one packet more has let pass what the definition says.
use Rattle.std.proofs.Common.{◌≡◌, ℕ, ◌+◌, ◌/◌, ◌≤◌, refl, sym, ◌∙◌, ap, subst, add-one, List, [], arith}
use Rattle.epic_num.specs.declared.name.AsId.{AsId}
use Rattle.epic_policer.specs.Offers.{Held, Offers, Policy, Same, after, answer, is_among}
use Rattle.epic_policer.specs.Runs.{Keeps, Turn}
use Rattle.epic_policer.specs.Table.{Alike}
use Rattle.epic_policer.specs.declared.packet.Packet.{Packet}
use Rattle.epic_policer.specs.declared.policed.Policed.{Policed}
use Rattle.epic_policer.proofs.Folds.{given_is, left_same}
use Rattle.epic_policer.proofs.Sums.{Same-refl}
use Rattle.epic_policer.proofs.Tables.{answer-alike}
use Rattle.epic_bench.specs.Policing.{packet_of, passed_by, policed, policed_one, policy}

policed_next : (i : ℕ) → policed (i + 1) ≡ policed_one i (policed i)
unfolding policed
policed_next i = rw add-one refl

later_moment : (i : ℕ) → (packet_of i).moment ≤ (packet_of (i + 1)).moment
unfolding packet_of
later_moment i = omega arith

-- a policer holds what so many offers leave, and so many packets passed
pub record IsPoliced (i count : ℕ) (p : Held) : Type 0 where
  pub alike : Alike p.policy policy
  pub latest : p.latest ≤ (packet_of i).moment
  pub same : Same p.policy.span_us p.latest p.passed (policed i).passed
  pub count_is : count ≡ (policed i).count
  pub few : count ≤ i

-- a new policer, before the first offer
pub policed_none : (p : Held) → ((s : AsId) → is_among p.policy.sources s ≡ is_among policy.sources s) → p.policy.budget ≡ policy.budget
    → p.policy.span_us ≡ policy.span_us → p.passed ≡ [] → p.latest ≡ 0 → IsPoliced 0 0 p
unfolding policed
policed_none p sources budget span passed latest = record {
  alike = record { sources = sources; budget = budget; span = span };
  latest = omega (arith, latest);
  same = subst (λ ps. Same p.policy.span_us p.latest ps []) (sym passed) (Same-refl p.policy.span_us p.latest []);
  count_is = refl;
  few = omega arith;
}

module _ (i count more : ℕ) (old ready new : Held) (given : Policed) (h : IsPoliced i count old) (passed : ready.passed ≡ old.passed) (latest : ready.latest ≡ old.latest) (settings : ready.policy ≡ old.policy) (o : Offers ready new (packet_of i) given) (counted : more ≡ passed_by given) (one : more ≤ 1) where
  abbrev turn : Turn
  turn = record { packet = packet_of i; given = given; ready = ready; left = new }

  keeps : Keeps old ready
  keeps = record {
    passed = subst (λ ps. Same old.policy.span_us old.latest ps old.passed) (sym passed) (Same-refl old.policy.span_us old.latest old.passed);
    latest = latest;
    policy = settings;
  }

  later : ready.latest ≤ (packet_of i).moment
  later = omega (arith, latest, h.latest)

  abbrev before : List Packet
  before = (policed i).passed

  is : given ≡ answer policy before (packet_of i)
  is = given_is old turn before h.same keeps later o ∙ answer-alike old.policy policy before (packet_of i) h.alike

  next : policed (i + 1) ≡ policed_one i (policed i)
  next = policed_next i

  pub policed_more : IsPoliced (i + 1) (count + more) new
  unfolding policed_one
  policed_more = record {
    alike = subst (λ (y : Policy). Alike y policy) (sym (o.policy ∙ settings)) h.alike;
    latest = omega (arith, o.latest, later_moment i);
    same = subst (Same new.policy.span_us new.latest new.passed) (ap (after before (packet_of i)) is ∙ sym (ap (λ k. k.passed) next))
        (left_same old turn before h.same keeps later o);
    count_is = omega (arith, h.count_is, counted, ap passed_by is, ap (λ k. k.count) next);
    few = omega (arith, h.few, one);
  }
