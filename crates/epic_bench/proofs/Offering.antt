-- A window that is offered one packet more holds what the definition says.
use Rattle.std.proofs.Common.{◌≡◌, ℕ, ◌+◌, ◌≤◌, refl, sym, ◌∙◌, ap, subst, add-one, [], arith}
use Rattle.epic_num.specs.Moments.{IsFresh}
use Rattle.epic_num.specs.declared.profile.Profile.{Profile}
use Rattle.epic_window.specs.Entries.{Entries, Same}
use Rattle.epic_window.specs.Offers.{Held, Offers, after, answer}
use Rattle.epic_window.specs.declared.key.WinKey.{WinKey}
use Rattle.epic_window.specs.declared.offer.Offer.{Offer}
use Rattle.epic_window.specs.declared.offer.Offer.TheVariants.{Fresh, Seen, Full}
use Rattle.epic_window.proofs.SameEntries.{Same-answer, Same-cons, Same-later, Same-refl, Same-trans}
use Rattle.epic_bench.specs.Offers.{fresh_by, heard, heard_one, key_of, moment_of}
use Rattle.epic_bench.specs.declared.offers.TheConstants.{PROFILE}
use Rattle.epic_bench.specs.declared.work.Load.{Load}
use Rattle.epic_bench.specs.declared.work.Load.TheVariants.{One, Hundred, Thousands}

-- a packet is fresh at its timestamp
fresh_now : (load : Load) (i : ℕ) → IsFresh PROFILE (key_of load i).ts (moment_of load i)
unfolding key_of
fresh_now load i = record { not_early = omega arith; not_stale = omega arith }

pub fresh_at : (load : Load) (i : ℕ) (profile : Profile) (key : WinKey) (now : ℕ) → profile ≡ PROFILE → key ≡ key_of load i → now ≡ moment_of load i
    → IsFresh profile key.ts now
fresh_at load i profile key now p k n =
    subst (λ q. IsFresh q key.ts now) (sym p)
    (subst (λ l. IsFresh PROFILE l.ts now) (sym k) (subst (IsFresh PROFILE (key_of load i).ts) (sym n) (fresh_now load i)))

later_moment : (load : Load) (i : ℕ) → moment_of load i ≤ moment_of load (i + 1)
unfolding moment_of
later_moment One i = omega arith
later_moment Hundred i = omega arith
later_moment Thousands i = omega arith

-- the same offer to windows that hold the same
Same-after : (profile : Profile) (from : ℕ) (es fs : Entries) (key : WinKey) (turn : ℕ) (given : Offer) → Same profile from es fs
    → Same profile from (after es key turn given) (after fs key turn given)
Same-after profile from es fs key turn Fresh h = Same-cons profile from (key, turn) es fs h
Same-after profile from es fs key turn (Seen first) h = h
Same-after profile from es fs key turn (Full live) h = h

heard_next : (load : Load) (i : ℕ) → heard load (i + 1) ≡ heard_one load i (heard load i)
unfolding heard
heard_next load i = rw add-one refl

-- a window holds what so many offers leave, and so many were fresh
pub record IsHeard (load : Load) (i fresh : ℕ) (window : Held) : Type 0 where
  pub profile : window.profile ≡ PROFILE
  pub latest : window.latest ≤ moment_of load i
  pub entries : Same PROFILE window.latest window.entries (heard load i).entries
  pub fresh_is : fresh ≡ (heard load i).fresh
  pub few : fresh ≤ i

-- a new window, before the first offer
pub heard_none : (load : Load) (window : Held) → window.profile ≡ PROFILE → window.entries ≡ [] → window.latest ≡ 0 → IsHeard load 0 0 window
unfolding heard
heard_none load window profile entries latest = record {
  profile = profile;
  latest = omega (arith, latest);
  entries = subst (λ es. Same PROFILE window.latest es []) (sym entries) (Same-refl PROFILE window.latest []);
  fresh_is = refl;
  few = omega arith;
}

pub heard_more : (load : Load) (i fresh count : ℕ) (old ready new : Held) (given : Offer) → IsHeard load i fresh old
    → Same old.profile old.latest ready.entries old.entries → ready.latest ≡ old.latest → ready.profile ≡ old.profile
    → Offers ready new (key_of load i) (moment_of load i) i given → count ≡ fresh_by given → count ≤ 1 → IsHeard load (i + 1) (fresh + count) new
unfolding heard_one
heard_more load i fresh count old ready new given h same latest profile o counted one = record {
  profile = o.profile ∙ profile ∙ h.profile;
  latest = omega (arith, o.latest, later_moment load i);
  entries = subst (λ now. Same PROFILE now new.entries (heard load (i + 1)).entries) (sym o.latest)
      (subst (Same PROFILE now new.entries) (ap (after before key i) is ∙ sym (ap (λ k. k.entries) next))
      (Same-trans PROFILE now new.entries (after ready.entries key i given) (after before key i given) kept
      (Same-after PROFILE now ready.entries before key i given (Same-later PROFILE old.latest now ready.entries before h.latest held))));
  fresh_is = omega (arith, h.fresh_is, counted, ap fresh_by is, ap (λ k. k.fresh) next);
  few = omega (arith, h.few, one);
}
  where
    now : ℕ
    now = moment_of load i

    key : WinKey
    key = key_of load i

    before : Entries
    before = (heard load i).entries

    next : heard load (i + 1) ≡ heard_one load i (heard load i)
    next = heard_next load i

    held : Same PROFILE old.latest ready.entries before
    held = Same-trans PROFILE old.latest ready.entries old.entries before (subst (λ p. Same p old.latest ready.entries old.entries) h.profile same) h.entries

    is : given ≡ answer PROFILE before key now
    is =
        o.answers
        ∙ ap (λ p. answer p ready.entries key now) (profile ∙ h.profile)
        ∙ Same-answer PROFILE old.latest ready.entries before key now h.latest held

    kept : Same PROFILE now new.entries (after ready.entries key i given)
    kept = subst (λ p. Same p now new.entries (after ready.entries key i given)) (profile ∙ h.profile) o.entries
