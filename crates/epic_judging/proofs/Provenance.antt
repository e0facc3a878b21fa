-- The tests of provenance and reveals decide what they ask.
use Rattle.std.proofs.Common.{◌≡◌, ℕ, Bool, true, false, List, refl, subst}
use Rattle.std.specs.Bool.{Decides}
use Rattle.std.specs.Prelude.{Option, Some, None, ◌&&◌, is_some, is_none}
use Rattle.std.proofs.lemmas.Bool.Decides.{Decides-eqb, Decides-and, Decides-like, Decides-not}
use Rattle.epic_num.specs.declared.hop.HopName.{HopName}
use Rattle.epic_num.specs.declared.key_name.Holder.{Holder}
use Rattle.epic_num.specs.Chains.{Issue}
use Rattle.epic_num.specs.Holders.{is_among}
use Rattle.epic_num.specs.Levels.{is_tagged}
use Rattle.epic_num.specs.Same.{same_holder}
use Rattle.epic_num.proofs.SameLaws.{same_holder-Decides}
use Rattle.epic_layout.specs.Contents.{Contents}
use Rattle.epic_ledger.specs.Facts.{Facts, Reveal, Sent}
use Rattle.epic_ledger.specs.Queries.{issue_of}
use Rattle.epic_audit.specs.Clauses.{IsIssued, IsChained, IsSourced, HopOk, DestOk, sent_as}
use Rattle.epic_audit.specs.Reveals.{IsRevealed, IsRevealedAt, NoneRevealed, is_revealed}
use Rattle.epic_audit.specs.Verdicts.{broken_chain, source_of, uncovered}
use Rattle.epic_audit.specs.declared.uncovered.Uncovered.{Uncovered}
use Rattle.epic_audit.proofs.Arrivals.{was_revealed, not_revealed, uncovered_hop, all_covered, not_ok_uncovered, not_ok_unsent}
use Rattle.epic_audit.proofs.Chained.{chained, not_chained}
use Rattle.epic_audit.proofs.Queries.{issued, unissued, sourced, unsourced}
use Rattle.epic_judging.specs.Given.{is_issued, is_chained, is_sourced, hop_ok, dest_ok, is_revealed_at, any_revealed_at, none_revealed}
use Rattle.epic_judging.proofs.Listing.{there-Decides, missing-Decides, implies-Decides, Has, any-Decides}

-- ---- provenance

pub is_issued-Decides : (issues : List Issue) (x : HopName) → Decides (is_issued issues x) (IsIssued issues x)
unfolding is_issued
is_issued-Decides issues x =
    there-Decides (issue_of issues x) (λ n e. record { number = n; named = issued issues x n e }) (unissued issues x)

pub is_chained-Decides : (f : Facts) (x : HopName) (p : Contents) (j : ℕ) → Decides (is_chained f x p j) (IsChained f x p j)
unfolding is_chained
is_chained-Decides f x p j = missing-Decides (broken_chain f x p j) (not_chained f x p j) (chained f x p j)

pub is_sourced-Decides : (f : Facts) (x : HopName) (p : Contents) (j : ℕ) → Decides (is_sourced f x p j) (IsSourced f x p j)
unfolding is_sourced
is_sourced-Decides f x p j = there-Decides (source_of f x p j) (sourced f x p j) (unsourced f x p j)

pub hop_ok-Decides : (f : Facts) (x : HopName) (p : Contents) (j : ℕ) → Decides (hop_ok f x p j) (HopOk f x p j)
unfolding hop_ok
hop_ok-Decides f x p j =
    Decides-like _
    (λ h. record { issued = h.0.0; chained = h.0.1; sourced = h.1 })
    (λ ok. ((ok.issued, ok.chained), ok.sourced))
    (Decides-and _ _
    (Decides-and _ _ (is_issued-Decides f.issues x) (is_chained-Decides f x p j))
    (implies-Decides (is_tagged p.first) _ (is_sourced-Decides f x p j)))

pub dest_ok-Decides : (f : Facts) (p : Contents) → Decides (dest_ok f p) (DestOk f p)
unfolding dest_ok
dest_ok-Decides f p = by (sent_as f.sends p) (uncovered f p) refl refl
  where
    by : (o : Option Sent) (u : Option Uncovered) → sent_as f.sends p ≡ o → uncovered f p ≡ u → Decides (is_some o && is_none u) (DestOk f p)
    by None u es eu = (λ e. absurd (cc), λ ok. absurd (not_ok_unsent f p es ok))
    by (Some s) (Some u) es eu = (λ e. absurd (cc), λ ok. absurd (not_ok_uncovered f p s u es (uncovered_hop f p s u es eu) ok))
    by (Some s) None es eu = (λ e. record { send = s; sent = es; passed = all_covered f p s es eu }, λ ok. refl)

-- ---- reveals

pub is_revealed-Decides : (reveals : List Reveal) (h : Holder) → Decides (is_revealed reveals h) (IsRevealed reveals h)
is_revealed-Decides reveals h = by (is_revealed reveals h) refl
  where
    by : (b : Bool) → is_revealed reveals h ≡ b → Decides b (IsRevealed reveals h)
    by true e = (λ _. was_revealed reveals h e, λ _. refl)
    by false e = (λ f. absurd (cc), λ is. absurd (not_revealed reveals h e is))

among-Decides : (h : Holder) (hs : List Holder) → Decides (is_among h hs) (Has (λ k. h ≡ k) hs)
unfolding is_among
among-Decides h hs = any-Decides (λ k. same_holder h k) (λ k. h ≡ k) (λ k. same_holder-Decides h k) hs

-- a reveal of the holder at the step
abbrev AtStep : List Reveal → ℕ → Holder → Type 0
AtStep reveals step h = Has (λ (r : Reveal). (r.holder ≡ h) × (r.step ≡ step)) reveals

at_step-Decides : (reveals : List Reveal) (step : ℕ) (h : Holder) → Decides (is_revealed_at reveals step h) (AtStep reveals step h)
unfolding is_revealed_at
at_step-Decides reveals step h =
    any-Decides _ _ (λ (r : Reveal). Decides-and _ _ (same_holder-Decides r.holder h) (Decides-eqb r.step step)) reveals

pub any_revealed_at-Decides : (reveals : List Reveal) (hs : List Holder) (step : ℕ) → Decides (any_revealed_at reveals hs step) (IsRevealedAt reveals hs step)
unfolding any_revealed_at
any_revealed_at-Decides reveals hs step =
    Decides-like _ there back (any-Decides (is_revealed_at reveals step) (AtStep reveals step) (at_step-Decides reveals step) hs)
  where
    there : Has (AtStep reveals step) hs → IsRevealedAt reveals hs step
    there a =
        let r = a.is in
        record {
          index = r.index;
          reveal = r.element;
          there = r.there;
          among = (among-Decides r.element.holder hs).1 (record { index = a.index; element = a.element; there = a.there; is = r.is.0 });
          step_is = r.is.1;
        }

    back : IsRevealedAt reveals hs step → Has (AtStep reveals step) hs
    back r =
        let a = (among-Decides r.reveal.holder hs).0 r.among in
        record { index = a.index; element = a.element; there = a.there; is = record { index = r.index; element = r.reveal; there = r.there; is = (a.is, r.step_is) } }

pub none_revealed-Decides : (reveals : List Reveal) (hs : List Holder) → Decides (none_revealed reveals hs) (NoneRevealed reveals hs)
unfolding none_revealed
none_revealed-Decides reveals hs =
    Decides-like _ closed opened (Decides-not _ (any-Decides (is_revealed reveals) (IsRevealed reveals) (is_revealed-Decides reveals) hs))
  where
    closed : (Has (IsRevealed reveals) hs → ⊥) → NoneRevealed reveals hs
    closed none h among is =
        let a = (among-Decides h hs).0 among in
        none (record { index = a.index; element = a.element; there = a.there; is = subst (IsRevealed reveals) a.is is })

    opened : NoneRevealed reveals hs → Has (IsRevealed reveals) hs → ⊥
    opened none a =
        none a.element ((among-Decides a.element hs).1 (record { index = a.index; element = a.element; there = a.there; is = refl })) a.is
