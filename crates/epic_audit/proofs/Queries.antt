-- What the answers of a ledger tell.
use Rattle.std.proofs.Common.{◌≡◌, ℕ, zero, suc, false, ◌&&◌, List, [], ◌∷◌, refl, ap, sym, ◌∙◌, arith, inl, inr, min}
use Rattle.std.specs.Prelude.{Option, Some, None, option_map, find, slice_get}
use Rattle.std.specs.List.{list_any, position}
use Rattle.std.proofs.lemmas.Bool.{or_left, or_right, or_cases, and_parts, and_from, cases_lt}
use Rattle.epic_num.specs.declared.hop.HopName.{HopName}
use Rattle.epic_num.specs.declared.key_name.Holder.{Holder}
use Rattle.epic_num.specs.Chains.{Issue, issue_at, name_of}
use Rattle.epic_num.specs.Holders.{is_among}
use Rattle.epic_num.specs.Same.{same_name, same_holder}
use Rattle.epic_num.proofs.ChainLaws.{issue_at-zero, issue_at-suc}
use Rattle.epic_num.proofs.SameLaws.{same_name-Decides, same_holder-Decides}
use Rattle.epic_layout.specs.Contents.{Contents}
use Rattle.epic_ledger.specs.Facts.{Facts, Sent, Reveal, sent_name}
use Rattle.epic_ledger.specs.Queries.{issue_of, reveal_of}
use Rattle.epic_audit.specs.Clauses.{IsIssued, IsSourced, is_sent_like}
use Rattle.epic_audit.specs.Reveals.{IsRevealed, IsRevealedAt, NoneRevealed, reveal_step, lesser, least_step}
use Rattle.epic_audit.specs.Verdicts.{is_named, source_of}
use Rattle.epic_audit.proofs.Finds.{found, missing, found_at, missing_at}
use Rattle.epic_audit.proofs.Decided.{is_named-Decides}

-- ---- issues

-- an issue with a number stands in the list
pub at_place : (issues : List Issue) (n : ℕ) (i : Issue) → issue_at issues n ≡ Some i → (m : ℕ) × (slice_get issues m ≡ Some i)
at_place issues zero i h = let e : None ≡ Some i = sym (issue_at-zero issues) ∙ h in absurd (cc)
at_place issues (suc m) i h = (m, sym (issue_at-suc issues m) ∙ h)

-- a name that stands at a number is that of the issue there
pub name_there : (issues : List Issue) (n : ℕ) (x : HopName) → name_of issues n ≡ Some x → (i : Issue) × (issue_at issues n ≡ Some i) × (i.name ≡ x)
unfolding name_of
name_there issues n x h = by (issue_at issues n) refl h
  where
    by : (o : Option Issue) → issue_at issues n ≡ o → option_map (λ i. i.name) o ≡ Some x → (i : Issue) × (issue_at issues n ≡ Some i) × (i.name ≡ x)
    by None e s = absurd (cc)
    by (Some i) e s = (i, e, cc)

pub named_there : (issues : List Issue) (n : ℕ) (i : Issue) → issue_at issues n ≡ Some i → name_of issues n ≡ Some i.name
unfolding name_of
named_there issues n i h = ap (option_map (λ k. k.name)) h

pub issued : (issues : List Issue) (x : HopName) (n : ℕ) → issue_of issues x ≡ Some n → name_of issues n ≡ Some x
unfolding issue_of
issued issues x n h = by (position (λ i. same_name i.name x) issues) refl h
  where
    by : (o : Option ℕ) → position (λ i. same_name i.name x) issues ≡ o → option_map suc o ≡ Some n → name_of issues n ≡ Some x
    by None e s = absurd (cc)
    by (Some m) e s =
        let f = found_at (λ (i : Issue). same_name i.name x) issues m e in
        let number : suc m ≡ n = cc in
        ap (name_of issues) (sym number)
        ∙ (named_there issues (suc m) f.0 (issue_at-suc issues m ∙ f.1) ∙ ap Some ((same_name-Decides f.0.name x).0 f.2))

pub unissued : (issues : List Issue) (x : HopName) → issue_of issues x ≡ None → IsIssued issues x → ⊥
unfolding issue_of
unissued issues x h is = by (position (λ i. same_name i.name x) issues) refl h
  where
    by : (o : Option ℕ) → position (λ i. same_name i.name x) issues ≡ o → option_map suc o ≡ None → ⊥
    by (Some m) e s = cc
    by None e s =
        let there = name_there issues is.number x is.named in
        let place = at_place issues is.number there.0 there.1 in
        let fails = missing (λ (i : Issue). same_name i.name x) issues (missing_at _ issues e) place.0 there.0 place.1 in
        let passes = (same_name-Decides there.0.name x).1 there.2 in
        cc

-- ---- reveals

pub revealed : (reveals : List Reveal) (h : Holder) (step : ℕ) → reveal_step reveals h ≡ Some step → IsRevealedAt reveals (h ∷ []) step
unfolding reveal_step reveal_of is_among
revealed reveals h step e = by (find (λ r. same_holder r.holder h) reveals) refl e
  where
    by : (o : Option Reveal) → find (λ r. same_holder r.holder h) reveals ≡ o → option_map (λ r. r.step) o ≡ Some step → IsRevealedAt reveals (h ∷ []) step
    by None f s = absurd (cc)
    by (Some r) f s =
        let is = found (λ (r : Reveal). same_holder r.holder h) reveals r f in
        record { index = is.index; reveal = r; there = is.there; among = or_left _ _ is.passes; step_is = cc }

pub unrevealed : (reveals : List Reveal) (h : Holder) → reveal_step reveals h ≡ None → IsRevealed reveals h → ⊥
unfolding reveal_step reveal_of
unrevealed reveals h e is = by (find (λ r. same_holder r.holder h) reveals) refl e
  where
    by : (o : Option Reveal) → find (λ r. same_holder r.holder h) reveals ≡ o → option_map (λ r. r.step) o ≡ None → ⊥
    by (Some r) f s = cc
    by None f s =
        let fails = missing (λ (r : Reveal). same_holder r.holder h) reveals f is.index is.reveal is.there in
        let passes = (same_holder-Decides is.reveal.holder h).1 is.holder_is in
        cc

-- among more holders
more : (reveals : List Reveal) (h : Holder) (hs : List Holder) (step : ℕ) → IsRevealedAt reveals hs step → IsRevealedAt reveals (h ∷ hs) step
unfolding is_among
more reveals h hs step r = record { index = r.index; reveal = r.reveal; there = r.there; among = or_right _ _ r.among; step_is = r.step_is }

first_of : (reveals : List Reveal) (h : Holder) (hs : List Holder) (step : ℕ) → IsRevealedAt reveals (h ∷ []) step → IsRevealedAt reveals (h ∷ hs) step
unfolding is_among
first_of reveals h hs step r = record {
  index = r.index;
  reveal = r.reveal;
  there = r.there;
  among = elim (or_cases (same_holder r.reveal.holder h) false r.among) [ inl e ↦ or_left _ _ e | inr e ↦ absurd (cc) ];
  step_is = r.step_is;
}

pub least_there : (reveals : List Reveal) (hs : List Holder) (step : ℕ) → least_step reveals hs ≡ Some step → IsRevealedAt reveals hs step
least_there reveals [] step e = absurd (cc)
least_there reveals (h ∷ hs) step e = by (reveal_step reveals h) (least_step reveals hs) refl (λ n. least_there reveals hs n) e
  where
    by : (o rest : Option ℕ) → reveal_step reveals h ≡ o → ((n : ℕ) → rest ≡ Some n → IsRevealedAt reveals hs n) → lesser o rest ≡ Some step
        → IsRevealedAt reveals (h ∷ hs) step
    by o None f g s = first_of reveals h hs step (revealed reveals h step (f ∙ s))
    by None (Some n) f g s = more reveals h hs step (g step s)
    by (Some m) (Some n) f g s =
        let is : min m n ≡ step = cc in
        elim (cases_lt m n) [
          | inl below ↦ (let same : m ≡ step = omega arith in first_of reveals h hs step (revealed reveals h step (f ∙ ap Some same)))
          | inr above ↦ (let same : n ≡ step = omega arith in more reveals h hs step (g step (ap Some same)))
        ]

neither : (o rest : Option ℕ) → lesser o rest ≡ None → (o ≡ None) × (rest ≡ None)
neither None None e = (refl, refl)
neither (Some m) None e = absurd (cc)
neither None (Some n) e = absurd (cc)
neither (Some m) (Some n) e = absurd (cc)

pub least_missing : (reveals : List Reveal) (hs : List Holder) → least_step reveals hs ≡ None → NoneRevealed reveals hs
unfolding is_among
least_missing reveals [] e h among is = absurd (cc)
least_missing reveals (k ∷ hs) e h among is =
    let none = neither (reveal_step reveals k) (least_step reveals hs) e in
    elim (or_cases (same_holder h k) (list_any (λ l. same_holder h l) hs) among) [
      | inl same ↦
          unrevealed reveals k none.0
          (record { index = is.index; reveal = is.reveal; there = is.there; holder_is = is.holder_is ∙ (same_holder-Decides h k).0 same })
      | inr later ↦ least_missing reveals hs none.1 h later is
    ]

-- ---- sent packets

pub sourced : (f : Facts) (x : HopName) (p : Contents) (j : ℕ) (s : Sent) → source_of f x p j ≡ Some s → IsSourced f x p j
unfolding source_of
sourced f x p j s e =
    let is = found (λ (r : Sent). is_sent_like p r && is_named x (sent_name f.issues r j)) f.sends s e in
    let both = and_parts (is_sent_like p s) (is_named x (sent_name f.issues s j)) is.passes in
    record { index = is.index; send = s; there = is.there; alike = both.0; named = (is_named-Decides x (sent_name f.issues s j)).0 both.1 }

pub unsourced : (f : Facts) (x : HopName) (p : Contents) (j : ℕ) → source_of f x p j ≡ None → IsSourced f x p j → ⊥
unfolding source_of
unsourced f x p j e is =
    let fails = missing (λ (r : Sent). is_sent_like p r && is_named x (sent_name f.issues r j)) f.sends e is.index is.send is.there in
    let passes = and_from (is_sent_like p is.send) (is_named x (sent_name f.issues is.send j)) is.alike ((is_named-Decides x (sent_name f.issues is.send j)).1 is.named) in
    cc
