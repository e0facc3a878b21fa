-- What events say stays as it is among more emissions and more issues.
use Rattle.std.proofs.Common.{◌≡◌, ℕ, zero, suc, ◌-◌, ◌≤◌, List, [], ◌∷◌, ◌++◌, length, take, get_or, Option, Some, None, refl, sym, ap, ◌∙◌, inl, inr, arith}
use Rattle.std.specs.Prelude.{filter_map, nat_lt, IsSome, if◌then◌else◌}
use Rattle.std.specs.List.{cons_option}
use Rattle.std.specs.Option.{option_map_or}
use Rattle.std.proofs.lemmas.Bool.{cases_lt}
use Rattle.std.proofs.lemmas.List.{get_or_past}
use Rattle.std.proofs.lemmas.Option.{same_Some}
use Rattle.epic_num.specs.Chains.{Issue, issue_at, name_of, ancestor}
use Rattle.epic_num.specs.declared.hop.HopName.{HopName}
use Rattle.epic_num.proofs.ChainLaws.{AreKnown, issue_at-append, issue_at-suc, issue_at-zero, name_of-append}
use Rattle.epic_layout.specs.Contents.{Contents, hop_count}
use Rattle.epic_layout.specs.Route.{place, position}
use Rattle.epic_ledger.specs.Facts.{Sent, as_issue, as_send, as_pass, issues_in, sent_issue, sent_name}
use Rattle.epic_ledger.specs.History.{History, Emission}
use Rattle.epic_ledger.specs.Lawful.{Fits, FitsSend, IsLawful}
use Rattle.epic_ledger.specs.declared.event.Event.{Event}
use Rattle.epic_ledger.specs.declared.event.Event.TheVariants as event
use Rattle.epic_ledger.proofs.Growing.{packet_at-append}
use Rattle.epic_audit.proofs.Keeping.{numbered}
use Rattle.epic_audit.proofs.Lists.{answered}

taken_on : {X : Type 0} (o : Option X) (xs ys : List X) → length xs ≤ length ys → length (cons_option o xs) ≤ length (cons_option o ys)
taken_on None xs ys h = h
taken_on (Some x) xs ys h = omega arith

pub taken : {E X : Type 0} (f : E → Option X) (n : ℕ) (es : List E) → length (filter_map f (take n es)) ≤ length (filter_map f es)
taken f zero es = omega arith
taken f (suc n) [] = omega arith
taken f (suc n) (e ∷ es) = taken_on (f e) (filter_map f (take n es)) (filter_map f es) (taken f n es)

-- ---- among more emissions

pub send_stays : (es more : List Emission) (issues : List Issue) (e : Event) → Fits es issues e → as_send es e ≡ as_send (es ++ more) e
unfolding as_send
send_stays es more issues (event.Issue step number name parent) h = refl
send_stays es more issues (event.Fetch step source owner epoch) h = refl
send_stays es more issues (event.Send step emission segments) h =
    ap (λ (p : Contents). Some (record { emission = emission; segments = segments.items; packet = p })) (sym (packet_at-append es more emission h.there))
send_stays es more issues (event.Pass step a hop generation emission) h = refl
send_stays es more issues (event.Arrive step host src ts hops checked) h = refl
send_stays es more issues (event.Reveal step holder) h = refl
send_stays es more issues (event.Roll step a generation) h = refl

pub pass_stays : (es more : List Emission) (issues : List Issue) (e : Event) → Fits es issues e → as_pass es e ≡ as_pass (es ++ more) e
unfolding as_pass
pass_stays es more issues (event.Issue step number name parent) h = refl
pass_stays es more issues (event.Fetch step source owner epoch) h = refl
pass_stays es more issues (event.Send step emission segments) h = refl
pass_stays es more issues (event.Pass step a hop generation emission) h =
    ap (λ (p : Contents). Some (record { asn = a; generation = generation; hop = hop; emission = emission; packet = p }))
    (sym (packet_at-append es more emission h.there))
pass_stays es more issues (event.Arrive step host src ts hops checked) h = refl
pass_stays es more issues (event.Reveal step holder) h = refl
pass_stays es more issues (event.Roll step a generation) h = refl

-- ---- among more issues

parent_before : (es : List Emission) (before : List Issue) (e : Event) (i : Issue) → Fits es before e → as_issue e ≡ Some i → i.parent ≤ length before
unfolding as_issue
parent_before es before (event.Issue step number name parent) i h is =
    let same : parent ≡ i.parent = ap (λ (k : Issue). k.parent) (same_Some _ i is) in omega (arith, same, h.next, h.earlier)
parent_before es before (event.Fetch step source owner epoch) i h is = absurd (cc)
parent_before es before (event.Send step emission segments) i h is = absurd (cc)
parent_before es before (event.Pass step a hop generation emission) i h is = absurd (cc)
parent_before es before (event.Arrive step host src ts hops checked) i h is = absurd (cc)
parent_before es before (event.Reveal step holder) i h is = absurd (cc)
parent_before es before (event.Roll step a generation) i h is = absurd (cc)

-- every parent is among the issues
pub parents_known : (h : History) → IsLawful h → AreKnown (issues_in h.events)
parents_known h lawful zero i e = let none = issue_at-zero (issues_in h.events) in absurd (cc)
parents_known h lawful (suc n) i e =
    let a = answered as_issue h.events n i (sym (issue_at-suc (issues_in h.events) n) ∙ e) in
    let earlier = parent_before h.emissions (issues_in (take a.index h.events)) a.element i (lawful.fit a.index a.element a.there) a.answer in
    omega (arith, earlier, taken as_issue a.index h.events)

parent_within : (issues : List Issue) (n : ℕ) → AreKnown issues → option_map_or (λ i. i.parent) (issue_at issues n) 0 ≤ length issues
parent_within issues n known = by (issue_at issues n) refl
  where
    by : (o : Option Issue) → issue_at issues n ≡ o → option_map_or (λ i. i.parent) o 0 ≤ length issues
    by None e = omega arith
    by (Some i) e = known n i e

ancestor_within : (issues : List Issue) → AreKnown issues → (n k : ℕ) → n ≤ length issues → ancestor issues n k ≤ length issues
unfolding ancestor
ancestor_within issues known n zero h = h
ancestor_within issues known n (suc k) h = ancestor_within issues known (option_map_or (λ i. i.parent) (issue_at issues n) 0) k (parent_within issues n known)

ancestor-append : (issues more : List Issue) → AreKnown issues → (n k : ℕ) → n ≤ length issues
    → ancestor (issues ++ more) n k ≡ ancestor issues n k
unfolding ancestor
ancestor-append issues more known n zero h = refl
ancestor-append issues more known n (suc k) h =
    ap (λ (o : Option Issue). ancestor (issues ++ more) (option_map_or (λ i. i.parent) o 0) k) (issue_at-append issues more n h)
    ∙ ancestor-append issues more known (option_map_or (λ i. i.parent) (issue_at issues n) 0) k (parent_within issues n known)

sent_name-append : (issues more : List Issue) (s : Sent) (j : ℕ) → AreKnown issues → ((k : ℕ) → get_or s.segments k 0 ≤ length issues)
    → sent_name (issues ++ more) s j ≡ sent_name issues s j
unfolding sent_name sent_issue
sent_name-append issues more s j known within =
    let at = place s.packet.route.segments j in
    let number = get_or s.segments at.segment 0 in
    let back = at.head.count - position at in
    ap (λ (o : Option HopName). if nat_lt j (hop_count s.packet) then o else None)
    (ap (name_of (issues ++ more)) (ancestor-append issues more known number back (within at.segment))
    ∙ name_of-append issues more (ancestor issues number back) (ancestor_within issues known number back (within at.segment)))

some_within : (issues : List Issue) (n : ℕ) → IsSome (issue_at issues n) → n ≤ length issues
some_within issues n some = by (issue_at issues n) refl some
  where
    by : (o : Option Issue) → issue_at issues n ≡ o → IsSome o → n ≤ length issues
    by None e s = absurd (cc)
    by (Some i) e s = numbered issues n i e

segments_within : (es : List Emission) (before issues : List Issue) (emission : ℕ) (segments : List ℕ) → FitsSend es before emission segments
    → length before ≤ length issues → (k : ℕ) → get_or segments k 0 ≤ length issues
segments_within es before issues emission segments h few k =
    elim (cases_lt k (length segments)) [
      | inl inside ↦ omega (arith, few, some_within before (get_or segments k 0) (h.issued k inside))
      | inr past ↦ (let none = get_or_past segments k 0 past in omega arith)
    ]

-- the hops of a sent packet keep their names
pub names_stay : (es : List Emission) (before issues more : List Issue) (emission : ℕ) (segments : List ℕ) (p : Contents) (j : ℕ) → FitsSend es before emission segments
    → length before ≤ length issues → AreKnown issues
    → sent_name issues (record { emission = emission; segments = segments; packet = p }) j ≡ sent_name (issues ++ more) (record { emission = emission; segments = segments; packet = p }) j
names_stay es before issues more emission segments p j h few known =
    sym (sent_name-append issues more (record { emission = emission; segments = segments; packet = p }) j known (segments_within es before issues emission segments h few))
