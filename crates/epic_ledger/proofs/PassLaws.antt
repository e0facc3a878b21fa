-- The hops that routers accepted, in a tree.
use Rattle.std.proofs.Common.{◌≡◌, ℕ, ◌%◌, ◌^◌, ◌<◌, List, ◌++◌, length, Option, Some, take, refl, sym, ap, ◌∙◌, subst, get_or}
use Rattle.std.specs.Prelude.{filter_map, position, option_map, slice_index}
use Rattle.std.specs.Cmp.{IsTotalOrder, unsigned_ties, both_tied}
use Rattle.std.specs.Ordering.{is_eq, nat_cmp}
use Rattle.std.proofs.lemmas.Cmp.{nat_cmp_total, on_total, then_total}
use Rattle.std.proofs.lemmas.Option.{same_Some, slice_get_read}
use Rattle.epic_num.specs.Chains.{Issue}
use Rattle.epic_tree.specs.Index.{IsTagOf, key_side}
use Rattle.epic_tree.specs.Sides.{Ordered, found, by_tag}
use Rattle.epic_tree.proofs.Indexing.{same_number}
use Rattle.epic_ledger.specs.Facts.{Pass, as_pass, issues_in}
use Rattle.epic_ledger.specs.History.{Emission}
use Rattle.epic_ledger.specs.Indexes.{keys_of, IsIndexed, pass_key, sought_cmp, sought_tag, no_sought, pass_kind}
use Rattle.epic_ledger.specs.Lawful.{Fits, FitsPass, IsLawful}
use Rattle.epic_ledger.specs.Queries.{is_pass_of, pass_of}
use Rattle.epic_ledger.specs.declared.event.Event.{Event}
use Rattle.epic_ledger.specs.declared.event.Event.TheVariants as event
use Rattle.epic_ledger.specs.declared.passes.Sought.{Sought}
use Rattle.epic_ledger.proofs.Growing.{packet_at-append}
use Rattle.epic_ledger.proofs.KindLaws.{first_place, first_within, index_same}
use Rattle.epic_ledger.proofs.Numbered.{position_of_kind}
use Rattle.epic_ledger.proofs.RankLaws.{host_total, host_ties, name_total, name_ties, is_eq_back, tied_parts}

pub sought_total : IsTotalOrder sought_cmp
unfolding sought_cmp
sought_total =
    then_total
    (then_total
    (then_total (then_total (on_total (λ (s : Sought). s.first) nat_cmp_total) (on_total (λ (s : Sought). s.name) name_total)) (on_total (λ (s : Sought). s.src) host_total))
    (on_total (λ (s : Sought). s.ts) nat_cmp_total))
    (on_total (λ (s : Sought). s.hop) nat_cmp_total)

-- the test of a pass, and the order of what it is sought by
pass_ties : (s : Sought) (w : Pass) → is_pass_of s.first s.name s.src s.ts s.hop w ≡ is_eq (sought_cmp (pass_key w) s)
unfolding sought_cmp is_pass_of pass_key
pass_ties s w =
    both_tied _ _ _ _
    (both_tied _ _ _ _
    (both_tied _ _ _ _ (both_tied _ _ _ _ (unsigned_ties w.packet.first s.first) (name_ties _ s.name)) (host_ties w.packet.src s.src))
    (unsigned_ties w.packet.ts s.ts))
    (unsigned_ties w.hop s.hop)

pass_back : (s : Sought) (w : Pass) → is_eq (sought_cmp s (pass_key w)) ≡ is_pass_of s.first s.name s.src s.ts s.hop w
pass_back s w = is_eq_back (sought_cmp s (pass_key w)) (sought_cmp (pass_key w) s) (sought_total.antisymm s (pass_key w)) ∙ sym (pass_ties s w)

pub sought_tagged : IsTagOf sought_cmp sought_tag
unfolding sought_cmp sought_tag
sought_tagged s u e =
    let outer = tied_parts _ (nat_cmp s.hop u.hop) e in
    let inner = tied_parts _ (nat_cmp s.ts u.ts) outer.0 in
    ap (λ (n : ℕ). n % 2 ^ 32) (same_number s.ts u.ts inner.1)

pub pass_fits : (es : List Emission) (issues : List Issue) (e : Event) (w : Pass) → Fits es issues e → as_pass es e ≡ Some w → FitsPass es w.emission w.hop
unfolding as_pass
pass_fits es issues (event.Pass step a hop generation emission) w h is =
    let same = same_Some _ w is in subst (λ (v : Pass). FitsPass es v.emission v.hop) same h
pass_fits es issues (event.Issue step number name parent) w h is = cc
pass_fits es issues (event.Fetch step source owner epoch) w h is = cc
pass_fits es issues (event.Send step emission segments) w h is = cc
pass_fits es issues (event.Arrive step host src ts hops checked) w h is = cc
pass_fits es issues (event.Reveal step holder) w h is = cc
pass_fits es issues (event.Roll step a generation) w h is = cc

pub pass_fits_there : (events : List Event) (es : List Emission) (m : ℕ) (e : Event) (w : Pass) → IsLawful (record { events = events; emissions = es }) → m < length events → e ≡ get_or events m e → as_pass es e ≡ Some w → FitsPass es w.emission w.hop
pass_fits_there events es m e w h within is pass =
    pass_fits es (issues_in (take m events)) e w (h.fit m e (slice_get_read events (length events) m e refl within is)) pass

-- the first that is sought

pub sought_place : (events : List Event) (es : List Emission) (at : List ℕ) (tree : Ordered) (s : Sought) (o : Option ℕ) → IsIndexed (pass_kind es) events at tree → o ≡ found (by_tag tree.tags (sought_tag s) (key_side sought_cmp no_sought (keys_of (pass_kind es) events) s)) tree.places → o ≡ position (is_pass_of s.first s.name s.src s.ts s.hop) (filter_map (as_pass es) events)
sought_place events es at tree s o h e =
    first_place (pass_kind es) events at tree s (is_pass_of s.first s.name s.src s.ts s.hop) o sought_tagged (pass_back s) h e

pub pass_of_is : (events : List Event) (es : List Emission) (at : List ℕ) (tree : Ordered) (s : Sought) (o : Option ℕ) → IsIndexed (pass_kind es) events at tree → o ≡ found (by_tag tree.tags (sought_tag s) (key_side sought_cmp no_sought (keys_of (pass_kind es) events) s)) tree.places → option_map (slice_index at) o ≡ pass_of (record { events = events; emissions = es }) s.first s.name s.src s.ts s.hop
unfolding pass_of
pass_of_is events es at tree s o h e =
    ap (option_map (slice_index at)) (sought_place events es at tree s o h e)
    ∙ ap (λ ns. option_map (slice_index ns) (position (is_pass_of s.first s.name s.src s.ts s.hop) (filter_map (as_pass es) events))) h.numbers
    ∙ sym (position_of_kind (as_pass es) (is_pass_of s.first s.name s.src s.ts s.hop) events)

pub sought_within : (events : List Event) (es : List Emission) (at : List ℕ) (tree : Ordered) (s : Sought) (i : ℕ) → IsIndexed (pass_kind es) events at tree → Some i ≡ found (by_tag tree.tags (sought_tag s) (key_side sought_cmp no_sought (keys_of (pass_kind es) events) s)) tree.places → i < length at
sought_within events es at tree s i h e =
    first_within (pass_kind es) events at (is_pass_of s.first s.name s.src s.ts s.hop) i h.numbers (sought_place events es at tree s (Some i) h e)

-- among more emissions

pub pass_kept : (es more : List Emission) (issues : List Issue) (e : Event) → Fits es issues e → as_pass (es ++ more) e ≡ as_pass es e
unfolding as_pass
pass_kept es more issues (event.Pass step a hop generation emission) h =
    ap (λ p. Some (record { asn = a; generation = generation; hop = hop; emission = emission; packet = p })) (packet_at-append es more emission h.there)
pass_kept es more issues (event.Issue step number name parent) h = refl
pass_kept es more issues (event.Fetch step source owner epoch) h = refl
pass_kept es more issues (event.Send step emission segments) h = refl
pass_kept es more issues (event.Arrive step host src ts hops checked) h = refl
pass_kept es more issues (event.Reveal step holder) h = refl
pass_kept es more issues (event.Roll step a generation) h = refl

pub passes_emit : (events : List Event) (es more : List Emission) (at : List ℕ) (tree : Ordered) → IsLawful (record { events = events; emissions = es }) → IsIndexed (pass_kind es) events at tree → IsIndexed (pass_kind (es ++ more)) events at tree
passes_emit events es more at tree lawful h =
    index_same (pass_kind es) (as_pass (es ++ more)) events at tree (λ n e is. pass_kept es more (issues_in (take n events)) e (lawful.fit n e is)) h
