-- What sources sent, in a tree.
use Rattle.std.proofs.Common.{◌≡◌, ℕ, ◌%◌, ◌^◌, ◌<◌, List, ◌++◌, length, Option, Some, None, take, refl, sym, ap, ◌∙◌, subst, get_or}
use Rattle.std.specs.Prelude.{filter_map, position, slice_index, slice_index_or, option_map, IsSome, IfSome}
use Rattle.std.specs.Cmp.{IsTotalOrder, unsigned_ties, both_tied}
use Rattle.std.specs.Ordering.{is_eq, nat_cmp}
use Rattle.std.proofs.lemmas.Cmp.{nat_cmp_total, on_total, then_total}
use Rattle.std.proofs.lemmas.Option.{same_Some, slice_get_read}
use Rattle.epic_num.specs.Chains.{Issue}
use Rattle.epic_tree.specs.Index.{IsTagOf, key_side}
use Rattle.epic_tree.specs.Sides.{Ordered, found, by_tag}
use Rattle.epic_tree.proofs.Indexing.{same_number}
use Rattle.epic_ledger.specs.Facts.{Sent, as_send, issues_in}
use Rattle.epic_ledger.specs.History.{Emission, emission_at}
use Rattle.epic_ledger.specs.Indexes.{keys_of, IsIndexed, send_key, origin_cmp, origin_tag, no_origin, send_kind}
use Rattle.epic_ledger.specs.Lawful.{Fits, IsLawful}
use Rattle.epic_ledger.specs.Queries.{is_send_of, send_of}
use Rattle.epic_ledger.specs.declared.event.Event.{Event}
use Rattle.epic_ledger.specs.declared.event.Event.TheVariants as event
use Rattle.epic_ledger.specs.Walks.{sent_with}
use Rattle.epic_ledger.specs.declared.send_index.Origin.{Origin}
use Rattle.epic_ledger.specs.declared.sends.Sending.{Sending}
use Rattle.epic_ledger.proofs.Growing.{packet_at-append}
use Rattle.epic_ledger.proofs.KindLaws.{first_place, first_within, first_says, index_same}
use Rattle.epic_ledger.proofs.RankLaws.{host_total, host_ties, is_eq_back, tied_parts}

pub origin_total : IsTotalOrder origin_cmp
unfolding origin_cmp
origin_total = then_total (on_total (λ (o : Origin). o.src) host_total) (on_total (λ (o : Origin). o.ts) nat_cmp_total)

-- the test of a send, and the order of what it is sought by
send_ties : (o : Origin) (s : Sent) → is_send_of o.src o.ts s ≡ is_eq (origin_cmp (send_key s) o)
unfolding origin_cmp is_send_of send_key
send_ties o s = both_tied _ _ _ _ (host_ties s.packet.src o.src) (unsigned_ties s.packet.ts o.ts)

send_back : (o : Origin) (s : Sent) → is_eq (origin_cmp o (send_key s)) ≡ is_send_of o.src o.ts s
send_back o s = is_eq_back (origin_cmp o (send_key s)) (origin_cmp (send_key s) o) (origin_total.antisymm o (send_key s)) ∙ sym (send_ties o s)

pub origin_tagged : IsTagOf origin_cmp origin_tag
unfolding origin_cmp origin_tag
origin_tagged o q e = ap (λ (n : ℕ). n % 2 ^ 32) (same_number o.ts q.ts (tied_parts _ (nat_cmp o.ts q.ts) e).1)

-- the emission of a send is there

pub send_fits : (es : List Emission) (issues : List Issue) (e : Event) (s : Sent) → Fits es issues e → as_send es e ≡ Some s → IsSome (emission_at es s.emission)
unfolding as_send
send_fits es issues (event.Send step emission segments) s h is =
    subst (λ (x : Sent). IsSome (emission_at es x.emission)) (same_Some _ s is) h.there
send_fits es issues (event.Issue step number name parent) s h is = cc
send_fits es issues (event.Fetch step source owner epoch) s h is = cc
send_fits es issues (event.Pass step a hop generation emission) s h is = cc
send_fits es issues (event.Arrive step host src ts hops checked) s h is = cc
send_fits es issues (event.Reveal step holder) s h is = cc
send_fits es issues (event.Roll step a generation) s h is = cc

pub send_fits_there : (events : List Event) (es : List Emission) (m : ℕ) (e : Event) (s : Sent) → IsLawful (record { events = events; emissions = es }) → m < length events → e ≡ get_or events m e → as_send es e ≡ Some s → IsSome (emission_at es s.emission)
send_fits_there events es m e s h within is send =
    send_fits es (issues_in (take m events)) e s (h.fit m e (slice_get_read events (length events) m e refl within is)) send

pub sending_there : (events : List Event) (es : List Emission) (m : ℕ) (e : Event) (o : Option Sending) → IsLawful (record { events = events; emissions = es }) → m < length events → e ≡ get_or events m e → option_map (sent_with es) o ≡ as_send es e → IfSome o (λ s. IsSome (emission_at es s.emission))
unfolding sent_with
sending_there events es m e None h within is send = tt
sending_there events es m e (Some s) h within is send = send_fits_there events es m e (sent_with es s) h within is (sym send)

-- the first that is sought

pub origin_place : (events : List Event) (es : List Emission) (at : List ℕ) (tree : Ordered) (q : Origin) (o : Option ℕ) → IsIndexed (send_kind es) events at tree → o ≡ found (by_tag tree.tags (origin_tag q) (key_side origin_cmp no_origin (keys_of (send_kind es) events) q)) tree.places → o ≡ position (is_send_of q.src q.ts) (filter_map (as_send es) events)
origin_place events es at tree q o h e =
    first_place (send_kind es) events at tree q (is_send_of q.src q.ts) o origin_tagged (send_back q) h e

pub origin_within : (events : List Event) (es : List Emission) (at : List ℕ) (tree : Ordered) (q : Origin) (i : ℕ) → IsIndexed (send_kind es) events at tree → Some i ≡ found (by_tag tree.tags (origin_tag q) (key_side origin_cmp no_origin (keys_of (send_kind es) events) q)) tree.places → i < length at
origin_within events es at tree q i h e =
    first_within (send_kind es) events at (is_send_of q.src q.ts) i h.numbers (origin_place events es at tree q (Some i) h e)

pub send_answer : (events : List Event) (es : List Emission) (at : List ℕ) (tree : Ordered) (q : Origin) (i : ℕ) (e : Event) → IsIndexed (send_kind es) events at tree → Some i ≡ found (by_tag tree.tags (origin_tag q) (key_side origin_cmp no_origin (keys_of (send_kind es) events) q)) tree.places → as_send es (slice_index_or events (slice_index at i) e) ≡ send_of (filter_map (as_send es) events) q.src q.ts
unfolding send_of
send_answer events es at tree q i e h f =
    first_says (send_kind es) events at (is_send_of q.src q.ts) i e h.numbers (origin_within events es at tree q i h f)
    (origin_place events es at tree q (Some i) h f)

-- among more emissions

send_kept : (es more : List Emission) (issues : List Issue) (e : Event) → Fits es issues e → as_send (es ++ more) e ≡ as_send es e
unfolding as_send
send_kept es more issues (event.Send step emission segments) h =
    ap (λ p. Some (record { emission = emission; segments = segments.items; packet = p })) (packet_at-append es more emission h.there)
send_kept es more issues (event.Issue step number name parent) h = refl
send_kept es more issues (event.Fetch step source owner epoch) h = refl
send_kept es more issues (event.Pass step a hop generation emission) h = refl
send_kept es more issues (event.Arrive step host src ts hops checked) h = refl
send_kept es more issues (event.Reveal step holder) h = refl
send_kept es more issues (event.Roll step a generation) h = refl

pub sends_emit : (events : List Event) (es more : List Emission) (at : List ℕ) (tree : Ordered) → IsLawful (record { events = events; emissions = es }) → IsIndexed (send_kind es) events at tree → IsIndexed (send_kind (es ++ more)) events at tree
sends_emit events es more at tree lawful h =
    index_same (send_kind es) (as_send (es ++ more)) events at tree (λ n e is. send_kept es more (issues_in (take n events)) e (lawful.fit n e is)) h
