-- A sent packet is found by what it keeps on its way.
use Rattle.std.proofs.Common.{◌≡◌, ℕ, ◌++◌, length, List, [], ◌∷◌, Option, Some, None, refl, sym, subst, ap, ◌∙◌}
use Rattle.std.specs.Prelude.{◌%◌, ◌^◌, position, filter_map, option_map, option_and_then, slice_get, slice_index, slice_index_or, take}
use Rattle.std.specs.Cmp.{IsTotalOrder, unsigned_ties, both_tied}
use Rattle.std.specs.Cmp.Lexicographic.{texts_ties}
use Rattle.std.specs.Ordering.{is_eq}
use Rattle.std.proofs.lemmas.Cmp.{nat_cmp_total, nat_list_cmp_total, on_total, then_total}
use Rattle.std.proofs.lemmas.Option.{same_Some, slice_get-get_or}
use Rattle.epic_layout.specs.Contents.{Contents}
use Rattle.epic_layout.specs.Spelling.{path_bytes}
use Rattle.epic_tree.proofs.Indexing.{same_number}
use Rattle.epic_tree.specs.Index.{key_side, IsTagOf}
use Rattle.epic_tree.specs.Sides.{Ordered, by_tag, found, put}
use Rattle.epic_audit.specs.Clauses.{is_sent_as, is_sent_like, sent_as}
use Rattle.epic_ledger.specs.Facts.{Sent, as_send, facts_of, issues_in}
use Rattle.epic_ledger.specs.History.{History, Emission}
use Rattle.epic_ledger.specs.Indexes.{keys_of, IsIndexed, IsLawfulPlace}
use Rattle.epic_ledger.specs.Lawful.{IsLawful}
use Rattle.epic_ledger.specs.Queries.{is_send_of, same_path}
use Rattle.epic_ledger.specs.declared.event.Event.{Event}
use Rattle.epic_ledger.specs.declared.event.Event.TheVariants as event
use Rattle.epic_ledger.proofs.KindLaws.{stands_there, first_place, first_within, first_says, first_none, index_more, index_other, index_same}
use Rattle.epic_ledger.proofs.RankLaws.{host_total, host_ties, is_eq_back, tied_parts}
use Rattle.epic_index.specs.Events.{send_at, sent_at}
use Rattle.epic_index.specs.SentAs.{content_cmp, content_tag, no_contents, sent_kind}
use Rattle.epic_index.specs.Indexes.{history_of, IsApart}
use Rattle.epic_index.proofs.Answering.{index_sends}
use Rattle.epic_index.proofs.Happening.{send_stepped}
use Rattle.epic_index.proofs.Sending.{send_stays}

-- ---- the order

pub content_total : IsTotalOrder content_cmp
unfolding content_cmp
content_total =
    then_total
    (then_total
    (then_total
    (then_total (then_total (on_total (λ (p : Contents). p.src) host_total) (on_total (λ (p : Contents). p.ts) nat_cmp_total)) (on_total (λ (p : Contents). p.first) nat_cmp_total))
    (on_total (λ (p : Contents). p.dst) host_total))
    (on_total (λ (p : Contents). path_bytes p.route) nat_list_cmp_total))
    (on_total (λ (p : Contents). p.payload) nat_list_cmp_total)

content_ties : (p : Contents) (s : Sent) → is_sent_as p s ≡ is_eq (content_cmp s.packet p)
unfolding content_cmp is_sent_as is_sent_like is_send_of same_path
content_ties p s =
    both_tied _ _ _ _
    (both_tied _ _ _ _
    (both_tied _ _ _ _
    (both_tied _ _ _ _
    (both_tied _ _ _ _ (host_ties s.packet.src p.src) (unsigned_ties s.packet.ts p.ts))
    (unsigned_ties s.packet.first p.first))
    (host_ties s.packet.dst p.dst))
    (texts_ties (path_bytes s.packet.route) (path_bytes p.route)))
    (texts_ties s.packet.payload p.payload)

content_back : (p : Contents) (s : Sent) → is_eq (content_cmp p s.packet) ≡ is_sent_as p s
content_back p s = is_eq_back (content_cmp p s.packet) (content_cmp s.packet p) (content_total.antisymm p s.packet) ∙ sym (content_ties p s)

content_tagged : IsTagOf content_cmp content_tag
unfolding content_cmp content_tag
content_tagged p q e =
    let payload = tied_parts _ _ e in
    let path = tied_parts _ _ payload.0 in
    let dst = tied_parts _ _ path.0 in
    let first = tied_parts _ _ dst.0 in
    ap (λ (n : ℕ). n % 2 ^ 32) (same_number p.ts q.ts (tied_parts _ _ first.0).1)

-- ---- what stands at a place

no_event : Event
no_event = event.Roll 0 (record { 0 = 0 }) 0

record IsSentAt (h : History) (at : List ℕ) (p : ℕ) : Type 0 where
  item : Sent
  is : send_at h (slice_index at p) ≡ Some item
  key : slice_index_or (keys_of (sent_kind h.emissions) h.events) p no_contents ≡ item.packet

sent_there : (h : History) (at : List ℕ) (p : ℕ) → IsLawfulPlace (sent_kind h.emissions) h.events h.emissions at p → IsSentAt h at p
unfolding send_at
sent_there h at p k =
    let t = stands_there (sent_kind h.emissions) h.events at p no_event k.place.within k.place.numbers in
    record {
      item = t.item;
      is = ap (option_and_then (as_send h.emissions)) (slice_get-get_or h.events (slice_index at p) no_event t.within) ∙ t.is;
      key = t.key;
    }

abbrev pub sending : Sent → ℕ × Contents
sending s = (s.emission, s.packet)

pub side_there : (h : History) (at : List ℕ) (p : ℕ) (q : Contents) (r : ℕ × Contents) → IsLawfulPlace (sent_kind h.emissions) h.events h.emissions at p
    → Some r ≡ sent_at h (slice_index at p) → content_cmp q r.1 ≡ key_side content_cmp no_contents (keys_of (sent_kind h.emissions) h.events) q p
unfolding sent_at
side_there h at p q r k e =
    let t = sent_there h at p k in
    let same : r ≡ sending t.item = same_Some r (sending t.item) (e ∙ ap (option_map sending) t.is) in
    ap (λ (x : ℕ × Contents). content_cmp q x.1) same ∙ ap (content_cmp q) (sym t.key)

pub never_none : (h : History) (at : List ℕ) (p : ℕ) → IsLawfulPlace (sent_kind h.emissions) h.events h.emissions at p → None ≡ sent_at h (slice_index at p) → ⊥
unfolding sent_at
never_none h at p k e =
    let t = sent_there h at p k in
    let clash : None ≡ Some (sending t.item) = e ∙ ap (option_map sending) t.is in
    cc

-- ---- the first that is sought

module _ (h : History) (at : List ℕ) (tree : Ordered) (p : Contents) (i : IsIndexed (sent_kind h.emissions) h.events at tree) where
  place_is : (o : Option ℕ) → o ≡ found (by_tag tree.tags (content_tag p) (key_side content_cmp no_contents (keys_of (sent_kind h.emissions) h.events) p)) tree.places
      → o ≡ position (is_sent_as p) (filter_map (as_send h.emissions) h.events)
  place_is o e = first_place (sent_kind h.emissions) h.events at tree p (is_sent_as p) o content_tagged (content_back p) i e

  pub found_sent : (m : ℕ) → Some m ≡ found (by_tag tree.tags (content_tag p) (key_side content_cmp no_contents (keys_of (sent_kind h.emissions) h.events) p)) tree.places
      → option_and_then (send_at h) (slice_get at m) ≡ sent_as (facts_of h).sends p
  unfolding send_at sent_as facts_of
  found_sent m e =
      let first = place_is (Some m) e in
      let low = first_within (sent_kind h.emissions) h.events at (is_sent_as p) m i.numbers first in
      let t = stands_there (sent_kind h.emissions) h.events at m no_event low i.numbers in
      ap (option_and_then (λ n. option_and_then (as_send h.emissions) (slice_get h.events n))) (slice_get-get_or at m 0 low)
      ∙ ap (option_and_then (as_send h.emissions)) (slice_get-get_or h.events (slice_index at m) no_event t.within)
      ∙ first_says (sent_kind h.emissions) h.events at (is_sent_as p) m no_event i.numbers low first

  pub none_sent : None ≡ found (by_tag tree.tags (content_tag p) (key_side content_cmp no_contents (keys_of (sent_kind h.emissions) h.events) p)) tree.places
      → None ≡ sent_as (facts_of h).sends p
  unfolding sent_as facts_of
  none_sent e = sym (first_none (is_sent_as p) (filter_map (as_send h.emissions) h.events) (place_is None e))

-- ---- growth

pub sent_more : (h : History) (at : List ℕ) (tree later : Ordered) (e : Event) (r : ℕ × Contents) (number : ℕ) → IsIndexed (sent_kind h.emissions) h.events at tree
    → Some r ≡ option_map sending (as_send h.emissions e)
    → later.places ≡ put (by_tag tree.tags (content_tag r.1) (key_side content_cmp no_contents (keys_of (sent_kind h.emissions) h.events) r.1)) (length tree.tags) tree.places
    → later.tags ≡ tree.tags ++ content_tag r.1 ∷ [] → number ≡ length h.events
    → IsIndexed (sent_kind h.emissions) (h.events ++ e ∷ []) (at ++ number ∷ []) later
sent_more h at tree later e r number i is placed tags next = by (as_send h.emissions e) refl is
  where
    by : (o : Option Sent) → as_send h.emissions e ≡ o → Some r ≡ option_map sending o → IsIndexed (sent_kind h.emissions) (h.events ++ e ∷ []) (at ++ number ∷ []) later
    by None k s = absurd (cc)
    by (Some w) k s =
        let same : r.1 ≡ w.packet = ap (λ (x : ℕ × Contents). x.1) (same_Some r (sending w) s) in
        rw next
        (index_more (sent_kind h.emissions) h.events at tree later e w content_total i k
        (subst (λ (c : Contents). later.places ≡ put (by_tag tree.tags (content_tag c) (key_side content_cmp no_contents (keys_of (sent_kind h.emissions) h.events) c)) (length tree.tags) tree.places) same placed)
        (subst (λ (c : Contents). later.tags ≡ tree.tags ++ content_tag c ∷ []) same tags))

pub sent_other : (h : History) (at : List ℕ) (tree : Ordered) (e : Event) → IsIndexed (sent_kind h.emissions) h.events at tree → None ≡ option_map sending (as_send h.emissions e)
    → IsIndexed (sent_kind h.emissions) (h.events ++ e ∷ []) at tree
sent_other h at tree e i is = index_other (sent_kind h.emissions) h.events at tree e i (by (as_send h.emissions e) is)
  where
    by : (o : Option Sent) → None ≡ option_map sending o → o ≡ None
    by None k = refl
    by (Some w) k = absurd (cc)

pub sent_among : (h : History) (more : List Emission) (at : List ℕ) (tree : Ordered) → IsLawful h → IsIndexed (sent_kind h.emissions) h.events at tree
    → IsIndexed (sent_kind (h.emissions ++ more)) h.events at tree
sent_among h more at tree lawful i =
    index_same (sent_kind h.emissions) (as_send (h.emissions ++ more)) h.events at tree
    (λ n e there. sym (send_stays h.emissions more (issues_in (take n h.events)) e (lawful.fit n e there))) i

-- ---- steps

pub index_sent_as : (h : History) (steps : List ℕ) (p : Contents) (o : Option ℕ) → IsApart h steps → option_and_then (send_at h) o ≡ sent_as (facts_of h).sends p
    → option_and_then (send_at (history_of h steps)) o ≡ sent_as (facts_of (history_of h steps)).sends p
index_sent_as h steps p o i e =
    ap (λ (f : ℕ → Option Sent). option_and_then f o) (λ j n. send_stepped h steps n i j)
    ∙ e
    ∙ ap (λ (sends : List Sent). sent_as sends p) (sym (index_sends h steps i))
