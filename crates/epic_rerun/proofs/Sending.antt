-- What a packet that is sent tells.
use Rattle.std.proofs.Common.{◌≡◌, ℕ, zero, suc, ◌+◌, ◌-◌, ◌<◌, ◌≤◌, ◌^◌, inl, inr, true, false, List, [], ◌∷◌, ◌++◌, length, take, drop, replicate, get_or, slice_get, Option, None, Some, refl, sym, ap, subst, ◌∙◌, append_assoc, length-append, ⊎_elim, arith}
use Rattle.std.specs.Prelude.{◌==◌, ◌&&◌, is_none, nat_lt, filter_map, flat_map, zip, slice_index_or, option_map, IsSome}
use Rattle.std.specs.List.{All, range_with_len}
use Rattle.std.specs.Option.{option_map_or}
use Rattle.std.proofs.lemmas.Bool.{and_from, cases_Bool, cases_lt, cond-false, eq-eqb, le-ltb}
use Rattle.std.proofs.lemmas.Bool.Decides.{nat_tests}
use Rattle.std.proofs.lemmas.List.{get_or_default, length_push}
use Rattle.std.proofs.lemmas.List.Elements.{All-head, All-map, All-nil, All-tail}
use Rattle.std.proofs.lemmas.Option.{same_Some}
use Rattle.arrayvec.specs.ArrayVec.{ArrayVec}
use Rattle.hex.specs.Hex.{IsBytes as AreBytes}
use Rattle.epic_num.specs.declared.hop.HopName.{HopName}
use Rattle.epic_num.specs.declared.passed.Place.TheVariants.{Router}
use Rattle.epic_num.specs.BigEndian.{u16_bytes}
use Rattle.epic_num.specs.Chains.{Issue, chain, is_ended, issue_at, last_names, name_of}
use Rattle.epic_num.specs.Levels.{is_tagged}
use Rattle.epic_num.proofs.ChainLaws.{issue_at-past, slice_get-seam}
use Rattle.epic_layout.specs.declared.head.HopHead.{HopHead}
use Rattle.epic_layout.specs.declared.head.SegmentHead.{SegmentHead}
use Rattle.epic_layout.specs.Contents.{Contents, HoldsBytes, IsBytes, IsPacket, field, hop_count}
use Rattle.epic_layout.specs.Route.{body, hop, no_hop, no_segment}
use Rattle.epic_layout.specs.Spelling.{dest_bytes, end_bytes, hop_with_field, segment_bytes, size_bytes, spelling, update_count}
use Rattle.epic_topo.specs.Lawful.{IsTopology}
use Rattle.epic_topo.specs.Network.{Network, has}
use Rattle.epic_fields.specs.Issues.{IssuesKept}
use Rattle.epic_fields.specs.PacketTags.{update_of}
use Rattle.epic_ledger.specs.declared.event.Event.{Event}
use Rattle.epic_ledger.specs.declared.event.Event.TheVariants as event
use Rattle.epic_ledger.specs.Facts.{Sent, as_issue, as_send, facts_of, issues_in, packet_at, sent_issue, sent_name}
use Rattle.epic_ledger.specs.History.{Emission, History, emission_at}
use Rattle.epic_ledger.specs.Lawful.{FitsSend, IsEmission}
use Rattle.epic_audit.specs.Kept.{IsKeptSend}
use Rattle.epic_audit.specs.Made.{sent_update, sent_updates}
use Rattle.epic_model.specs.Keeping.{Inv, IsDue, sent_at}
use Rattle.epic_model.proofs.Grown.{emission_next, packet_next}
use Rattle.epic_model.proofs.SentKept.{ended_issue}
use Rattle.epic_model.proofs.Travelled.{named_by, named_issue}
use Rattle.epic_record.specs.declared.item.Item.TheVariants as items
use Rattle.epic_record.specs.LedgerFile.{are_lasts, is_event_placed, is_newest, is_packet}
use Rattle.epic_record.specs.Passing.{new_items}
use Rattle.epic_reread.specs.Fitting.{HopFits}
use Rattle.epic_reread.specs.LedgerFitting.{EventFits, ItemFits}
use Rattle.epic_reread.proofs.Bytes.{are_bytes}
use Rattle.epic_reread.proofs.PacketBytes.{dest_message_over, is_bytes}
use Rattle.epic_reread.proofs.TagsAreBytes.{dropped, zeros}
use Rattle.epic_rerun.proofs.Fitted.{Fitted, emission_all, few_parts, issue_all, issues_fit}
use Rattle.epic_rerun.proofs.Happening.{new_some, told_emission, told_event}
use Rattle.epic_rerun.proofs.Placing.{Told, none_more, one_more, told_both}
use Rattle.epic_rerun.proofs.SpelledBytes.{spelling_is}
use Rattle.epic_rerun.proofs.TagBytes.{dest_field_is, field_is, update_is}

-- ---- the payload of the packet that equal bytes spell

behind : {A : Type 0} (xs es : List A) → drop (length xs) (xs ++ es) ≡ es
behind [] es = refl
behind (x ∷ xs) es = behind xs es

drop_past : (xs ys : List ℕ) (n : ℕ) → length xs ≤ n → drop n (xs ++ ys) ≡ drop (n - length xs) ys
drop_past [] ys n past = ap (λ k. drop k ys) (let same : n ≡ n - 0 = omega arith in same)
drop_past (x ∷ xs) ys zero past = absurd (omega (arith, past))
drop_past (x ∷ xs) ys (suc n) past =
    drop_past xs ys n (omega (arith, past)) ∙ ap (λ k. drop k ys) (let same : n - length xs ≡ suc n - suc (length xs) = omega arith in same)

ends_are : (ahead bs xs ys : List ℕ) → ahead ++ xs ≡ bs ++ ys → length xs ≤ length ys → AreBytes ys → AreBytes xs
ends_are ahead bs xs ys same short are =
    let long : length ahead + length xs ≡ length bs + length ys = sym (length-append ahead xs) ∙ (ap length same ∙ length-append bs ys) in
    let past : length bs ≤ length ahead = omega (arith, long, short) in
    subst AreBytes (sym (sym (behind ahead xs) ∙ (ap (drop (length ahead)) same ∙ drop_past bs ys (length ahead) past)))
    (dropped (length ahead - length bs) ys are)

-- what stands before the payload
front : Contents → List ℕ
front p =
    size_bytes p ++ (end_bytes p ++ (flat_map segment_bytes p.route.segments ++ (flat_map hop_with_field (zip p.route.hops p.fields) ++ dest_bytes p)))

spelled_as : (p : Contents) → spelling p ≡ front p ++ p.payload
unfolding spelling front
spelled_as p =
    let sizes = size_bytes p in
    let ends = end_bytes p in
    let segments = flat_map segment_bytes p.route.segments in
    let rows = flat_map hop_with_field (zip p.route.hops p.fields) in
    let dest = dest_bytes p in
    sym (append_assoc sizes (ends ++ (segments ++ (rows ++ dest))) p.payload
    ∙ ap (λ xs. sizes ++ xs)
    (append_assoc ends (segments ++ (rows ++ dest)) p.payload
    ∙ ap (λ xs. ends ++ xs)
    (append_assoc segments (rows ++ dest) p.payload
    ∙ ap (λ xs. segments ++ xs) (append_assoc rows dest p.payload))))

-- the payload is no longer than that of a packet with the same bytes
payload_short : (p q : Contents) → spelling q ≡ spelling p → length q.payload < 2 ^ 16 → length q.payload ≤ length p.payload
unfolding spelling size_bytes u16_bytes
payload_short p q same small =
    let high = ap (λ xs. get_or xs 4 0) same in
    let low = ap (λ xs. get_or xs 5 0) same in
    omega (arith, high, low, small)

payload_is : (p q : Contents) → spelling q ≡ spelling p → length q.payload < 2 ^ 16 → IsBytes p.payload → IsBytes q.payload
payload_is p q same small are =
    is_bytes q.payload
    (ends_are (front q) (front p) q.payload p.payload (sym (spelled_as q) ∙ (same ∙ spelled_as p)) (payload_short p q same small) (are_bytes p.payload are))

front_of : {A : Type 0} (xs rest : List A) → take (length xs) (xs ++ rest) ≡ xs
front_of [] rest = refl
front_of (x ∷ xs) rest = ap (λ more. x ∷ more) (front_of xs rest)

-- ---- issues that are there

within : (issues : List Issue) (n : ℕ) → IsSome (issue_at issues n) → n ≤ length issues
within issues n some =
    ⊎_elim (λ past. (let none = issue_at-past issues n past in absurd (cc))) (λ there. there) (cases_lt (length issues) n)

named_inside : (issues : List Issue) (s : Sent) (j : ℕ) (x : HopName) → sent_name issues s j ≡ Some x → j < hop_count s.packet
unfolding sent_name
named_inside issues s j x named =
    ⊎_elim (λ below. below)
    (λ past. (let none = sym (cond-false (nat_lt j (hop_count s.packet)) (name_of issues (sent_issue issues s j)) None (le-ltb j (hop_count s.packet) past)) ∙ named in absurd (cc)))
    (cases_lt j (hop_count s.packet))

module _ (t : Network) (issues : List Issue) (kept : IssuesKept t issues) where
  -- a chain is as long as the position of its last issue
  last_long : (most number : ℕ) (i : Issue) → issue_at issues number ≡ Some i → i.name.body.pos ≡ most → length (last_names issues most number) ≡ most
  unfolding last_names
  last_long zero number i there pos = refl
  last_long (suc most) number i there pos =
      let all : last_names issues (suc most) number ≡ last_names issues most i.parent ++ i.name ∷ []
      = ap (λ o. option_map_or (λ (k : Issue). last_names issues most k.parent ++ k.name ∷ []) o []) there in
      let before : length (last_names issues most i.parent) ≡ most = elim (kept number i there).placed [
        | inl root ↦
            (let one = root.position in
            let none : most ≡ 0 = omega (arith, one, pos) in
            ap (λ m. length (last_names issues m i.parent)) none ∙ sym none)
        | inr child ↦
            (let next = child.position in
            last_long most i.parent child.parent child.is_parent (omega (arith, next, pos)))
      ] in
      ap length all ∙ (let both = length_push (last_names issues most i.parent) i.name in omega (arith, both, before))

  last_is : (number count : ℕ) → is_ended issues number ≡ true → length (chain issues number) ≡ count
      → option_map_or (λ (x : HopName). x.body.pos == count) (name_of issues number) false ≡ true
  unfolding name_of chain
  last_is number count ended long =
      let i = ended_issue issues number ended in
      let here : chain issues number ≡ last_names issues i.0.name.body.pos number
      = ap (λ o. option_map_or (λ (k : Issue). last_names issues k.name.body.pos number) o []) i.1 in
      let is : i.0.name.body.pos ≡ count = sym (ap length here ∙ last_long i.0.name.body.pos number i.0 i.1 refl) ∙ long in
      ap (λ (o : Option Issue). option_map_or (λ (x : HopName). x.body.pos == count) (option_map (λ (k : Issue). k.name) o) false) i.1
      ∙ eq-eqb i.0.name.body.pos count is

  lasts_are : (numbers : List ℕ) (heads : List SegmentHead) → length numbers ≡ length heads → All (λ n. is_ended issues n ≡ true) numbers
      → ((i : ℕ) → i < length numbers → length (chain issues (slice_index_or numbers i 0)) ≡ (slice_index_or heads i no_segment).count)
      → are_lasts issues numbers heads ≡ true
  lasts_are [] [] same ended chains = refl
  lasts_are [] (head ∷ heads) same ended chains = absurd (omega (arith, same))
  lasts_are (n ∷ numbers) [] same ended chains = absurd (omega (arith, same))
  lasts_are (n ∷ numbers) (head ∷ heads) same ended chains =
      and_from (option_map_or (λ (x : HopName). x.body.pos == head.count) (name_of issues n) false) (are_lasts issues numbers heads)
      (last_is n head.count (All-head (λ k. is_ended issues k ≡ true) n numbers ended) (chains 0 (omega arith)))
      (lasts_are numbers heads (omega (arith, same)) (All-tail (λ k. is_ended issues k ≡ true) n numbers ended)
      (λ i below. chains (suc i) (omega (arith, below))))

-- ---- a send that is kept, of issues that fit

module _ (t : Network) (topology : IsTopology t) (issues : List Issue) (fits : (n : ℕ) (i : Issue) → issue_at issues n ≡ Some i → HopFits i.name)
    (s : Sent) (packet : IsPacket s.packet) (kept : IsKeptSend t issues s) (payload : IsBytes s.packet.payload) where
  name_fits : (j : ℕ) (x : HopName) → j < hop_count s.packet → sent_name issues s j ≡ Some x → HopFits x
  name_fits j x below named =
      let i = named_issue issues (sent_issue issues s j) x (sym (named_by issues s j below) ∙ named) in
      subst HopFits i.1.1 (fits (sent_issue issues s j) i.0 i.1.0)

  link_at : (j : ℕ) → j < hop_count s.packet → IsBytes (hop s.packet.route j).link
  unfolding body
  link_at j below =
      let k = kept.hops j below in
      let fits = name_fits j k.name below k.named in
      subst IsBytes (ap (λ b. b.link) k.body_is) fits.link

  links_are : All (λ (l : HopHead). IsBytes l.link) s.packet.route.hops
  unfolding hop
  links_are k d below = subst (λ (l : HopHead). IsBytes l.link) (get_or_default s.packet.route.hops k no_hop d below) (link_at k below)

  field_at : (j : ℕ) → j < hop_count s.packet → IsBytes (field s.packet j)
  field_at j below =
      let k = kept.hops j below in
      let fits = name_fits j k.name below k.named in
      subst IsBytes (sym k.field_is) (field_is t topology k.name s.packet j fits.body fits.link (omega (arith, below, packet.route.few_hops)))

  fields_are : All IsBytes s.packet.fields
  unfolding field
  fields_are k d below = subst IsBytes (get_or_default s.packet.fields k [] d below) (field_at k (omega (arith, below, packet.counted)))

  one_update : (j : ℕ) → IsBytes (sent_update t issues s j)
  unfolding sent_update
  one_update j = by (sent_name issues s j) refl
    where
      by : (o : Option HopName) → sent_name issues s j ≡ o → IsBytes (option_map_or (λ x. update_of t x s.packet j) o [])
      by None e = All-nil (λ b. b < 256)
      by (Some x) e =
          let below = named_inside issues s j x e in
          let fits = name_fits j x below e in
          update_is t topology x s.packet j fits.body fits.link (omega (arith, below, packet.route.few_hops))

  updates_are : All IsBytes (sent_updates t issues s)
  unfolding sent_updates
  updates_are =
      let numbers = range_with_len 0 (update_count s.packet.first (hop_count s.packet)) in
      All-map IsBytes (sent_update t issues s) numbers (λ k d below. one_update (get_or numbers k d))

  dest_is : IsBytes s.packet.dest_field
  dest_is =
      ⊎_elim
      (λ tagged. subst IsBytes (sym (kept.dest_field_is tagged))
      (dest_field_is t topology s.packet (sent_updates t issues s)
      (dest_message_over s.packet (sent_updates t issues s) packet.route links_are payload updates_are)))
      (λ plain. subst IsBytes (sym (packet.untagged plain)) (is_bytes (replicate 16 0) (zeros 16)))
      (cases_Bool (is_tagged s.packet.first))

  pub sent_holds : HoldsBytes s.packet
  sent_holds = record { links = links_are; field_bytes = fields_are; dest_bytes = dest_is; payload_bytes = payload }

-- ---- the ledger with it

module _ (t : Network) (topology : IsTopology t) (step now : ℕ) (h : History) (numbers : ArrayVec ℕ) (p : Contents) (payload : IsBytes p.payload)
    (before : Inv t h now step) (after : Inv t (sent_at step h numbers p) now step)
    (fitted : Fitted h) (few : length h.events < 2 ^ 31) (few_packets : length h.emissions < 2 ^ 31) (early : step < 2 ^ 32) where
  x : Emission
  x = record { place = Router p.src.asn 0; bytes = spelling p }

  es : List Emission
  es = h.emissions ++ record { place = Router p.src.asn 0; bytes = spelling p } ∷ []

  number : ℕ
  number = length h.emissions + 1

  e : Event
  e = event.Send step (length h.emissions + 1) numbers

  s : Sent
  s = record { emission = length h.emissions + 1; segments = numbers.items; packet = packet_at es (length h.emissions + 1) }

  there : emission_at es (length h.emissions + 1) ≡ Some x
  unfolding es x
  there = emission_next h.emissions (record { place = Router p.src.asn 0; bytes = spelling p })

  issues_same : issues_in (h.events ++ e ∷ []) ≡ issues_in h.events
  unfolding e as_issue
  issues_same = none_more as_issue h.events (event.Send step (length h.emissions + 1) numbers) refl

  sends_are : filter_map (as_send es) (h.events ++ e ∷ []) ≡ filter_map (as_send es) h.events ++ s ∷ []
  unfolding e s as_send
  sends_are = one_more (as_send es) h.events (event.Send step (length h.emissions + 1) numbers) s refl

  index : ℕ
  index = length (filter_map (as_send es) h.events)

  sent_there : slice_get (filter_map (as_send es) (h.events ++ e ∷ [])) index ≡ Some s
  unfolding index
  sent_there = ap (λ ss. slice_get ss (length (filter_map (as_send es) h.events))) sends_are ∙ slice_get-seam (filter_map (as_send es) h.events) s

  emission_is : IsEmission x
  unfolding sent_at es x
  emission_is = emission_all IsEmission es after.sound.lawful.packets (length h.emissions + 1) x there

  packet : IsPacket s.packet
  unfolding s es x
  packet = subst IsPacket (sym (packet_next h.emissions (record { place = Router p.src.asn 0; bytes = spelling p }))) emission_is.packet

  kept : IsKeptSend t (issues_in h.events) s
  unfolding sent_at facts_of es e
  kept = subst (λ is. IsKeptSend t is s) issues_same (after.sound.kept.sends.each index s sent_there)

  same_spelled : spelling s.packet ≡ spelling p
  unfolding sent_at es e x s
  same_spelled =
      let on_way = after.sends index s sent_there in
      ap (λ (y : Emission). y.bytes) (same_Some _ _ (sym on_way.due ∙ there))

  issue_fits : (n : ℕ) (i : Issue) → issue_at (issues_in h.events) n ≡ Some i → HopFits i.name
  issue_fits = issue_all (λ i. HopFits i.name) (issues_in h.events) (issues_fit t h step before.sound fitted)

  bytes_are : IsBytes (spelling p)
  bytes_are =
      subst IsBytes same_spelled
      (spelling_is s.packet packet
      (sent_holds t topology (issues_in h.events) issue_fits s packet kept
      (payload_is p s.packet same_spelled (omega (arith, packet.payload)) payload)))

  fits : FitsSend es (issues_in h.events) (length h.emissions + 1) numbers.items
  unfolding sent_at es e
  fits =
      let of = after.sound.lawful.fit (length h.events) e (slice_get-seam h.events e) in
      subst (λ vs. FitsSend es (issues_in vs) (length h.emissions + 1) numbers.items) (front_of h.events (e ∷ [])) of

  numbers_fit : All (λ n. n < 2 ^ 32) numbers.items
  numbers_fit k d below =
      let some = fits.issued k below in
      let most = within (issues_in h.events) (slice_index_or numbers.items k 0) some in
      let parts = few_parts as_issue h.events in
      let small : slice_index_or numbers.items k 0 < 2 ^ 32 = omega (arith, most, parts, few) in
      subst (λ n. n < 2 ^ 32) (get_or_default numbers.items k 0 d below) small

  pub sent_told : Told t h (new_items h (sent_at step h numbers p)) [] (sent_at step h numbers p)
  unfolding sent_at es e x s is_event_placed ItemFits EventFits facts_of
  sent_told =
      let y : Emission = record { place = Router p.src.asn 0; bytes = spelling p } in
      let all = h.emissions ++ y ∷ [] in
      let mid : History = record { events = h.events; emissions = all } in
      let sent = event.Send step (length h.emissions + 1) numbers in
      let g : History = record { events = h.events ++ sent ∷ []; emissions = all } in
      let due : has t p.src.asn ≡ true = emission_all (λ (k : Emission). IsDue t k.place) all after.places (length h.emissions + 1) y there in
      let long : length all ≡ length h.emissions + 1 = length_push h.emissions y in
      let newest : is_newest all (length h.emissions + 1) ≡ true = grind (arith, nat_tests) in
      let ended = kept.ended in
      let lasts = lasts_are t (issues_in h.events) before.sound.kept.issues numbers.items (packet_at all (length h.emissions + 1)).route.segments fits.count ended fits.chains in
      let emission = told_emission t h (length h.emissions + 1) (Router p.src.asn 0) (spelling p)
      (omega (arith, few_packets), omega arith, bytes_are)
      (and_from (length h.emissions + 1 == length h.emissions + 1 && has t p.src.asn) (is_packet (spelling p))
      (and_from (length h.emissions + 1 == length h.emissions + 1) (has t p.src.asn) (eq-eqb (length h.emissions + 1) (length h.emissions + 1) refl) due)
      (ap is_none emission_is.faultless)) in
      let event = told_event t mid sent (early, omega (arith, few_packets), numbers_fit)
      (and_from (is_newest all (length h.emissions + 1)) (are_lasts (issues_in h.events) numbers.items (packet_at all (length h.emissions + 1)).route.segments) newest lasts) in
      subst (λ is. Told t h is [] g) (sym (new_some h g (y ∷ []) (sent ∷ []) refl refl))
      (told_both t h mid g (items.Emission (length h.emissions + 1) (Router p.src.asn 0) (spelling p) ∷ []) (items.Event sent ∷ []) [] [] emission event)
