-- The parts of a packet, and what its tags are made over, are bytes.
use Rattle.std.proofs.Common.{ℕ, zero, suc, ◌+◌, ◌-◌, ◌<◌, ◌==◌, Bool, cond, List, [], ◌∷◌, ◌++◌, length, flat_map, sym, subst, arith}
use Rattle.std.specs.Prelude.{All}
use Rattle.std.specs.List.{concat}
use Rattle.std.proofs.lemmas.Bool.{cond_both}
use Rattle.std.proofs.lemmas.List.Elements.{All-cons, All-head, All-nil, All-tail, All-take}
use Rattle.hex.specs.Hex.{IsBytes as AreBytes}
use Rattle.epic_num.specs.declared.name.HostId.{HostId}
use Rattle.epic_num.specs.BigEndian.{u16_bytes, u32_bytes, u64_bytes}
use Rattle.epic_num.specs.Bodies.{body_bytes, IsBody}
use Rattle.epic_num.specs.Messages.{authenticator_message, dest_domain, field1_message, field23_message, field_domain, host_bytes}
use Rattle.epic_layout.specs.declared.head.HopHead.{HopHead}
use Rattle.epic_layout.specs.declared.head.HopPlace.{HopPlace}
use Rattle.epic_layout.specs.declared.head.SegmentHead.{SegmentHead}
use Rattle.epic_layout.specs.Contents.{Contents, HoldsBytes, IsBytes, IsHop, IsPacket, IsRoute, IsSegment, field, hop_count}
use Rattle.epic_layout.specs.Route.{Route, body, hop, no_hop, no_segment, place, position}
use Rattle.epic_layout.specs.Spelling.{dest_message, hop_bytes, path_bytes, segment_bytes, update_count}
use Rattle.epic_layout.specs.Updates.{own_updates}
use Rattle.epic_layout.proofs.HopPlaces.{places_are_one}
use Rattle.epic_reread.proofs.Bytes.{are_bytes, body_bytes_are, byte_onto, bytes_onto, high_bytes}

pub is_bytes : (bytes : List ℕ) → AreBytes bytes → IsBytes bytes
is_bytes [] are = All-nil (λ b. b < 256)
is_bytes (b ∷ bytes) are = All-cons (λ x. x < 256) b bytes (are zero) (is_bytes bytes (λ i. are (suc i)))

-- ---- hops

pub hop_fits : (p : Contents) (j : ℕ) → IsPacket p → HoldsBytes p → j < hop_count p → IsBody (body p.route j) × IsBytes (body p.route j).link
unfolding body hop position
hop_fits p j is bytes there =
    let at = (places_are_one p.route.segments).placed j (omega (arith, there, is.route.counted)) in
    let here : HopPlace = place p.route.segments j in
    let segment : IsSegment here.head = subst IsSegment (sym at.head_is) (is.route.segments here.segment no_segment at.segment_there) in
    let head : IsHop (hop p.route j) = is.route.hops j no_hop there in
    let low : position here < 256 = cond_both here.head.against (here.head.count - here.index) (here.index + 1) (λ n. n < 256)
    (λ e. omega (arith, segment.most, at.inside)) (λ e. omega (arith, segment.most, at.inside)) in (
      record { pos = low; exp = head.exp; ts_path = segment.ts_path; inn = head.inn; out = head.out; link = head.link },
      bytes.links j no_hop there,
    )

pub field_is : (p : Contents) (j : ℕ) → IsPacket p → HoldsBytes p → j < hop_count p → IsBytes (field p j)
unfolding field
field_is p j is bytes there = bytes.field_bytes j [] (omega (arith, there, is.counted))

-- ---- messages of hops

pub host_is : (h : HostId) → AreBytes (host_bytes h)
unfolding host_bytes u32_bytes u64_bytes
host_is h = bytes_onto (u64_bytes h.asn.0) (u32_bytes h.host) (high_bytes 8 h.asn.0) (high_bytes 4 h.host)

timed : (ts : ℕ) (src : HostId) (more : List ℕ) → AreBytes more → AreBytes (u64_bytes ts ++ (host_bytes src ++ more))
unfolding u64_bytes
timed ts src more h = bytes_onto (u64_bytes ts) (host_bytes src ++ more) (high_bytes 8 ts) (bytes_onto (host_bytes src) more (host_is src) h)

choice : (b : Bool) (m n : ℕ) → m < 256 → n < 256 → cond b m n < 256
choice b m n h k = cond_both b m n (λ x. x < 256) (λ e. h) (λ e. k)

field_domain_is : (first : ℕ) → field_domain first < 256
unfolding field_domain
field_domain_is first =
    choice (first == 0xE2) 0x12 _ (omega arith)
    (choice (first == 0xE3) 0x13 _ (omega arith) (choice (first == 0xF2) 0x32 _ (omega arith) (choice (first == 0xF3) 0x33 0 (omega arith) (omega arith))))

dest_domain_is : (first : ℕ) → dest_domain first < 256
unfolding dest_domain
dest_domain_is first =
    choice (first == 0xE2) 0x22 _ (omega arith)
    (choice (first == 0xE3) 0x23 _ (omega arith) (choice (first == 0xF2) 0x42 _ (omega arith) (choice (first == 0xF3) 0x43 0 (omega arith) (omega arith))))

pub authenticator_message_is : (p : Contents) (j : ℕ) → IsPacket p → HoldsBytes p → j < hop_count p → IsBytes (authenticator_message (body p.route j))
unfolding authenticator_message
authenticator_message_is p j is bytes there =
    let fits = hop_fits p j is bytes there in
    is_bytes (0x01 ∷ body_bytes (body p.route j)) (byte_onto 0x01 (body_bytes (body p.route j)) (omega arith) (body_bytes_are (body p.route j) fits.0 fits.1))

pub field1_message_is : (ts : ℕ) (src : HostId) (j : ℕ) → j < 256 → IsBytes (field1_message ts src j)
unfolding field1_message
field1_message_is ts src j low =
    let more = u64_bytes ts ++ (host_bytes src ++ j ∷ []) in
    is_bytes (0x11 ∷ more) (byte_onto 0x11 more (omega arith) (timed ts src (j ∷ []) (byte_onto j [] low (λ i. omega arith))))

pub field23_message_is : (first ts : ℕ) (src : HostId) (j : ℕ) (sigma : List ℕ) → j < 256 → AreBytes sigma → IsBytes (field23_message first ts src j sigma)
unfolding field23_message
field23_message_is first ts src j sigma low is =
    let more = u64_bytes ts ++ (host_bytes src ++ j ∷ sigma) in
    is_bytes (field_domain first ∷ more) (byte_onto (field_domain first) more (field_domain_is first) (timed ts src (j ∷ sigma) (byte_onto j sigma low is)))

-- ---- the message of a destination field

pub flat_is : {X : Type 0} (P : X → Type 0) (f : X → List ℕ) → ((x : X) → P x → AreBytes (f x)) → (xs : List X) → All P xs → AreBytes (flat_map f xs)
flat_is P f each [] h = λ i. omega arith
flat_is P f each (x ∷ xs) h = bytes_onto (f x) (flat_map f xs) (each x (All-head P x xs h)) (flat_is P f each xs (All-tail P x xs h))

concat_is : (lists : List (List ℕ)) → All IsBytes lists → AreBytes (concat lists)
concat_is [] h = λ i. omega arith
concat_is (one ∷ more) h = bytes_onto one (concat more) (are_bytes one (All-head IsBytes one more h)) (concat_is more (All-tail IsBytes one more h))

pub segment_is : (s : SegmentHead) → IsSegment s → AreBytes (segment_bytes s)
unfolding segment_bytes u32_bytes
segment_is s is =
    let ts = u32_bytes s.ts_path in
    byte_onto (cond s.against 1 0) (s.count ∷ 0 ∷ 0 ∷ ts) (choice s.against 1 0 (omega arith) (omega arith))
    (byte_onto s.count (0 ∷ 0 ∷ ts) (omega (arith, is.most)) (byte_onto 0 (0 ∷ ts) (omega arith) (byte_onto 0 ts (omega arith) (high_bytes 4 s.ts_path))))

pub hop_is : (h : HopHead) → IsHop h × IsBytes h.link → AreBytes (hop_bytes h)
unfolding hop_bytes u16_bytes
hop_is h is =
    let out = u16_bytes h.out ++ h.link in
    byte_onto h.exp (u16_bytes h.inn ++ out) (omega (arith, is.0.exp))
    (bytes_onto (u16_bytes h.inn) out (high_bytes 2 h.inn) (bytes_onto (u16_bytes h.out) h.link (high_bytes 2 h.out) (are_bytes h.link is.1)))

path_is : (r : Route) → IsRoute r → All (λ h. IsBytes h.link) r.hops → AreBytes (path_bytes r)
unfolding path_bytes
path_is r is links =
    let segments = flat_map segment_bytes r.segments in
    let hops = flat_map hop_bytes r.hops in
    byte_onto (length r.segments) (segments ++ hops) (omega (arith, is.few_segments))
    (bytes_onto segments hops (flat_is IsSegment segment_bytes segment_is r.segments is.segments)
    (flat_is (λ h. IsHop h × IsBytes h.link) hop_bytes hop_is r.hops (λ k d l. (is.hops k d l, links k d l))))

-- over any updates
pub dest_message_over : (p : Contents) (updates : List (List ℕ)) → IsRoute p.route → All (λ h. IsBytes h.link) p.route.hops → IsBytes p.payload
    → All IsBytes updates → IsBytes (dest_message p updates)
unfolding dest_message u16_bytes u64_bytes
dest_message_over p updates route links payload are =
    let end = u16_bytes (length p.payload) ++ p.payload in
    let us = concat updates ++ end in
    let path = path_bytes p.route ++ us in
    let hosts = host_bytes p.dst ++ path in
    is_bytes (dest_domain p.first ∷ (u64_bytes p.ts ++ (host_bytes p.src ++ hosts)))
    (byte_onto (dest_domain p.first) (u64_bytes p.ts ++ (host_bytes p.src ++ hosts)) (dest_domain_is p.first)
    (timed p.ts p.src hosts
    (bytes_onto (host_bytes p.dst) path (host_is p.dst)
    (bytes_onto (path_bytes p.route) us (path_is p.route route links)
    (bytes_onto (concat updates) end (concat_is updates are)
    (bytes_onto (u16_bytes (length p.payload)) p.payload (high_bytes 2 (length p.payload)) (are_bytes p.payload payload)))))))

pub dest_message_is : (p : Contents) → IsPacket p → HoldsBytes p → IsBytes (dest_message p (own_updates p))
unfolding own_updates
dest_message_is p is bytes =
    dest_message_over p (own_updates p) is.route bytes.links bytes.payload_bytes
    (All-take IsBytes (update_count p.first (hop_count p)) p.fields bytes.field_bytes)
