-- The parts of a packet are read off from its path bytes, and from the message of its destination field.
use Rattle.std.proofs.Common.{◌≡◌, ℕ, suc, Bool, true, false, List, [], ◌++◌, length, refl, ap, sym, ◌∙◌, subst, arith, append_assoc, if◌then◌else◌}
use Rattle.std.specs.Prelude.{IsTrue, ◌==◌}
use Rattle.std.specs.List.{All, flat_map, concat}
use Rattle.std.proofs.lemmas.Bool.{eqb-false}
use Rattle.std.proofs.lemmas.List.Concat.{concat_is}
use Rattle.std.proofs.lemmas.List.Elements.{recursion_from_All}
use Rattle.epic_num.specs.BigEndian.{u16_bytes, u32_bytes}
use Rattle.epic_num.specs.Levels.{width_of, is_tagged}
use Rattle.epic_num.specs.Messages.{field_domain, field23_message, dest_domain}
use Rattle.epic_num.proofs.Reading.{read_one, read_u16, read_u32, read_u64, read_host, read_row}
use Rattle.epic_num.proofs.MessageLaws.{at_tagged}
use Rattle.epic_layout.specs.declared.head.SegmentHead.{SegmentHead}
use Rattle.epic_layout.specs.declared.head.HopHead.{HopHead}
use Rattle.epic_layout.specs.Route.{Route, hops_of}
use Rattle.epic_layout.specs.Contents.{IsSegment, IsHop, IsRoute}
use Rattle.epic_layout.specs.Spelling.{segment_bytes, hop_bytes, path_bytes, update_count, dest_message, DestMessagesDiffer, KindsDiffer}

-- ---- the route

same_direction : (a b : Bool) → ◌≡◌ {A = ℕ} (if a then 1 else 0) (if b then 1 else 0) → a ≡ b
same_direction true true e = refl
same_direction true false e = absurd (omega (arith, e))
same_direction false true e = absurd (omega (arith, e))
same_direction false false e = refl

pub length-segment_bytes : (s : SegmentHead) → length (segment_bytes s) ≡ 8
unfolding segment_bytes u32_bytes
length-segment_bytes s = refl

segment_bytes-same : (x y : SegmentHead) → IsSegment x → IsSegment y → segment_bytes x ≡ segment_bytes y → x ≡ y
unfolding segment_bytes
segment_bytes-same x y p q e =
    let direction = read_one {A = ℕ} (if x.against then 1 else 0) (if y.against then 1 else 0) _ _ e in
    let against = same_direction x.against y.against direction.0 in
    let count = read_one x.count y.count _ _ direction.1 in
    let first = read_one 0 0 _ _ count.1 in
    let second = read_one 0 0 _ _ first.1 in
    let ts_path = read_u32 x.ts_path y.ts_path [] [] p.ts_path q.ts_path (ap (λ m. m ++ []) second.1) in
    λ i. record { against = against i; count = count.0 i; ts_path = ts_path.0 i }

pub length-hop_bytes : (h : HopHead) → IsHop h → length (hop_bytes h) ≡ 13
unfolding hop_bytes u16_bytes
length-hop_bytes h p = ap (λ n. suc (suc (suc (suc (suc n))))) p.link

hop_bytes-same : (x y : HopHead) → IsHop x → IsHop y → hop_bytes x ≡ hop_bytes y → x ≡ y
unfolding hop_bytes
hop_bytes-same x y p q e =
    let exp = read_one x.exp y.exp _ _ e in
    let inn = read_u16 x.inn y.inn _ _ p.inn q.inn exp.1 in
    let out = read_u16 x.out y.out x.link y.link p.out q.out inn.1 in
    λ i. record { exp = exp.0 i; inn = inn.0 i; out = out.0 i; link = out.1 i }

-- the path bytes at the front of a text say the route
pub read_route : (x y : Route) (us vs : List ℕ) → IsRoute x → IsRoute y → path_bytes x ++ us ≡ path_bytes y ++ vs → (x ≡ y) × (us ≡ vs)
unfolding path_bytes
read_route x y us vs p q e =
    let count = read_one (length x.segments) (length y.segments) _ _ e in
    let tails : flat_map segment_bytes x.segments ++ (flat_map hop_bytes x.hops ++ us) ≡ flat_map segment_bytes y.segments ++ (flat_map hop_bytes y.hops ++ vs)
    = sym (append_assoc (flat_map segment_bytes x.segments) (flat_map hop_bytes x.hops) us) ∙ count.1 ∙ append_assoc (flat_map segment_bytes y.segments) (flat_map hop_bytes y.hops) vs in
    let segments = read_row segment_bytes IsSegment 8 (λ s _. length-segment_bytes s) segment_bytes-same x.segments y.segments _ _ count.0 (recursion_from_All IsSegment x.segments p.segments) (recursion_from_All IsSegment y.segments q.segments) tails in
    let counts : length x.hops ≡ length y.hops = sym p.counted ∙ ap hops_of segments.0 ∙ q.counted in
    let hops = read_row hop_bytes IsHop 13 length-hop_bytes hop_bytes-same x.hops y.hops us vs counts (recursion_from_All IsHop x.hops p.hops) (recursion_from_All IsHop y.hops q.hops) segments.1 in
    ((λ i. record { segments = segments.0 i; hops = hops.0 i }), hops.1)

-- equal path bytes are those of one route
pub same_route : (x y : Route) → IsRoute x → IsRoute y → path_bytes x ≡ path_bytes y → x ≡ y
same_route x y p q e = (read_route x y [] [] p q (ap (λ m. m ++ []) e)).0

-- ---- the message of a destination field

read_updates : (w : ℕ) (xs ys : List (List ℕ)) (us vs : List ℕ) → length xs ≡ length ys → All (λ u. length u ≡ w) xs → All (λ u. length u ≡ w) ys → concat xs ++ us ≡ concat ys ++ vs → (xs ≡ ys) × (us ≡ vs)
read_updates w xs ys us vs n p q e =
    let rows : flat_map (λ x. x) xs ++ us ≡ flat_map (λ x. x) ys ++ vs = ap (λ m. m ++ us) (sym (concat_is xs)) ∙ e ∙ ap (λ m. m ++ vs) (concat_is ys) in
    read_row (λ x. x) (λ u. length u ≡ w) w (λ _ l. l) (λ _ _ _ _ same. same) xs ys us vs n (recursion_from_All (λ u. length u ≡ w) xs p) (recursion_from_All (λ u. length u ≡ w) ys q) rows

-- the packet's first byte, by the message's
first_of : ℕ → ℕ
first_of domain = if domain == 0x22 then 0xE2 else if domain == 0x23 then 0xE3 else if domain == 0x42 then 0xF2 else 0xF3

first_of-dest_domain : (first : ℕ) → IsTrue (is_tagged first) → first_of (dest_domain first) ≡ first
unfolding first_of dest_domain
first_of-dest_domain = at_tagged (λ f. first_of (dest_domain f) ≡ f) refl refl refl refl

-- equal messages of destination fields are made over the same
pub dest_messages : DestMessagesDiffer
unfolding dest_message
dest_messages p q us vs ip iq tp tq up uq e =
    let domain = read_one (dest_domain p.first) (dest_domain q.first) _ _ e in
    let first : p.first ≡ q.first = sym (first_of-dest_domain p.first tp) ∙ ap first_of domain.0 ∙ first_of-dest_domain q.first tq in
    let ts = read_u64 p.ts q.ts _ _ ip.ts iq.ts domain.1 in
    let src = read_host p.src q.src _ _ ip.src iq.src ts.1 in
    let dst = read_host p.dst q.dst _ _ ip.dst iq.dst src.1 in
    let route = read_route p.route q.route _ _ ip.route iq.route dst.1 in
    let counts : length us ≡ length vs = up.count ∙ (λ i. update_count (first i) (length (route.0 i).hops)) ∙ sym uq.count in
    let widths : All (λ u. length u ≡ width_of p.first) vs = subst (λ f. All (λ u. length u ≡ width_of f) vs) (sym first) uq.widths in
    let updates = read_updates (width_of p.first) us vs _ _ counts up.widths widths route.1 in
    let size = read_u16 (length p.payload) (length q.payload) _ _ (omega (arith, ip.payload)) (omega (arith, iq.payload)) updates.1 in
    record {
      same_first = first;
      same_ts = ts.0;
      same_src = src.0;
      same_dst = dst.0;
      same_route = route.0;
      same_updates = updates.0;
      same_payload = size.1;
    }

domains_apart : (f : ℕ) → IsTrue (is_tagged f) → (g : ℕ) → IsTrue (is_tagged g) → (dest_domain f == field_domain g) ≡ false
unfolding dest_domain field_domain
domains_apart = at_tagged (λ f. (g : ℕ) → IsTrue (is_tagged g) → (dest_domain f == field_domain g) ≡ false)
    (at_tagged (λ g. (0x22 == field_domain g) ≡ false) refl refl refl refl)
    (at_tagged (λ g. (0x23 == field_domain g) ≡ false) refl refl refl refl)
    (at_tagged (λ g. (0x42 == field_domain g) ≡ false) refl refl refl refl)
    (at_tagged (λ g. (0x43 == field_domain g) ≡ false) refl refl refl refl)

pub kinds_differ : KindsDiffer
unfolding dest_message field23_message
kinds_differ p us first ts src hop sigma tp t = eqb-false (dest_domain p.first) (field_domain first) (domains_apart p.first tp first t)
