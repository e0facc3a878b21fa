-- Fields that are made and put into their places one after the other.
use Rattle.std.proofs.Common.{◌≡◌, ℕ, zero, suc, ◌+◌, ◌<◌, ◌≤◌, true, false, List, [], ◌∷◌, ◌++◌, length, get_or, take, drop, map, None, Ok, refl, ap, sym, ◌∙◌, subst, arith, length-append, length-take-le}
use Rattle.std.specs.Prelude.{slice_set, if◌then◌else◌}
use Rattle.std.specs.List.{All, range_with_len}
use Rattle.std.proofs.lemmas.Bool.{cond-true, cond-false}
use Rattle.std.proofs.lemmas.List.{get_or_default, map-append, take-map}
use Rattle.std.proofs.lemmas.List.Elements.{All-append}
use Rattle.std.proofs.lemmas.List.FromFn.{map-range_with_len_more, take-map-range_with_len}
use Rattle.epic_cmac.specs.Cmac.{cmac}
use Rattle.epic_keys.specs.Keys.{key}
use Rattle.epic_num.specs.declared.key_name.KeyName.TheVariants.{Field as FieldKey}
use Rattle.epic_num.specs.declared.name.AsId.{AsId}
use Rattle.epic_num.specs.Moments.{epoch_of}
use Rattle.epic_num.specs.declared.hop.Field.{Field}
use Rattle.epic_num.specs.declared.name.HostId.{HostId}
use Rattle.epic_num.specs.declared.segment.Leg.{Leg}
use Rattle.epic_num.specs.declared.segment.SegHop.{SegHop}
use Rattle.epic_num.specs.Levels.{is_first_byte, is_tagged}
use Rattle.epic_num.specs.Paths.{path_hops}
use Rattle.epic_num.specs.Tables.{unless}
use Rattle.epic_num.proofs.TableLaws.{unless_ok}
use Rattle.epic_layout.specs.Contents.{Contents, IsPacket, as_field, field_bytes, header_len, hop_count, shape, unfilled, with_dest_field, with_field}
use Rattle.epic_layout.specs.Layout.{checked, fault, parse}
use Rattle.epic_layout.specs.PathRoutes.{route_of}
use Rattle.epic_layout.specs.Spelling.{spelling, update_count}
use Rattle.epic_layout.specs.declared.shape.Shape.{Shape}
use Rattle.epic_layout.proofs.OneSpelling.{packets_are_spelled}
use Rattle.epic_topo.specs.Network.{Network}
use Rattle.epic_fields.specs.Formulas.{field23, field_part, update_part}
use Rattle.epic_fields.specs.PacketTags.{dest_field_of, field_name, field_over, message_over, shared_key, tag_over, update_over}
use Rattle.epic_fields.proofs.FieldBytes.{field_read}
use Rattle.epic_fields.proofs.Stamps.{field_over-tagged}
use Rattle.epic_ends.specs.Filling.{field_by, fields_by, filled, update_by, updates_by}
use Rattle.epic_ends.specs.Sending.{fields_over, hop_of_path, no_hop, packet_over, updates_over}
use Rattle.epic_ends.proofs.Made.{count_within}
use Rattle.epic_ends.proofs.Ways.{one_more}

-- one more is made
pub more_fields : (f : ℕ → List ℕ) (fields : List Field) (j : ℕ) (v : Field) → map (λ w. field_bytes w) fields ≡ map f (range_with_len 0 j) → field_bytes v ≡ f j
    → map (λ w. field_bytes w) (fields ++ v ∷ []) ≡ map f (range_with_len 0 (j + 1))
more_fields f fields j v so_far here =
    map-append (λ (w : Field). field_bytes w) fields (v ∷ [])
    ∙ ((λ i. so_far i ++ here i ∷ [])
    ∙ sym (map-range_with_len_more f 0 j j (omega arith)))

-- a field that is put into its place leaves the packet's sizes
pub same_shape : (old new : List ℕ) (s : Shape) (j : ℕ) (v : List ℕ) → Ok s ≡ checked old → parse new ≡ with_field (parse old) j v → fault is_first_byte new ≡ None
    → Ok s ≡ checked new
unfolding with_field shape header_len
same_shape old new s j v was packet none =
    let is = unless_ok (fault is_first_byte old) (shape (parse old)) s (sym was) in
    sym (ap (λ e. unless e (shape (parse new))) none ∙ (ap (λ p. Ok (shape p)) packet ∙ ap Ok is.1))

-- ---- tags

-- the field of level 2 or 3 that is part of a tag, and the update
pub tagged_field : (f : Field) (first : ℕ) (tag key shared authenticator : List ℕ) (p : Contents) (j : ℕ)
    → f ≡ as_field (field_part first tag) → first ≡ p.first → tag ≡ tag_over key authenticator p j → key ≡ shared → is_tagged p.first ≡ true
    → field_bytes f ≡ field_over shared authenticator p j
tagged_field f first tag key shared authenticator p j made first_is tag_is key_is tagged =
    field_read f (field_part first tag) made
    ∙ (ap (λ n. field_part n tag) first_is
    ∙ (ap (field_part p.first) (tag_is ∙ ap (λ k. tag_over k authenticator p j) key_is)
    ∙ sym (field_over-tagged shared authenticator p j tagged)))

pub tagged_update : (f : Field) (first : ℕ) (tag key shared authenticator : List ℕ) (p : Contents) (j : ℕ)
    → f ≡ as_field (update_part first tag) → first ≡ p.first → tag ≡ tag_over key authenticator p j → key ≡ shared
    → field_bytes f ≡ update_over shared authenticator p j
unfolding update_over
tagged_update f first tag key shared authenticator p j made first_is tag_is key_is =
    field_read f (update_part first tag) made
    ∙ (ap (λ n. update_part n tag) first_is
    ∙ ap (update_part p.first) (tag_is ∙ ap (λ k. tag_over k authenticator p j) key_is))

-- a tag under the key that a source has ready
pub ready_tag : (t : Network) (a : AsId) (authenticator : List ℕ) (p : Contents) (j : ℕ) (src : HostId) (epoch : ℕ) (message tag : List ℕ)
    → src ≡ p.src → epoch ≡ epoch_of t.profile p.ts → message ≡ message_over authenticator p j → tag ≡ cmac (key t (FieldKey a src epoch)) message
    → tag ≡ tag_over (shared_key t a p) authenticator p j
unfolding tag_over field23 message_over shared_key field_name
ready_tag t a authenticator p j src epoch message tag source epoch_is message_is is =
    is ∙ (λ i. cmac (key t (FieldKey a (source i) (epoch_is i))) (message_is i))

-- ---- rows of them

-- the hop that is read at an index is hop j
field_here : (t : Network) (hops : List SegHop) (p : Contents) (j : ℕ) (d : SegHop) → j < length hops
    → field_over (shared_key t (get_or hops j d).asn p) (get_or hops j d).sigma p j ≡ field_by t hops p j
unfolding field_by
field_here t hops p j d h = ap (λ (s : SegHop). field_over (shared_key t s.asn p) s.sigma p j) (get_or_default hops j d no_hop h)

update_here : (t : Network) (hops : List SegHop) (p : Contents) (j : ℕ) (d : SegHop) → j < length hops
    → update_over (shared_key t (get_or hops j d).asn p) (get_or hops j d).sigma p j ≡ update_by t hops p j
unfolding update_by
update_here t hops p j d h = ap (λ (s : SegHop). update_over (shared_key t s.asn p) s.sigma p j) (get_or_default hops j d no_hop h)

pub one_field : (t : Network) (hops : List SegHop) (p : Contents) (j : ℕ) (d : SegHop) (before now : List Field) (v : Field) → j < length hops
    → map field_bytes before ≡ map (field_by t hops p) (range_with_len 0 j)
    → field_bytes v ≡ field_over (shared_key t (get_or hops j d).asn p) (get_or hops j d).sigma p j
    → now ≡ before ++ v ∷ [] → map field_bytes now ≡ map (field_by t hops p) (range_with_len 0 (j + 1))
one_field t hops p j d before now v h so_far here put =
    ap (map field_bytes) put ∙ more_fields (field_by t hops p) before j v so_far (here ∙ field_here t hops p j d h)

pub one_update : (t : Network) (hops : List SegHop) (p : Contents) (j : ℕ) (d : SegHop) (before now : List Field) (v : Field) → j < length hops
    → map field_bytes before ≡ map (update_by t hops p) (range_with_len 0 j)
    → field_bytes v ≡ update_over (shared_key t (get_or hops j d).asn p) (get_or hops j d).sigma p j
    → now ≡ before ++ v ∷ [] → map field_bytes now ≡ map (update_by t hops p) (range_with_len 0 (j + 1))
one_update t hops p j d before now v h so_far here put =
    ap (map field_bytes) put ∙ more_fields (update_by t hops p) before j v so_far (here ∙ update_here t hops p j d h)

-- the same where no key is looked at
pub one_untagged : (t : Network) (hops : List SegHop) (p : Contents) (j : ℕ) (d : SegHop) (before now : List Field) (v : Field) → j < length hops
    → map field_bytes before ≡ map (field_by t hops p) (range_with_len 0 j)
    → ((shared : List ℕ) → v ≡ as_field (field_over shared (get_or hops j d).sigma p j))
    → now ≡ before ++ v ∷ [] → map field_bytes now ≡ map (field_by t hops p) (range_with_len 0 (j + 1))
one_untagged t hops p j d before now v h so_far here put =
    one_field t hops p j d before now v h so_far (field_read v _ (here (shared_key t (get_or hops j d).asn p))) put

pub all_fields : (t : Network) (hops : List SegHop) (p : Contents) (vs : List (List ℕ)) (j : ℕ) → j ≡ hop_count p
    → vs ≡ map (field_by t hops p) (range_with_len 0 j) → vs ≡ fields_by t hops p
unfolding fields_by
all_fields t hops p vs j all so_far = so_far ∙ ap (λ n. map (field_by t hops p) (range_with_len 0 n)) all

pub all_updates : (t : Network) (hops : List SegHop) (p : Contents) (vs : List (List ℕ)) (j : ℕ) → j ≡ hop_count p
    → vs ≡ map (update_by t hops p) (range_with_len 0 j) → vs ≡ updates_by t hops p (hop_count p)
unfolding updates_by
all_updates t hops p vs j all so_far = so_far ∙ ap (λ n. map (update_by t hops p) (range_with_len 0 n)) all

-- ---- the packet that is filled

-- a destination field is made over so many updates
pub covered_count : (first : ℕ) (us ws : List Field) (n : ℕ) → length us ≡ n → ws ≡ take (update_count first (length us)) us → length ws ≡ update_count first n
covered_count first us ws n count is =
    ap length is ∙ (length-take-le (update_count first (length us)) us (count_within first (length us)) ∙ ap (update_count first) count)

updates_taken : (t : Network) (hops : List SegHop) (p : Contents) (us : List Field) → map field_bytes us ≡ updates_by t hops p (hop_count p)
    → map field_bytes (take (update_count p.first (hop_count p)) us) ≡ updates_by t hops p (update_count p.first (hop_count p))
unfolding updates_by
updates_taken t hops p us made =
    let n = hop_count p in
    let m = update_count p.first n in
    sym (take-map (λ (w : Field). field_bytes w) m us)
    ∙ (ap (take m) made ∙ take-map-range_with_len (update_by t hops p) 0 n m (count_within p.first n))

pub filled_tagged : (t : Network) (hops : List SegHop) (p : Contents) (fields updates lent : List Field) (dest : List ℕ) → is_tagged p.first ≡ true
    → map field_bytes fields ≡ fields_by t hops p → map field_bytes updates ≡ updates_by t hops p (hop_count p) → lent ≡ updates
    → dest ≡ dest_field_of t p (map field_bytes (take (update_count p.first (hop_count p)) lent))
    → filled t hops p ≡ record p { fields = map field_bytes fields; dest_field = dest }
unfolding filled
filled_tagged t hops p fields updates lent dest tagged made updated same is =
    let us = updates_by t hops p (update_count p.first (hop_count p)) in
    let right : (if is_tagged p.first then dest_field_of t p us else p.dest_field) ≡ dest =
    cond-true (is_tagged p.first) (dest_field_of t p us) p.dest_field tagged
    ∙ (ap (dest_field_of t p) (sym (updates_taken t hops p lent (ap (map field_bytes) same ∙ updated))) ∙ sym is) in
    λ i. record p { fields = sym made i; dest_field = right i }

pub filled_untagged : (t : Network) (hops : List SegHop) (p : Contents) (fields : List Field) → is_tagged p.first ≡ false
    → map field_bytes fields ≡ fields_by t hops p → filled t hops p ≡ record p { fields = map field_bytes fields }
unfolding filled
filled_untagged t hops p fields untagged made =
    let us = updates_by t hops p (update_count p.first (hop_count p)) in
    λ i. record p { fields = sym made i; dest_field = cond-false (is_tagged p.first) (dest_field_of t p us) p.dest_field untagged i }

-- a field is put into its place behind others
pub put_more : (p q r : Contents) (vs : List (List ℕ)) (j : ℕ) (v : List ℕ) → j < length vs → j < length p.fields → v ≡ get_or vs j []
    → q ≡ record p { fields = take j vs ++ drop j p.fields } → r ≡ with_field q j v → r ≡ record p { fields = take (j + 1) vs ++ drop (j + 1) p.fields }
unfolding with_field
put_more p q r vs j v h room is so_far put =
    put
    ∙ (ap (λ x. with_field x j v) so_far
    ∙ ap (λ fs. record p { fields = fs }) (ap (slice_set (take j vs ++ drop j p.fields) j) is ∙ one_more vs p.fields j [] h room))

-- the packet that a source sends is the one without fields, filled
filled_is : (t : Network) (legs : List Leg) (first : ℕ) (src dst : HostId) (ts : ℕ) (payload : List ℕ)
    → filled t (path_hops legs) (unfilled first src dst ts (route_of legs) payload) ≡ packet_over t (λ h. h.sigma) legs first src dst ts payload
unfolding filled fields_by field_by updates_by update_by packet_over fields_over updates_over hop_of_path unfilled
filled_is t legs first src dst ts payload = refl

-- ---- what is kept while fields are made

one_wide : (w : ℕ) (v : Field) → v.width ≡ w → All (λ f. f.width ≡ w) (v ∷ [])
one_wide w v e zero d h = e
one_wide w v e (suc k) d h = absurd (omega (arith, h))

pub wide_more : (w : ℕ) (before now : List Field) (v : Field) → All (λ f. f.width ≡ w) before → v.width ≡ w → now ≡ before ++ v ∷ [] → All (λ f. f.width ≡ w) now
wide_more w before now v all e put =
    subst (λ fs. All (λ (f : Field). f.width ≡ w) fs) (sym put) (All-append (λ (f : Field). f.width ≡ w) before (v ∷ []) all (one_wide w v e))

pub long_more : (before now : List Field) (v : Field) (j : ℕ) → length before ≡ j → now ≡ before ++ v ∷ [] → length now ≡ j + 1
long_more before now v j e put = (let all = ap length put in omega (arith, all, e, length-append before (v ∷ [])))

-- both fields are put in
pub filled_in : (p q r w : Contents) (vs : List (List ℕ)) (dest : List ℕ) → q ≡ record p { fields = vs } → r ≡ with_dest_field q dest
    → w ≡ record p { fields = vs; dest_field = dest } → r ≡ w
unfolding with_dest_field
filled_in p q r w vs dest fields put is = put ∙ (ap (λ x. with_dest_field x dest) fields ∙ sym is)

-- a spelled packet is read back
pub says : (bytes : List ℕ) (p : Contents) → bytes ≡ spelling p → IsPacket p → parse bytes ≡ p
says bytes p spelled packet = ap parse spelled ∙ (packets_are_spelled p packet).says

-- a packet that was written without fields is the sent one when it is filled
pub sent_is : (t : Network) (legs : List Leg) (first : ℕ) (src dst : HostId) (ts : ℕ) (payload before now : List ℕ) (hops : List SegHop)
    → before ≡ spelling (unfilled first src dst ts (route_of legs) payload) → IsPacket (unfilled first src dst ts (route_of legs) payload)
    → hops ≡ path_hops legs → parse now ≡ filled t hops (parse before)
    → parse now ≡ packet_over t (λ h. h.sigma) legs first src dst ts payload
sent_is t legs first src dst ts payload before now hops spelled packet hops_are put =
    let p = unfilled first src dst ts (route_of legs) payload in
    put
    ∙ (ap (filled t hops) (says before p spelled packet)
    ∙ (ap (λ hs. filled t hs p) hops_are
    ∙ filled_is t legs first src dst ts payload))
