-- A packet on its way: what each router makes of it, and what stays.
use Rattle.std.proofs.Common.{◌≡◌, ◌≢◌, ℕ, zero, suc, ◌+◌, ◌-◌, ◌<◌, ◌≤◌, Bool, true, false, List, [], ◌∷◌, ◌++◌, length, get_or, take, drop, refl, ap, sym, subst, ◌∙◌, ⊎_elim, arith, length-append, length-drop, length-take-le}
use Rattle.std.specs.Prelude.{◌==◌, slice_set, map, if◌then◌else◌}
use Rattle.std.specs.List.{All, range_with_len}
use Rattle.std.proofs.lemmas.Bool.{cond-true, cond-false, cond_both, cases_Bool}
use Rattle.std.proofs.lemmas.List.{append_assoc, append-nil, set_at, take_all, take_more, drop_more, drop_all, get_or-append_right, get_or-drop, take-append-drop, same_lists}
use Rattle.std.proofs.lemmas.List.Elements.{All-append, All-take, All-drop, All-from_get_or}
use Rattle.std.proofs.lemmas.List.FromFn.{length-map-range_with_len, get_or-map-range_with_len}
use Rattle.epic_num.specs.declared.hop.HopName.{HopName}
use Rattle.epic_num.specs.declared.name.AsId.{AsId}
use Rattle.epic_num.specs.Levels.{is_tagged, is_updated, level_of, level_number, width_of}
use Rattle.epic_layout.specs.Contents.{Contents, IsPacket, hop_count, field, advanced, with_field}
use Rattle.epic_layout.specs.Spelling.{update_count}
use Rattle.epic_layout.specs.Updates.{own_updates}
use Rattle.epic_topo.specs.Network.{Network}
use Rattle.epic_fields.specs.HopChecks.{hop_name}
use Rattle.epic_fields.specs.PacketTags.{field_of, update_of, dest_field_of}
use Rattle.epic_fields.proofs.Widths.{length-update_of}
use Rattle.epic_router.specs.Leaving.{updated, hop_on}
use Rattle.epic_router.proofs.Stamps.{SameStamp, field_stamp, update_stamp}
use Rattle.epic_ends.specs.Ways.{updates_of, on_way}

-- ---- two lists, one up to a place and the other from there on

later : {A : Type 0} (us fs : List A) (j k : ℕ) (d : A) → j ≤ length us → j ≤ k → get_or (take j us ++ drop j fs) k d ≡ get_or fs k d
later us fs j k d short h =
    let front : length (take j us) ≡ j = length-take-le j us short in
    let at : j + (k - j) ≡ k = omega arith in
    get_or-append_right (take j us) (drop j fs) j k d front h
    ∙ (get_or-drop j fs (k - j) d ∙ ap (λ n. get_or fs n d) at)

pub one_more : {A : Type 0} (us fs : List A) (j : ℕ) (d : A) → j < length us → j < length fs
    → slice_set (take j us ++ drop j fs) j (get_or us j d) ≡ take (j + 1) us ++ drop (j + 1) fs
one_more us fs j d hu hf =
    let front : length (take j us) ≡ j = length-take-le j us (omega (arith, hu)) in
    ap (λ rest. slice_set (take j us ++ rest) j (get_or us j d)) (drop_more fs j d hf)
    ∙ (set_at (take j us) (get_or fs j d) (drop (j + 1) fs) (get_or us j d) j front
    ∙ (sym (append_assoc (take j us) (get_or us j d ∷ []) (drop (j + 1) fs))
    ∙ ap (λ front. front ++ drop (j + 1) fs) (sym (take_more us j d hu))))

length_both : {A : Type 0} (us fs : List A) (j : ℕ) → length us ≡ length fs → j ≤ length us → length (take j us ++ drop j fs) ≡ length fs
length_both us fs j same h =
    omega (arith, same, h, length-append (take j us) (drop j fs), length-take-le j us h, length-drop j fs)

-- ---- updates

pub count_updated : (first hops : ℕ) → is_updated first ≡ true → update_count first hops ≡ hops
unfolding is_updated update_count
count_updated first hops e = cond-true (level_number (level_of first) == 3) hops 0 e

pub count_others : (first hops : ℕ) → is_updated first ≡ false → update_count first hops ≡ 0
unfolding is_updated update_count
count_others first hops e = cond-false (level_number (level_of first) == 3) hops 0 e

pub length-updates : (t : Network) (p : Contents) (x : ℕ → HopName) → length (updates_of t p x) ≡ update_count p.first (hop_count p)
unfolding updates_of
length-updates t p x = length-map-range_with_len (λ j. update_of t (x j) p j) 0 (update_count p.first (hop_count p))

pub update_at : (t : Network) (p : Contents) (x : ℕ → HopName) (j : ℕ) → is_updated p.first ≡ true → j < hop_count p
    → get_or (updates_of t p x) j [] ≡ update_of t (x j) p j
unfolding updates_of
update_at t p x j e h =
    get_or-map-range_with_len (λ k. update_of t (x k) p k) 0 (update_count p.first (hop_count p)) j j [] (omega (arith, h, count_updated p.first (hop_count p) e)) (omega arith)

-- ---- the packet on its way

pub on_stamp : (us : List (List ℕ)) (p : Contents) (j : ℕ) → SameStamp p (on_way us p j)
unfolding on_way
on_stamp us p j = record { first = refl; ts = refl; src = refl }

pub on_start : (us : List (List ℕ)) (p : Contents) → p.current ≡ 0 → on_way us p 0 ≡ p
unfolding on_way
on_start us p e i = record {
  first = p.first;
  current = sym e i;
  src = p.src;
  dst = p.dst;
  ts = p.ts;
  route = p.route;
  fields = cond_both (is_updated p.first) (take 0 us ++ drop 0 p.fields) p.fields (λ fs. fs ≡ p.fields) (λ _. refl) (λ _. refl) i;
  dest_field = p.dest_field;
  payload = p.payload;
}

-- the fields from its hop on are those that it was sent with
pub on_field : (us : List (List ℕ)) (p : Contents) (j k : ℕ) → (is_updated p.first ≡ true → j ≤ length us) → j ≤ k → field (on_way us p j) k ≡ field p k
unfolding on_way field
on_field us p j k long h =
    cond_both (is_updated p.first) (take j us ++ drop j p.fields) p.fields (λ fs. get_or fs k [] ≡ get_or p.fields k [])
    (λ e. later us p.fields j k [] (long e) h) (λ _. refl)

-- the fields as they stand
pub on_fields : (us : List (List ℕ)) (p : Contents) (j : ℕ) → (on_way us p j).fields ≡ (if is_updated p.first then take j us ++ drop j p.fields else p.fields)
unfolding on_way
on_fields us p j = refl

-- the router of hop j, of which x is the name, sends it on to the next hop
pub on_next : (t : Network) (a : AsId) (g : ℕ) (us : List (List ℕ)) (p : Contents) (j : ℕ) (x : HopName)
    → hop_name a g p j ≡ x → j < hop_count p → length p.fields ≡ hop_count p
    → (is_updated p.first ≡ true → (length us ≡ hop_count p) × (get_or us j [] ≡ update_of t x p j))
    → hop_on t a g (on_way us p j) ≡ on_way us p (j + 1)
unfolding hop_on updated advanced with_field on_way hop_name
on_next t a g us p j x named within counted right =
    ⊎_elim
    (λ e. (let r = right e in
    let q = on_way us p j in
    let u = update_of t (hop_name a g q j) q j in
    let same : u ≡ get_or us j [] = update_stamp t (hop_name a g q j) p q j (on_stamp us p j) ∙ (ap (λ y. update_of t y p j) named ∙ sym r.1) in
    ap (λ (c : Contents). record c { current = c.current + 1 }) (cond-true (is_updated p.first) (record q { fields = slice_set q.fields j u }) q e)
    ∙ (λ i. record {
      first = p.first;
      current = j + 1;
      src = p.src;
      dst = p.dst;
      ts = p.ts;
      route = p.route;
      fields = fields_on e r same i;
      dest_field = p.dest_field;
      payload = p.payload;
    })))
    (λ e. (let q = on_way us p j in
    let u = update_of t (hop_name a g q j) q j in
    ap (λ (c : Contents). record c { current = c.current + 1 }) (cond-false (is_updated p.first) (record q { fields = slice_set q.fields j u }) q e)
    ∙ (λ i. record {
      first = p.first;
      current = j + 1;
      src = p.src;
      dst = p.dst;
      ts = p.ts;
      route = p.route;
      fields = (cond-false (is_updated p.first) (take j us ++ drop j p.fields) p.fields e ∙ sym (cond-false (is_updated p.first) (take (j + 1) us ++ drop (j + 1) p.fields) p.fields e)) i;
      dest_field = p.dest_field;
      payload = p.payload;
    })))
    (cases_Bool (is_updated p.first))
  where
    u' : List ℕ
    u' = update_of t (hop_name a g (on_way us p j) j) (on_way us p j) j

    fields_on : is_updated p.first ≡ true → (length us ≡ hop_count p) × (get_or us j [] ≡ update_of t x p j) → u' ≡ get_or us j []
        → slice_set (if is_updated p.first then take j us ++ drop j p.fields else p.fields) j u'
        ≡ (if is_updated p.first then take (j + 1) us ++ drop (j + 1) p.fields else p.fields)
    fields_on e r same =
        ap (λ fs. slice_set fs j u') (cond-true (is_updated p.first) (take j us ++ drop j p.fields) p.fields e)
        ∙ (ap (slice_set (take j us ++ drop j p.fields) j) same
        ∙ (one_more us p.fields j [] (omega (arith, within, r.0)) (omega (arith, within, counted))
        ∙ sym (cond-true (is_updated p.first) (take (j + 1) us ++ drop (j + 1) p.fields) p.fields e)))

-- it is within the limits all the way
pub on_packet : (us : List (List ℕ)) (p : Contents) (j : ℕ) → IsPacket p → j ≤ hop_count p
    → (is_updated p.first ≡ true → (length us ≡ hop_count p) × All (λ v. length v ≡ width_of p.first) us)
    → IsPacket (on_way us p j)
unfolding on_way
on_packet us p j ip h right = record {
  exists = ip.exists;
  src = ip.src;
  dst = ip.dst;
  ts = ip.ts;
  route = ip.route;
  current = h;
  counted =
      cond_both (is_updated p.first) (take j us ++ drop j p.fields) p.fields (λ fs. length fs ≡ hop_count p)
      (λ e. length_both us p.fields j ((right e).0 ∙ sym ip.counted) (omega (arith, h, (right e).0)) ∙ ip.counted) (λ _. ip.counted);
  fields =
      cond_both (is_updated p.first) (take j us ++ drop j p.fields) p.fields (All (λ v. length v ≡ width_of p.first))
      (λ e. All-append (λ v. length v ≡ width_of p.first) (take j us) (drop j p.fields)
      (All-take (λ v. length v ≡ width_of p.first) j us (right e).1) (All-drop (λ v. length v ≡ width_of p.first) j p.fields ip.fields))
      (λ _. ip.fields);
  dest_length = ip.dest_length;
  untagged = ip.untagged;
  payload = ip.payload;
}

-- at its end the packet's own updates are those of its hops
pub at_end : (us : List (List ℕ)) (p : Contents) → length us ≡ update_count p.first (hop_count p) → length p.fields ≡ hop_count p
    → own_updates (on_way us p (hop_count p)) ≡ us
unfolding own_updates on_way
at_end us p long counted =
    let n = hop_count p in
    ⊎_elim
    (λ e. (let count = count_updated p.first n e in
    let all : length us ≡ n = long ∙ count in
    ap (λ fs. take (update_count p.first n) fs) (cond-true (is_updated p.first) (take n us ++ drop n p.fields) p.fields e)
    ∙ (ap (λ m. take m (take n us ++ drop n p.fields)) count
    ∙ (ap (λ rest. take n (take n us ++ rest)) (drop_all n p.fields (omega (arith, counted)))
    ∙ (ap (take n) (append-nil (take n us) ∙ take_all n us (omega (arith, all))) ∙ take_all n us (omega (arith, all)))))))
    (λ e. (let count = count_others p.first n e in
    ap (λ m. take m (if is_updated p.first then take n us ++ drop n p.fields else p.fields)) count
    ∙ sym (nil us (long ∙ count))))
    (cases_Bool (is_updated p.first))
  where
    nil : {A : Type 0} (xs : List A) → length xs ≡ 0 → xs ≡ []
    nil [] e = refl
    nil (x ∷ xs) e = absurd (omega (arith, e))

-- the widths of updates
pub updates_wide : (t : Network) (p : Contents) (x : ℕ → HopName) → All (λ v. length v ≡ width_of p.first) (updates_of t p x)
unfolding updates_of
updates_wide t p x =
    All-from_get_or (λ v. length v ≡ width_of p.first) (updates_of t p x) []
    (λ j h. (let n = update_count p.first (hop_count p) in
    subst (λ v. length v ≡ width_of p.first)
    (sym (get_or-map-range_with_len (λ k. update_of t (x k) p k) 0 n j j [] (omega (arith, h, length-updates t p x)) (omega arith)))
    (length-update_of t (x j) p j)))
