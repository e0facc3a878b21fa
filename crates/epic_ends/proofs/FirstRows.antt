-- The first row of tables that are gone through row by row.
use Rattle.std.proofs.Common.{◌≡◌, ℕ, ◌+◌, ◌<◌, ◌≤◌, Bool, true, false, List, [], ◌∷◌, ◌++◌, length, get_or, take, drop, map, Option, None, Some, refl, ap, sym, ◌∙◌, arith}
use Rattle.std.specs.Prelude.{if◌then◌else◌}
use Rattle.std.specs.List.{range_with_len}
use Rattle.std.proofs.lemmas.Bool.{cond-true, cond-false}
use Rattle.std.proofs.lemmas.List.{get_or_default, map-append, take_more, take-append-drop}
use Rattle.std.proofs.lemmas.List.FromFn.{take-map-range_with_len, map-range_with_len_more}
use Rattle.epic_num.specs.declared.name.AsId.{AsId}
use Rattle.epic_num.specs.declared.segment.SegHop.{SegHop}
use Rattle.epic_num.specs.declared.send_error.SendError.{SendError}
use Rattle.epic_num.specs.Tables.{first_row}
use Rattle.epic_num.proofs.TableLaws.{first_row-behind, first_row-before}
use Rattle.epic_num.specs.declared.segment.Leg.{Leg}
use Rattle.epic_num.specs.declared.send_error.SendError.TheVariants.{Expired}
use Rattle.epic_num.specs.declared.name.HostId.{HostId}
use Rattle.epic_num.specs.Levels.{is_tagged}
use Rattle.epic_num.specs.Moments.{is_expired}
use Rattle.epic_num.specs.Paths.{path_hops}
use Rattle.epic_ends.specs.Admitting.{end_rows, expiry_rows, key_owners, key_rows, send_rows}
use Rattle.epic_ends.specs.Filling.{expired_at, expired_rows}
use Rattle.epic_ends.specs.Sending.{hop_of_path, no_hop}

-- one row more, after rows that tell nothing
pub passed_one : {X : Type 0} (rows : List (Bool × X)) (row : Bool × X) → first_row rows ≡ None → row.0 ≡ false → first_row (rows ++ row ∷ []) ≡ None
passed_one rows row none e = first_row-behind rows (row ∷ []) none ∙ cond-false row.0 (Some row.1) None e

pub told_one : {X : Type 0} (rows : List (Bool × X)) (row : Bool × X) → first_row rows ≡ None → row.0 ≡ true → first_row (rows ++ row ∷ []) ≡ Some row.1
told_one rows row none e = first_row-behind rows (row ∷ []) none ∙ cond-true row.0 (Some row.1) None e

-- ---- rows by an index

pub passed_at : {X : Type 0} (f : ℕ → Bool × X) (j : ℕ) → first_row (map f (range_with_len 0 j)) ≡ None → (f j).0 ≡ false
    → first_row (map f (range_with_len 0 (j + 1))) ≡ None
passed_at f j none e = ap first_row (map-range_with_len_more f 0 j j (omega arith)) ∙ passed_one (map f (range_with_len 0 j)) (f j) none e

pub told_at : {X : Type 0} (f : ℕ → Bool × X) (n j : ℕ) → j < n → first_row (map f (range_with_len 0 j)) ≡ None → (f j).0 ≡ true
    → first_row (map f (range_with_len 0 n)) ≡ Some (f j).1
told_at f n j h none e =
    let front : take (j + 1) (map f (range_with_len 0 n)) ≡ map f (range_with_len 0 j) ++ f j ∷ [] =
    take-map-range_with_len f 0 n (j + 1) (omega arith) ∙ map-range_with_len_more f 0 j j (omega arith) in
    ap first_row (sym (take-append-drop (j + 1) (map f (range_with_len 0 n))))
    ∙ first_row-before (take (j + 1) (map f (range_with_len 0 n))) (drop (j + 1) (map f (range_with_len 0 n))) (f j).1
    (ap first_row front ∙ told_one (map f (range_with_len 0 j)) (f j) none e)

-- hop j is the first whose validity is over, or is valid as are those before it
expired_as : (hops : List SegHop) (now j : ℕ) (d : SegHop) (test : Bool) → j < length hops
    → test ≡ is_expired (get_or hops j d).body.ts_path (get_or hops j d).body.exp now → (expired_at hops now j).0 ≡ test
unfolding expired_at
expired_as hops now j d test h is =
    ap (λ (s : SegHop). is_expired s.body.ts_path s.body.exp now) (get_or_default hops j no_hop d h) ∙ sym is

expired_tells : (hops : List SegHop) (now j : ℕ) → (expired_at hops now j).1 ≡ Expired j
unfolding expired_at
expired_tells hops now j = refl

pub expired_told : (hops : List SegHop) (now j : ℕ) (d : SegHop) (test : Bool) → j < length hops
    → first_row (map (expired_at hops now) (range_with_len 0 j)) ≡ None
    → test ≡ is_expired (get_or hops j d).body.ts_path (get_or hops j d).body.exp now → test ≡ true
    → Some (Expired j) ≡ first_row (expired_rows hops now)
unfolding expired_rows
expired_told hops now j d test h none is e =
    sym (told_at (expired_at hops now) (length hops) j h none (expired_as hops now j d test h is ∙ e) ∙ ap Some (expired_tells hops now j))

pub valid_more : (hops : List SegHop) (now j : ℕ) (d : SegHop) (test : Bool) → j < length hops
    → first_row (map (expired_at hops now) (range_with_len 0 j)) ≡ None
    → test ≡ is_expired (get_or hops j d).body.ts_path (get_or hops j d).body.exp now → test ≡ false
    → first_row (map (expired_at hops now) (range_with_len 0 (j + 1))) ≡ None
valid_more hops now j d test h none is e = passed_at (expired_at hops now) j none (expired_as hops now j d test h is ∙ e)

pub all_valid : (hops : List SegHop) (now j : ℕ) → length hops ≤ j → j ≤ length hops
    → first_row (map (expired_at hops now) (range_with_len 0 j)) ≡ None → None ≡ first_row (expired_rows hops now)
unfolding expired_rows
all_valid hops now j past within none =
    let all : j ≡ length hops = omega (arith, past, within) in
    sym none ∙ ap (λ n. first_row (map (expired_at hops now) (range_with_len 0 n))) all

pub expired_in : (legs : List Leg) (now : ℕ) → expired_rows (path_hops legs) now ≡ expiry_rows legs now
unfolding expired_rows expired_at expiry_rows hop_of_path
expired_in legs now = refl

-- ---- rows of keys, by the hops whose ASes own them

abbrev owners : List SegHop → List AsId
owners hops = map (λ h. h.asn) hops

pub no_keys : (known : AsId → Bool) (epoch : ℕ) → first_row (key_rows known epoch []) ≡ None
unfolding key_rows
no_keys known epoch = refl

pub keys-append : (known : AsId → Bool) (epoch : ℕ) (xs ys : List AsId) → key_rows known epoch (xs ++ ys) ≡ key_rows known epoch xs ++ key_rows known epoch ys
unfolding key_rows
keys-append known epoch xs ys = map-append _ xs ys

pub one_key : (known : AsId → Bool) (epoch : ℕ) (hops : List SegHop) (j : ℕ) (d : SegHop) → j < length hops
    → first_row (key_rows known epoch (map (λ h. h.asn) (take j hops))) ≡ None
    → first_row (key_rows known epoch (map (λ h. h.asn) (take (j + 1) hops))) ≡ first_row (key_rows known epoch ((get_or hops j d).asn ∷ []))
one_key known epoch hops j d h none =
    let here = (get_or hops j d).asn ∷ [] in
    ap (λ hs. first_row (key_rows known epoch (owners hs))) (take_more hops j d h)
    ∙ (ap (λ owned. first_row (key_rows known epoch owned)) (map-append (λ (s : SegHop). s.asn) (take j hops) (get_or hops j d ∷ []))
    ∙ (ap first_row (keys-append known epoch (owners (take j hops)) here)
    ∙ first_row-behind (key_rows known epoch (owners (take j hops))) (key_rows known epoch here) none))

pub key_told : (known : AsId → Bool) (epoch : ℕ) (hops : List SegHop) (j : ℕ) (d : SegHop) (told : SendError) → j < length hops
    → first_row (key_rows known epoch (map (λ h. h.asn) (take j hops))) ≡ None
    → first_row (key_rows known epoch ((get_or hops j d).asn ∷ [])) ≡ Some told
    → first_row (key_rows known epoch (map (λ h. h.asn) hops)) ≡ Some told
key_told known epoch hops j d told h none here =
    ap (λ hs. first_row (key_rows known epoch (owners hs))) (sym (take-append-drop (j + 1) hops))
    ∙ (ap (λ owned. first_row (key_rows known epoch owned)) (map-append (λ (s : SegHop). s.asn) (take (j + 1) hops) (drop (j + 1) hops))
    ∙ (ap first_row (keys-append known epoch (owners (take (j + 1) hops)) (owners (drop (j + 1) hops)))
    ∙ first_row-before (key_rows known epoch (owners (take (j + 1) hops))) (key_rows known epoch (owners (drop (j + 1) hops))) told
    (one_key known epoch hops j d h none ∙ here)))

pub keys_before : (known : AsId → Bool) (epoch : ℕ) (xs ys : List AsId) (told : SendError) → first_row (key_rows known epoch xs) ≡ Some told
    → Some told ≡ first_row (key_rows known epoch (xs ++ ys))
keys_before known epoch xs ys told is =
    sym (ap first_row (keys-append known epoch xs ys) ∙ first_row-before (key_rows known epoch xs) (key_rows known epoch ys) told is)

pub keys_behind : (known : AsId → Bool) (epoch : ℕ) (xs ys : List AsId) → first_row (key_rows known epoch xs) ≡ None
    → first_row (key_rows known epoch ys) ≡ first_row (key_rows known epoch (xs ++ ys))
keys_behind known epoch xs ys none =
    sym (ap first_row (keys-append known epoch xs ys) ∙ first_row-behind (key_rows known epoch xs) (key_rows known epoch ys) none)

-- ---- all rows of a send

module _ (known : AsId → Bool) (epoch : ℕ) (legs : List Leg) (first : ℕ) (src dst : HostId) (payload : List ℕ) (now : ℕ) (hops : List SegHop)
    (hops_are : hops ≡ path_hops legs) (ends : first_row (end_rows legs src dst payload) ≡ None) where
  expiry_is : first_row (expiry_rows legs now) ≡ first_row (expired_rows hops now)
  expiry_is = ap first_row (sym (expired_in legs now)) ∙ ap (λ hs. first_row (expired_rows hs now)) (sym hops_are)

  pub expiry_told : (told : SendError) → first_row (expired_rows hops now) ≡ Some told → Some told ≡ first_row (send_rows known epoch legs first src dst payload now)
  unfolding send_rows
  expiry_told told is =
      let keys = if is_tagged first then key_rows known epoch (key_owners legs dst) else [] in
      sym (first_row-behind (end_rows legs src dst payload) (expiry_rows legs now ++ keys) ends
      ∙ first_row-before (expiry_rows legs now) keys told (expiry_is ∙ is))

  pub keys_decide : (result : Option SendError) → first_row (expired_rows hops now) ≡ None → is_tagged first ≡ true
      → result ≡ first_row (key_rows known epoch (map (λ h. h.asn) hops ++ dst.asn ∷ [])) → result ≡ first_row (send_rows known epoch legs first src dst payload now)
  unfolding send_rows key_owners
  keys_decide result valid tagged is =
      let all = key_rows known epoch (key_owners legs dst) in
      let keys = if is_tagged first then all else [] in
      is ∙ sym (first_row-behind (end_rows legs src dst payload) (expiry_rows legs now ++ keys) ends
      ∙ (first_row-behind (expiry_rows legs now) keys (expiry_is ∙ valid)
      ∙ (ap first_row (cond-true (is_tagged first) all [] tagged)
      ∙ ap (λ hs. first_row (key_rows known epoch (owners hs ++ dst.asn ∷ []))) (sym hops_are))))

  pub none_refused : first_row (expired_rows hops now) ≡ None → is_tagged first ≡ false → None ≡ first_row (send_rows known epoch legs first src dst payload now)
  unfolding send_rows
  none_refused valid untagged =
      let all = key_rows known epoch (key_owners legs dst) in
      let keys = if is_tagged first then all else [] in
      sym (first_row-behind (end_rows legs src dst payload) (expiry_rows legs now ++ keys) ends
      ∙ (first_row-behind (expiry_rows legs now) keys (expiry_is ∙ valid)
      ∙ ap first_row (cond-false (is_tagged first) all [] untagged)))
