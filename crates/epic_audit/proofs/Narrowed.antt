-- No source sends two packets with one timestamp, so that the first with its timestamp is the only one to look at.
use Rattle.std.proofs.Common.{◌≡◌, ℕ, Bool, true, false, ◌&&◌, List, [], Option, Some, None, find, slice_get, refl, ap, sym, ◌∙◌, subst}
use Rattle.std.specs.Prelude.{option_map, option_and_then, if◌then◌else◌, ◌==◌, nat_lt, bytes_eq, IsSome, take}
use Rattle.std.specs.Option.{option_map_or}
use Rattle.std.proofs.lemmas.Bool.{and_parts, both_ways}
use Rattle.std.proofs.lemmas.Option.{same_Some}
use Rattle.epic_num.specs.declared.hop.HopName.{HopName}
use Rattle.epic_num.specs.declared.name.HostId.{HostId}
use Rattle.epic_num.specs.declared.key_name.Holder.TheVariants.{As}
use Rattle.epic_num.specs.declared.key_name.KeyName.{KeyName}
use Rattle.epic_num.specs.Holders.{holders}
use Rattle.epic_num.specs.Levels.{is_tagged}
use Rattle.epic_num.specs.Chains.{Issue, name_of}
use Rattle.epic_num.specs.Same.{same_host}
use Rattle.epic_layout.specs.Contents.{Contents, hop_count}
use Rattle.epic_layout.specs.Layout.{parse}
use Rattle.epic_ledger.specs.History.{History, Emission, emission_at}
use Rattle.epic_ledger.specs.Facts.{Facts, Sent, as_send, facts_of, issues_in, packet_at, sent_issue, sent_name}
use Rattle.epic_ledger.specs.Lawful.{Fits, IsLawful}
use Rattle.epic_ledger.specs.Queries.{issue_of, is_send_of, send_of, send_hop, same_path}
use Rattle.epic_ledger.specs.declared.event.Event.{Event}
use Rattle.epic_ledger.specs.declared.event.Event.TheVariants as event
use Rattle.epic_topo.specs.Network.{Network}
use Rattle.epic_fields.specs.PacketTags.{field_name}
use Rattle.epic_audit.specs.Clauses.{is_sent_like, is_sent_as, sent_as}
use Rattle.epic_audit.specs.Kept.{AreApart}
use Rattle.epic_audit.specs.Searches.{first_sent, name_sent, sent_like, if_like, if_named, if_twin, if_alike, is_alike, unissued_lines, unsourced_lines, issued_lines, hop_found}
use Rattle.epic_audit.specs.Reveals.{reveal_step, least_step}
use Rattle.epic_audit.specs.Verdicts.{is_named, is_twin, twin_issue, broken_chain, source_of, twin_sent, hop_lines, hop_verdict}
use Rattle.epic_audit.proofs.Finds.{found, missing, found_only}
use Rattle.epic_audit.proofs.Lists.{answered}
use Rattle.epic_audit.proofs.Decided.{is_send_of-Decides}

module _ (p : Contents) (sends : List Sent) (apart : AreApart sends) (q : Sent → Bool) (implies : (s : Sent) → q s ≡ true → is_send_of p.src p.ts s ≡ true) where
  -- the first packet with a test that only p's source and timestamp meet
  pub narrowed : find q sends ≡ option_and_then (λ s. if q s then Some s else None) (send_of sends p.src p.ts)
  unfolding send_of
  narrowed = by (find (is_send_of p.src p.ts) sends) refl
    where
      none_of : (o : Option Sent) → find q sends ≡ o → ((s : Sent) (n : ℕ) → slice_get sends n ≡ Some s → q s ≡ true → ⊥) → find q sends ≡ None
      none_of None e fails = e
      none_of (Some s) e fails = let is = found q sends s e in absurd (fails s is.index is.there is.passes)

      only : (s : Sent) (b : Bool) → q s ≡ b → find (is_send_of p.src p.ts) sends ≡ Some s → find q sends ≡ (if b then Some s else None)
      only s true e k =
          let is = found (is_send_of p.src p.ts) sends s k in
          let v = (is_send_of-Decides p s).0 is.passes in
          found_only q sends is.index s is.there e
          (λ m r at same.
          let u = (is_send_of-Decides p r).0 (implies r same) in
          apart m is.index r s at is.there (u.0 ∙ sym v.0) (u.1 ∙ sym v.1))
      only s false e k =
          let is = found (is_send_of p.src p.ts) sends s k in
          let v = (is_send_of-Decides p s).0 is.passes in
          none_of (find q sends) refl
          (λ r m at same.
          let u = (is_send_of-Decides p r).0 (implies r same) in
          let one : m ≡ is.index = apart m is.index r s at is.there (u.0 ∙ sym v.0) (u.1 ∙ sym v.1) in
          let equal : r ≡ s = same_Some r s (sym at ∙ (ap (slice_get sends) one ∙ is.there)) in
          both_ways (q s) e (ap q (sym equal) ∙ same))

      by : (o : Option Sent) → find (is_send_of p.src p.ts) sends ≡ o → find q sends ≡ option_and_then (λ s. if q s then Some s else None) o
      by None k =
          none_of (find q sends) refl
          (λ r m at same. both_ways (is_send_of p.src p.ts r) (missing (is_send_of p.src p.ts) sends k m r at) (implies r same))
      by (Some s) k = only s (q s) refl k

-- ---- the first packet with p's source and timestamp

sent_fits : (es : List Emission) (issues : List Issue) (e : Event) (s : Sent) → Fits es issues e → as_send es e ≡ Some s
    → (IsSome (emission_at es s.emission)) × (s.packet ≡ packet_at es s.emission)
unfolding as_send
sent_fits es issues (event.Issue step number name parent) s h is = absurd (cc)
sent_fits es issues (event.Fetch step source owner epoch) s h is = absurd (cc)
sent_fits es issues (event.Send step emission segments) s h is =
    let number : emission ≡ s.emission = ap (λ (r : Sent). r.emission) (same_Some _ s is) in
    let packet : packet_at es emission ≡ s.packet = ap (λ (r : Sent). r.packet) (same_Some _ s is) in
    (subst (λ n. IsSome (emission_at es n)) number h.there, sym packet ∙ ap (packet_at es) number)
sent_fits es issues (event.Pass step a hop generation emission) s h is = absurd (cc)
sent_fits es issues (event.Arrive step host src ts hops checked) s h is = absurd (cc)
sent_fits es issues (event.Reveal step holder) s h is = absurd (cc)
sent_fits es issues (event.Roll step a generation) s h is = absurd (cc)

abbrev pub said : Emission → Contents
said e = parse e.bytes

-- what an emission that is there says
said_there : (es : List Emission) (n : ℕ) → IsSome (emission_at es n) → option_map said (emission_at es n) ≡ Some (packet_at es n)
unfolding packet_at
said_there es n h =
    elim (emission_at es n) as (λ o. IsSome o → option_map said o ≡ Some (parse (option_map_or (λ e. e.bytes) o []))) [
      | None ↦ λ s. absurd (cc)
      | Some e ↦ λ s. refl
    ] h

pub first_said : (h : History) (p : Contents) (s : Sent) → IsLawful h → send_of (facts_of h).sends p.src p.ts ≡ Some s
    → option_map said (emission_at h.emissions s.emission) ≡ Some s.packet
unfolding facts_of send_of
first_said h p s lawful e =
    let is = found (is_send_of p.src p.ts) (facts_of h).sends s e in
    let a = answered (as_send h.emissions) h.events is.index s is.there in
    let fit = sent_fits h.emissions (issues_in (take a.index h.events)) a.element s (lawful.fit a.index a.element a.there) a.answer in
    said_there h.emissions s.emission fit.0 ∙ ap Some (sym fit.1)

abbrev pub pair : Sent → ℕ × Contents
pair s = (s.emission, s.packet)

pub first_is : (h : History) (p : Contents) (n : ℕ) → IsLawful h → option_map (λ s. s.emission) (send_of (facts_of h).sends p.src p.ts) ≡ Some n
    → option_map (λ q. (n, q)) (option_map said (emission_at h.emissions n)) ≡ first_sent (facts_of h) p
unfolding first_sent
first_is h p n lawful e = by (send_of (facts_of h).sends p.src p.ts) refl e
  where
    by : (o : Option Sent) → send_of (facts_of h).sends p.src p.ts ≡ o → option_map (λ s. s.emission) o ≡ Some n
        → option_map (λ q. (n, q)) (option_map said (emission_at h.emissions n)) ≡ option_map pair o
    by None k s = absurd (cc)
    by (Some r) k s =
        let number : r.emission ≡ n = same_Some r.emission n s in
        subst (λ m. option_map (λ q. (m, q)) (option_map said (emission_at h.emissions m)) ≡ Some (pair r)) number
        (ap (option_map (λ q. (r.emission, q))) (first_said h p r lawful k))

-- with the source and timestamp that were read
pub first_read : (h : History) (p : Contents) (src : HostId) (ts n : ℕ) (r : Option Contents) → IsLawful h → src ≡ p.src → ts ≡ p.ts
    → Some n ≡ option_map (λ s. s.emission) (send_of (facts_of h).sends src ts) → r ≡ option_map said (emission_at h.emissions n)
    → option_map (λ q. (n, q)) r ≡ first_sent (facts_of h) p
first_read h p src ts n r lawful a b e k =
    ap (option_map (λ q. (n, q))) k
    ∙ first_is h p n lawful (sym (e ∙ λ i. option_map (λ (s : Sent). s.emission) (send_of (facts_of h).sends (a i) (b i))))

pub names_are : (f : Facts) (p : Contents) (j : ℕ) → option_and_then (name_of f.issues) (send_hop f p.src p.ts j) ≡ name_sent f p j
unfolding send_hop name_sent sent_name
names_are f p j = by (send_of f.sends p.src p.ts)
  where
    inside : (s : Sent) (b : Bool)
        → option_and_then (name_of f.issues) (if b then Some (sent_issue f.issues s j) else None) ≡ (if b then name_of f.issues (sent_issue f.issues s j) else None)
    inside s true = refl
    inside s false = refl

    by : (o : Option Sent)
        → option_and_then (name_of f.issues) (option_and_then (λ s. if nat_lt j (hop_count s.packet) then Some (sent_issue f.issues s j) else None) o)
        ≡ option_and_then (λ s. if nat_lt j (hop_count s.packet) then name_of f.issues (sent_issue f.issues s j) else None) o
    by None = refl
    by (Some s) = inside s (nat_lt j (hop_count s.packet))

pub names_read : (f : Facts) (p : Contents) (src : HostId) (ts j : ℕ) (r : Option ℕ) → src ≡ p.src → ts ≡ p.ts → r ≡ send_hop f src ts j
    → option_and_then (name_of f.issues) r ≡ name_sent f p j
names_read f p src ts j r a b e =
    ap (option_and_then (name_of f.issues)) (e ∙ λ i. send_hop f (a i) (b i) j) ∙ names_are f p j

-- ---- what is found is what the verdicts ask for

-- the first packet of p's source and timestamp has them
first_passes : (f : Facts) (p : Contents) (s : Sent) → send_of f.sends p.src p.ts ≡ Some s → is_send_of p.src p.ts s ≡ true
unfolding send_of
first_passes f p s e = (found (is_send_of p.src p.ts) f.sends s e).passes

module _ (f : Facts) (p : Contents) (apart : AreApart f.sends) where
  like_implies : (s : Sent) → is_sent_like p s ≡ true → is_send_of p.src p.ts s ≡ true
  unfolding is_sent_like
  like_implies s e = (and_parts (is_send_of p.src p.ts s) (s.packet.first == p.first) e).0

  like_is : (s : Sent) → is_send_of p.src p.ts s ≡ true → is_sent_like p s ≡ (s.packet.first == p.first)
  unfolding is_sent_like
  like_is s e = ap (λ (b : Bool). b && (s.packet.first == p.first)) e

  pub source_is : (x : HopName) (j : ℕ) → if_named x (sent_like f p) (name_sent f p j) ≡ option_map (λ s. s.emission) (source_of f x p j)
  unfolding sent_like first_sent name_sent source_of
  source_is x j =
      by (send_of f.sends p.src p.ts) refl
      ∙ ap (option_map (λ s. s.emission))
      (sym (narrowed p f.sends apart (λ s. is_sent_like p s && is_named x (sent_name f.issues s j))
      (λ s e. like_implies s (and_parts (is_sent_like p s) (is_named x (sent_name f.issues s j)) e).0)))
    where
      inside : (s : Sent) (a b : Bool)
          → if_named x (if a then Some s.emission else None) (sent_name f.issues s j) ≡ option_map (λ r. r.emission) (if a && is_named x (sent_name f.issues s j) then Some s else None)
      inside s true b = outcome (is_named x (sent_name f.issues s j))
        where
          outcome : (c : Bool) → (if c then Some s.emission else None) ≡ option_map (λ r. r.emission) (if c then Some s else None)
          outcome true = refl
          outcome false = refl
      inside s false b = refl

      by : (o : Option Sent) → send_of f.sends p.src p.ts ≡ o
          → if_named x (if_like p (option_map pair o)) (option_and_then (λ s. sent_name f.issues s j) o)
          ≡ option_map (λ s. s.emission) (option_and_then (λ s. if is_sent_like p s && is_named x (sent_name f.issues s j) then Some s else None) o)
      by None e = refl
      by (Some s) e =
          inside s (s.packet.first == p.first) true
          ∙ ap (λ (b : Bool). option_map (λ (r : Sent). r.emission) (if b && is_named x (sent_name f.issues s j) then Some s else None)) (sym (like_is s (first_passes f p s e)))

  pub twin_is : (t : Network) (x : HopName) (j : ℕ) → if_twin t x (sent_like f p) (name_sent f p j) ≡ twin_sent t f x p j
  unfolding sent_like first_sent name_sent twin_sent
  twin_is t x j =
      by (send_of f.sends p.src p.ts) refl
      ∙ ap (λ (o : Option Sent). option_and_then (λ y. if is_twin t x y then Some y else None) (option_and_then (λ s. sent_name f.issues s j) o))
      (sym (narrowed p f.sends apart (is_sent_like p) like_implies))
    where
      inside : (s : Sent) (a : Bool) (n : Option HopName)
          → if_twin t x (if a then Some s.emission else None) n
          ≡ option_and_then (λ y. if is_twin t x y then Some y else None) (option_and_then (λ (r : Sent). n) (if a then Some s else None))
      inside s true None = refl
      inside s true (Some y) = refl
      inside s false n = refl

      named : (s : Sent) (a : Bool)
          → option_and_then (λ (r : Sent). sent_name f.issues s j) (if a then Some s else None) ≡ option_and_then (λ r. sent_name f.issues r j) (if a then Some s else None)
      named s true = refl
      named s false = refl

      by : (o : Option Sent) → send_of f.sends p.src p.ts ≡ o
          → if_twin t x (if_like p (option_map pair o)) (option_and_then (λ s. sent_name f.issues s j) o)
          ≡ option_and_then (λ y. if is_twin t x y then Some y else None) (option_and_then (λ s. sent_name f.issues s j) (option_and_then (λ s. if is_sent_like p s then Some s else None) o))
      by None e = refl
      by (Some s) e =
          inside s (s.packet.first == p.first) (sent_name f.issues s j)
          ∙ (ap (option_and_then (λ y. if is_twin t x y then Some y else None)) (named s (s.packet.first == p.first))
          ∙ ap (λ (b : Bool). option_and_then (λ y. if is_twin t x y then Some y else None) (option_and_then (λ r. sent_name f.issues r j) (if b then Some s else None)))
          (sym (like_is s (first_passes f p s e))))

  as_implies : (s : Sent) → is_sent_as p s ≡ true → is_send_of p.src p.ts s ≡ true
  unfolding is_sent_as
  as_implies s e =
      let a = and_parts (is_sent_like p s && same_host s.packet.dst p.dst && same_path s.packet.route p.route) (bytes_eq s.packet.payload p.payload) e in
      let b = and_parts (is_sent_like p s && same_host s.packet.dst p.dst) (same_path s.packet.route p.route) a.0 in
      let c = and_parts (is_sent_like p s) (same_host s.packet.dst p.dst) b.0 in
      like_implies s c.0

  as_is : (s : Sent) → is_send_of p.src p.ts s ≡ true → is_sent_as p s ≡ is_alike p s.packet
  unfolding is_sent_as is_alike
  as_is s e = ap (λ (b : Bool). b && same_host s.packet.dst p.dst && same_path s.packet.route p.route && bytes_eq s.packet.payload p.payload) (like_is s e)

  abbrev count : Sent → ℕ × ℕ
  count s = (s.emission, hop_count s.packet)

  pub sent_is : if_alike p (first_sent f p) ≡ option_map (λ s. (s.emission, hop_count s.packet)) (sent_as f.sends p)
  unfolding first_sent sent_as
  sent_is =
      by (send_of f.sends p.src p.ts) refl ∙ ap (option_map count) (sym (narrowed p f.sends apart (is_sent_as p) as_implies))
    where
      inside : (s : Sent) (a : Bool) → (if a then Some (count s) else None) ≡ option_map count (if a then Some s else None)
      inside s true = refl
      inside s false = refl

      by : (o : Option Sent) → send_of f.sends p.src p.ts ≡ o
          → if_alike p (option_map pair o) ≡ option_map count (option_and_then (λ s. if is_sent_as p s then Some s else None) o)
      by None e = refl
      by (Some s) e =
          inside s (is_alike p s.packet) ∙ ap (λ (b : Bool). option_map count (if b then Some s else None)) (sym (as_is s (first_passes f p s e)))

-- ---- the verdict of a hop by what was found

lines_are : (x : HopName) (j : ℕ) (key : KeyName) (issue step : Option ℕ) (twin : Option HopName) (c : Option (HopName × HopName)) (tagged : Bool)
    (send opened : Option ℕ) (other : Option HopName)
    → issued_lines issue (unissued_lines x j step twin) c tagged send (unsourced_lines x j key opened other)
    ≡ hop_lines x j key issue step twin c tagged send opened other
lines_are x j key None (Some step) twin c tagged send opened other = refl
lines_are x j key None None (Some twin) c tagged send opened other = refl
lines_are x j key None None None c tagged send opened other = refl
lines_are x j key (Some issue) step twin (Some c) tagged send opened other = refl
lines_are x j key (Some issue) step twin None false send opened other = refl
lines_are x j key (Some issue) step twin None true (Some send) opened other = refl
lines_are x j key (Some issue) step twin None true None (Some opened) other = refl
lines_are x j key (Some issue) step twin None true None None (Some other) = refl
lines_are x j key (Some issue) step twin None true None None None = refl

pub hop_found_is : (t : Network) (f : Facts) (x : HopName) (p : Contents) (j : ℕ) → AreApart f.sends → hop_found t f x p j ≡ hop_verdict t f x p j
unfolding hop_found
hop_found_is t f x p j apart =
    let key = field_name t x.asn p in
    let opened = least_step f.reveals (holders key) in
    lines_are x j key (issue_of f.issues x) (reveal_step f.reveals (As x.asn)) (twin_issue t f x p) (broken_chain f x p j) (is_tagged p.first)
    (if_named x (sent_like f p) (name_sent f p j)) opened (if_twin t x (sent_like f p) (name_sent f p j))
    ∙ λ i. hop_lines x j key (issue_of f.issues x) (reveal_step f.reveals (As x.asn)) (twin_issue t f x p) (broken_chain f x p j) (is_tagged p.first)
    (source_is f p apart x j i) opened (twin_is f p apart t x j i)
