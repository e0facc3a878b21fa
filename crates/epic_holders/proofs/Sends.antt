-- What a packet's source sent with its timestamp: no source sends two packets with one, so that the first is the only one.
use Rattle.std.proofs.Common.{◌≡◌, ℕ, Bool, true, false, ◌&&◌, List, [], Option, Some, None, find, slice_get, refl, ap, sym, ◌∙◌, subst}
use Rattle.std.specs.Prelude.{option_map, option_and_then, if◌then◌else◌, ◌==◌, nat_lt, bytes_eq, IsSome, IfSome, take}
use Rattle.std.specs.Option.{option_map_or}
use Rattle.std.proofs.lemmas.Bool.{and_parts, both_ways}
use Rattle.std.proofs.lemmas.Option.{same_Some}
use Rattle.epic_num.specs.declared.hop.HopName.{HopName}
use Rattle.epic_num.specs.declared.name.HostId.{HostId}
use Rattle.epic_num.specs.Chains.{Issue, name_of}
use Rattle.epic_num.specs.Same.{same_name}
use Rattle.epic_layout.specs.Contents.{Contents, hop_count}
use Rattle.epic_layout.specs.Layout.{parse}
use Rattle.epic_topo.specs.Network.{Network, has}
use Rattle.epic_fields.specs.Issues.{IssuesKept}
use Rattle.epic_fields.specs.Tags.{sigma}
use Rattle.epic_ledger.specs.History.{History, Emission, emission_at}
use Rattle.epic_ledger.specs.Facts.{Facts, Sent, as_send, facts_of, issues_in, packet_at, sent_issue, sent_name}
use Rattle.epic_ledger.specs.Lawful.{Fits, IsLawful}
use Rattle.epic_ledger.specs.Queries.{issue_of, is_send_of, send_of, send_hop}
use Rattle.epic_ledger.specs.declared.event.Event.{Event}
use Rattle.epic_ledger.specs.declared.event.Event.TheVariants as event
use Rattle.epic_audit.specs.Clauses.{is_sent_like}
use Rattle.epic_audit.specs.Kept.{AreApart}
use Rattle.epic_audit.specs.Verdicts.{is_named, source_of}
use Rattle.epic_audit.proofs.Decided.{is_send_of-Decides}
use Rattle.epic_audit.proofs.Finds.{found, missing, found_only}
use Rattle.epic_audit.proofs.Lists.{answered}
use Rattle.epic_audit.proofs.Queries.{name_there}
use Rattle.epic_holders.specs.Found.{if_like, sent_like, name_sent, with_name, sent_hop, made_by, other_of, maker_found}
use Rattle.epic_holders.specs.Makers.{least_opened, other_sent, maker_lines, maker_verdict}

-- ---- what is read of it

sent_fits : (es : List Emission) (issues : List Issue) (e : Event) (s : Sent) → Fits es issues e → as_send es e ≡ Some s
    → (IsSome (emission_at es s.emission)) × (s.packet ≡ packet_at es s.emission)
unfolding as_send
sent_fits es issues (event.Issue step number name parent) s h is = absurd (cc)
sent_fits es issues (event.Fetch step source owner epoch) s h is = absurd (cc)
sent_fits es issues (event.Send step emission segments) s h is =
    let number : emission ≡ s.emission = ap (λ (r : Sent). r.emission) (same_Some _ s is) in
    let packet : packet_at es emission ≡ s.packet = ap (λ (r : Sent). r.packet) (same_Some _ s is) in
    (subst (λ n. IsSome (emission_at es n)) number h.there, sym packet ∙ ap (packet_at es) number)
sent_fits es issues (event.Pass step a hop generation emission) s h is = absurd (cc)
sent_fits es issues (event.Arrive step host src ts hops checked) s h is = absurd (cc)
sent_fits es issues (event.Reveal step holder) s h is = absurd (cc)
sent_fits es issues (event.Roll step a generation) s h is = absurd (cc)

abbrev pub said : Emission → Contents
said e = parse e.bytes

said_there : (es : List Emission) (n : ℕ) → IsSome (emission_at es n) → option_map said (emission_at es n) ≡ Some (packet_at es n)
unfolding packet_at
said_there es n h =
    elim (emission_at es n) as (λ o. IsSome o → option_map said o ≡ Some (parse (option_map_or (λ e. e.bytes) o []))) [
      | None ↦ λ s. absurd (cc)
      | Some e ↦ λ s. refl
    ] h

first_said : (h : History) (p : Contents) (s : Sent) → IsLawful h → send_of (facts_of h).sends p.src p.ts ≡ Some s
    → option_map said (emission_at h.emissions s.emission) ≡ Some s.packet
unfolding facts_of send_of
first_said h p s lawful e =
    let is = found (is_send_of p.src p.ts) (facts_of h).sends s e in
    let a = answered (as_send h.emissions) h.events is.index s is.there in
    let fit = sent_fits h.emissions (issues_in (take a.index h.events)) a.element s (lawful.fit a.index a.element a.there) a.answer in
    said_there h.emissions s.emission fit.0 ∙ ap Some (sym fit.1)

like_first : (h : History) (p : Contents) (n : ℕ) → IsLawful h → option_map (λ s. s.emission) (send_of (facts_of h).sends p.src p.ts) ≡ Some n
    → if_like p n (option_map said (emission_at h.emissions n)) ≡ sent_like (facts_of h) p
unfolding sent_like
like_first h p n lawful e = by (send_of (facts_of h).sends p.src p.ts) refl e
  where
    by : (o : Option Sent) → send_of (facts_of h).sends p.src p.ts ≡ o → option_map (λ s. s.emission) o ≡ Some n
        → if_like p n (option_map said (emission_at h.emissions n)) ≡ option_and_then (λ s. if s.packet.first == p.first then Some s.emission else None) o
    by None k s = absurd (cc)
    by (Some r) k s =
        let number : r.emission ≡ n = same_Some r.emission n s in
        subst (λ m. if_like p m (option_map said (emission_at h.emissions m)) ≡ (if r.packet.first == p.first then Some r.emission else None)) number
        (ap (if_like p r.emission) (first_said h p r lawful k))

-- with the source and timestamp that were read
pub like_read : (h : History) (p : Contents) (src : HostId) (ts n : ℕ) (r : Option Contents) → IsLawful h → src ≡ p.src → ts ≡ p.ts
    → Some n ≡ option_map (λ s. s.emission) (send_of (facts_of h).sends src ts) → r ≡ option_map said (emission_at h.emissions n)
    → if_like p n r ≡ sent_like (facts_of h) p
like_read h p src ts n r lawful a b e k =
    ap (if_like p n) k
    ∙ like_first h p n lawful (sym (e ∙ λ i. option_map (λ (s : Sent). s.emission) (send_of (facts_of h).sends (a i) (b i))))

pub like_none : (f : Facts) (p : Contents) (src : HostId) (ts : ℕ) → src ≡ p.src → ts ≡ p.ts
    → None ≡ option_map (λ s. s.emission) (send_of f.sends src ts) → None ≡ sent_like f p
unfolding sent_like
like_none f p src ts a b e = by (send_of f.sends p.src p.ts) (e ∙ λ i. option_map (λ (s : Sent). s.emission) (send_of f.sends (a i) (b i)))
  where
    by : (o : Option Sent) → None ≡ option_map (λ s. s.emission) o → None ≡ option_and_then (λ s. if s.packet.first == p.first then Some s.emission else None) o
    by None k = refl
    by (Some s) k = absurd (cc)

names_are : (f : Facts) (p : Contents) (j : ℕ) → option_and_then (name_of f.issues) (send_hop f p.src p.ts j) ≡ name_sent f p j
unfolding send_hop name_sent sent_name
names_are f p j = by (send_of f.sends p.src p.ts)
  where
    inside : (s : Sent) (b : Bool)
        → option_and_then (name_of f.issues) (if b then Some (sent_issue f.issues s j) else None) ≡ (if b then name_of f.issues (sent_issue f.issues s j) else None)
    inside s true = refl
    inside s false = refl

    by : (o : Option Sent)
        → option_and_then (name_of f.issues) (option_and_then (λ s. if nat_lt j (hop_count s.packet) then Some (sent_issue f.issues s j) else None) o)
        ≡ option_and_then (λ s. if nat_lt j (hop_count s.packet) then name_of f.issues (sent_issue f.issues s j) else None) o
    by None = refl
    by (Some s) = inside s (nat_lt j (hop_count s.packet))

pub names_read : (f : Facts) (p : Contents) (src : HostId) (ts j : ℕ) (r : Option ℕ) → src ≡ p.src → ts ≡ p.ts → r ≡ send_hop f src ts j
    → option_and_then (name_of f.issues) r ≡ name_sent f p j
names_read f p src ts j r a b e =
    ap (option_and_then (name_of f.issues)) (e ∙ λ i. send_hop f (a i) (b i) j) ∙ names_are f p j

-- ---- its names

pub sent_there : (f : Facts) (s : Sent) (j : ℕ) (x : HopName) → sent_name f.issues s j ≡ Some x → (n : ℕ) × (name_of f.issues n ≡ Some x)
unfolding sent_name
sent_there f s j x e = by (nat_lt j (hop_count s.packet)) e
  where
    by : (b : Bool) → (if b then name_of f.issues (sent_issue f.issues s j) else None) ≡ Some x → (n : ℕ) × (name_of f.issues n ≡ Some x)
    by true k = (sent_issue f.issues s j, k)
    by false k = absurd (cc)

pub known_name : (t : Network) (issues : List Issue) (n : ℕ) (x : HopName) → IssuesKept t issues → name_of issues n ≡ Some x → has t x.asn ≡ true
known_name t issues n x kept e =
    let there = name_there issues n x e in
    subst (λ (y : HopName). has t y.asn ≡ true) there.2 (kept n there.0 there.1).known

-- the AS of its hop is of the topology
pub known_hop : (t : Network) (f : Facts) (p : Contents) (j : ℕ) (r : Option (ℕ × HopName)) → IssuesKept t f.issues → r ≡ sent_hop f p j
    → IfSome r (λ s. has t s.1.asn ≡ true)
unfolding sent_hop name_sent
known_hop t f p j r kept e = subst (λ o. IfSome o (λ s. has t s.1.asn ≡ true)) (sym e) (like (sent_like f p))
  where
    named : (emission : ℕ) (s : Sent) (o : Option HopName) → sent_name f.issues s j ≡ o → IfSome (with_name emission o) (λ q. has t q.1.asn ≡ true)
    named emission s None k = tt
    named emission s (Some y) k = let n = sent_there f s j y k in known_name t f.issues n.0 y kept n.1

    sent : (emission : ℕ) (o : Option Sent) → IfSome (with_name emission (option_and_then (λ s. sent_name f.issues s j) o)) (λ q. has t q.1.asn ≡ true)
    sent emission None = tt
    sent emission (Some s) = named emission s (sent_name f.issues s j) refl

    like : (o : Option ℕ)
        → IfSome (option_and_then (λ emission. with_name emission (option_and_then (λ s. sent_name f.issues s j) (send_of f.sends p.src p.ts))) o) (λ q. has t q.1.asn ≡ true)
    like None = tt
    like (Some emission) = sent emission (send_of f.sends p.src p.ts)

-- ---- what is found is what the verdict asks for

module _ (p : Contents) (sends : List Sent) (apart : AreApart sends) (q : Sent → Bool) (implies : (s : Sent) → q s ≡ true → is_send_of p.src p.ts s ≡ true) where
  -- the first packet with a test that only p's source and timestamp meet
  narrowed : find q sends ≡ option_and_then (λ s. if q s then Some s else None) (send_of sends p.src p.ts)
  unfolding send_of
  narrowed = by (find (is_send_of p.src p.ts) sends) refl
    where
      none_of : (o : Option Sent) → find q sends ≡ o → ((s : Sent) (n : ℕ) → slice_get sends n ≡ Some s → q s ≡ true → ⊥) → find q sends ≡ None
      none_of None e fails = e
      none_of (Some s) e fails = let is = found q sends s e in absurd (fails s is.index is.there is.passes)

      only : (s : Sent) (b : Bool) → q s ≡ b → find (is_send_of p.src p.ts) sends ≡ Some s → find q sends ≡ (if b then Some s else None)
      only s true e k =
          let is = found (is_send_of p.src p.ts) sends s k in
          let v = (is_send_of-Decides p s).0 is.passes in
          found_only q sends is.index s is.there e
          (λ m r at same.
          let u = (is_send_of-Decides p r).0 (implies r same) in
          apart m is.index r s at is.there (u.0 ∙ sym v.0) (u.1 ∙ sym v.1))
      only s false e k =
          let is = found (is_send_of p.src p.ts) sends s k in
          let v = (is_send_of-Decides p s).0 is.passes in
          none_of (find q sends) refl
          (λ r m at same.
          let u = (is_send_of-Decides p r).0 (implies r same) in
          let one : m ≡ is.index = apart m is.index r s at is.there (u.0 ∙ sym v.0) (u.1 ∙ sym v.1) in
          let equal : r ≡ s = same_Some r s (sym at ∙ (ap (slice_get sends) one ∙ is.there)) in
          both_ways (q s) e (ap q (sym equal) ∙ same))

      by : (o : Option Sent) → find (is_send_of p.src p.ts) sends ≡ o → find q sends ≡ option_and_then (λ s. if q s then Some s else None) o
      by None k =
          none_of (find q sends) refl
          (λ r m at same. both_ways (is_send_of p.src p.ts r) (missing (is_send_of p.src p.ts) sends k m r at) (implies r same))
      by (Some s) k = only s (q s) refl k

first_passes : (f : Facts) (p : Contents) (s : Sent) → send_of f.sends p.src p.ts ≡ Some s → is_send_of p.src p.ts s ≡ true
unfolding send_of
first_passes f p s e = (found (is_send_of p.src p.ts) f.sends s e).passes

module _ (f : Facts) (p : Contents) (j : ℕ) (apart : AreApart f.sends) where
  like_implies : (s : Sent) → is_sent_like p s ≡ true → is_send_of p.src p.ts s ≡ true
  unfolding is_sent_like
  like_implies s e = (and_parts (is_send_of p.src p.ts s) (s.packet.first == p.first) e).0

  like_is : (s : Sent) → send_of f.sends p.src p.ts ≡ Some s → is_sent_like p s ≡ (s.packet.first == p.first)
  unfolding is_sent_like
  like_is s e = ap (λ (b : Bool). b && (s.packet.first == p.first)) (first_passes f p s e)

  -- the hop by what was sent, where it has p's first byte or not
  abbrev hop_by : Option Sent → Option (ℕ × HopName)
  hop_by o =
      option_and_then (λ emission. with_name emission (option_and_then (λ s. sent_name f.issues s j) o))
      (option_and_then (λ s. if s.packet.first == p.first then Some s.emission else None) o)

  made_is : (x : HopName) → made_by x (sent_hop f p j) ≡ option_map (λ s. s.emission) (source_of f x p j)
  unfolding sent_hop sent_like name_sent source_of
  made_is x =
      by (send_of f.sends p.src p.ts) refl
      ∙ ap (option_map (λ s. s.emission))
      (sym (narrowed p f.sends apart (λ s. is_sent_like p s && is_named x (sent_name f.issues s j))
      (λ s e. like_implies s (and_parts (is_sent_like p s) (is_named x (sent_name f.issues s j)) e).0)))
    where
      outcome : (s : Sent) (c : Bool) → (if c then Some s.emission else None) ≡ option_map (λ r. r.emission) (if c then Some s else None)
      outcome s true = refl
      outcome s false = refl

      inside : (s : Sent) (b : Bool) (n : Option HopName)
          → made_by x (option_and_then (λ emission. with_name emission n) (if b then Some s.emission else None))
          ≡ option_map (λ r. r.emission) (if b && is_named x n then Some s else None)
      inside s false n = refl
      inside s true None = refl
      inside s true (Some y) = outcome s (same_name y x)

      by : (o : Option Sent) → send_of f.sends p.src p.ts ≡ o
          → made_by x (hop_by o)
          ≡ option_map (λ s. s.emission) (option_and_then (λ s. if is_sent_like p s && is_named x (sent_name f.issues s j) then Some s else None) o)
      by None e = refl
      by (Some s) e =
          inside s (s.packet.first == p.first) (sent_name f.issues s j)
          ∙ ap (λ (b : Bool). option_map (λ (r : Sent). r.emission) (if b && is_named x (sent_name f.issues s j) then Some s else None)) (sym (like_is s e))

  other_is : (t : Network) (x : HopName) → other_of t x (sent_hop f p j) ≡ other_sent t f x p j
  unfolding sent_hop sent_like name_sent other_sent
  other_is t x =
      by (send_of f.sends p.src p.ts) refl
      ∙ ap (λ (o : Option Sent). option_and_then (λ y. if bytes_eq (sigma t y) (sigma t x) then Some y else None) (option_and_then (λ s. sent_name f.issues s j) o))
      (sym (narrowed p f.sends apart (is_sent_like p) like_implies))
    where
      inside : (s : Sent) (b : Bool) (n : Option HopName)
          → other_of t x (option_and_then (λ emission. with_name emission n) (if b then Some s.emission else None))
          ≡ option_and_then (λ y. if bytes_eq (sigma t y) (sigma t x) then Some y else None) (option_and_then (λ (r : Sent). n) (if b then Some s else None))
      inside s false n = refl
      inside s true None = refl
      inside s true (Some y) = refl

      named : (s : Sent) (b : Bool)
          → option_and_then (λ (r : Sent). sent_name f.issues s j) (if b then Some s else None) ≡ option_and_then (λ r. sent_name f.issues r j) (if b then Some s else None)
      named s true = refl
      named s false = refl

      by : (o : Option Sent) → send_of f.sends p.src p.ts ≡ o
          → other_of t x (hop_by o)
          ≡ option_and_then (λ y. if bytes_eq (sigma t y) (sigma t x) then Some y else None) (option_and_then (λ s. sent_name f.issues s j) (option_and_then (λ s. if is_sent_like p s then Some s else None) o))
      by None e = refl
      by (Some s) e =
          inside s (s.packet.first == p.first) (sent_name f.issues s j)
          ∙ (ap (option_and_then (λ y. if bytes_eq (sigma t y) (sigma t x) then Some y else None)) (named s (s.packet.first == p.first))
          ∙ ap (λ (b : Bool). option_and_then (λ y. if bytes_eq (sigma t y) (sigma t x) then Some y else None) (option_and_then (λ r. sent_name f.issues r j) (if b then Some s else None)))
          (sym (like_is s e)))

  pub found_is : (t : Network) (x : HopName) → maker_found t f x p j ≡ maker_verdict t f x p j
  unfolding maker_found maker_verdict
  found_is t x i = maker_lines x (issue_of f.issues x) (made_is x i) (least_opened f x f.reveals) (other_is t x i)
