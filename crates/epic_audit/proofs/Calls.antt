-- What the calls answer, for a ledger that is lawful and kept.
use Rattle.std.proofs.Common.{◌≡◌, ◌↔◌, ℕ, ◌≤◌, Bool, true, false, ◌&&◌, ◌||◌, not, length, Option, Some, None, find, refl, sym, ◌∙◌, ap, subst, arith}
use Rattle.std.specs.Prelude.{◌==◌, option_map, option_and_then, unwrap_or, bytes_eq, slice_get, if◌then◌else◌}
use Rattle.std.specs.List.{list_any, range_with_len}
use Rattle.std.specs.Option.{option_map_or}
use Rattle.std.proofs.lemmas.Bool.{and_parts}
use Rattle.std.proofs.lemmas.Option.{same_Some}
use Rattle.std.proofs.lemmas.Slice.Eq.{bytes_eq-Decides}
use Rattle.epic_num.specs.declared.hop.Body.{Body}
use Rattle.epic_num.specs.declared.hop.HopName.{HopName}
use Rattle.epic_num.specs.declared.name.AsId.{AsId}
use Rattle.epic_num.specs.declared.key_name.Holder.TheVariants.{As, Host}
use Rattle.epic_num.specs.declared.verdict.Verdict.{Verdict}
use Rattle.epic_num.specs.declared.verdict.Verdict.TheVariants.{Unclaimed}
use Rattle.epic_num.specs.Holders.{holders}
use Rattle.epic_num.specs.Levels.{is_tagged}
use Rattle.epic_num.specs.Same.{same_host}
use Rattle.epic_layout.specs.Contents.{Contents, IsPacket, hop_count}
use Rattle.epic_layout.specs.Route.{Route, body}
use Rattle.epic_layout.specs.Spelling.{path_bytes}
use Rattle.epic_layout.proofs.OneSpelling.{paths_are_one}
use Rattle.epic_topo.specs.Network.{Network}
use Rattle.epic_fields.specs.HopChecks.{hop_name}
use Rattle.epic_fields.specs.PacketTags.{dest_name}
use Rattle.epic_ledger.specs.History.{History}
use Rattle.epic_ledger.specs.Facts.{Facts, Sent, facts_of, sent_name}
use Rattle.epic_ledger.specs.Lawful.{IsLawful}
use Rattle.epic_ledger.specs.Queries.{is_send_of, send_of, same_path, is_pass_of}
use Rattle.epic_num.specs.Levels.{is_updated}
use Rattle.epic_audit.specs.Clauses.{sent_as, HopOk, DestOk}
use Rattle.epic_audit.specs.Holds.{Holds, AtHop, AtDest}
use Rattle.epic_audit.specs.Kept.{Kept, AreApart}
use Rattle.epic_audit.specs.Laws.{IsAccepted, IsArrived}
use Rattle.epic_audit.specs.Reveals.{is_revealed, least_step}
use Rattle.epic_audit.specs.Searches.{first_sent, name_sent, if_alike, is_alike, is_passed, is_open, first_open, updated_lines, sent_lines, arrived_lines, hop_found, dest_found}
use Rattle.epic_num.specs.Chains.{no_name}
use Rattle.epic_audit.specs.Verdicts.{is_uncovered, uncovered_in, uncovered, has_update, twin_pass, opened_or_forged, dest_lines, hop_verdict, dest_verdict, IsProved}
use Rattle.epic_audit.specs.declared.uncovered.Uncovered.{Uncovered}
use Rattle.epic_audit.proofs.Arrivals.{sent_there}
use Rattle.epic_audit.proofs.Decided.{is_send_of-Decides}
use Rattle.epic_audit.proofs.Before.{name_read}
use Rattle.epic_audit.proofs.Dest.{dest_verdicts}
use Rattle.epic_audit.proofs.Finds.{found, found_only}
use Rattle.epic_audit.proofs.Growth.{lawful_packets}
use Rattle.epic_audit.proofs.Hop.{hop_verdicts}
use Rattle.epic_audit.proofs.Narrowed.{pair, hop_found_is, sent_is}

module _ (t : Network) (h : History) (a : AsId) (g : ℕ) (p : Contents) (j : ℕ) (v : Verdict) (b : Body)
    (lawful : IsLawful h) (kept : Kept t (facts_of h)) (read : b ≡ body p.route j)
    (found : v ≡ hop_found t (facts_of h) (record { asn = a; generation = g; body = b }) p j) where
  pub hop_answer : v ≡ hop_verdict t (facts_of h) (hop_name a g p j) p j
  hop_answer =
      found
      ∙ (ap (λ x. hop_found t (facts_of h) x p j) (name_read a g p j b read)
      ∙ hop_found_is t (facts_of h) (hop_name a g p j) p j kept.sends.apart)

  pub hop_answer_holds : IsAccepted t a g p j
      → (IsProved v ↔ HopOk (facts_of h) (hop_name a g p j) p j) × Holds t (facts_of h) p (AtHop a g j) v
  hop_answer_holds accepted =
      subst (λ w. (IsProved w ↔ HopOk (facts_of h) (hop_name a g p j) p j) × Holds t (facts_of h) p (AtHop a g j) w) (sym hop_answer)
      (hop_verdicts t (facts_of h) a g p j (lawful_packets h lawful) kept accepted)

-- ---- destinations

send_there : (f : Facts) (p : Contents) (s : Sent) → send_of f.sends p.src p.ts ≡ Some s → (n : ℕ) × (slice_get f.sends n ≡ Some s)
unfolding send_of
send_there f p s e = let is = found (is_send_of p.src p.ts) f.sends s e in (is.index, is.there)

abbrev counted : Sent → ℕ × ℕ
counted s = (s.emission, hop_count s.packet)

-- what was sent as the packet is has as many hops
pub sent_hops : (h : History) (p : Contents) (n hops : ℕ) → IsLawful h → IsPacket p → if_alike p (first_sent (facts_of h) p) ≡ Some (n, hops) → hops ≤ hop_count p
unfolding first_sent is_alike same_path
sent_hops h p n hops lawful packet e = by (send_of (facts_of h).sends p.src p.ts) refl e
  where
    here : (s : Sent) (b : Bool) → send_of (facts_of h).sends p.src p.ts ≡ Some s → is_alike p s.packet ≡ b
        → (if b then Some (counted s) else None) ≡ Some (n, hops) → hops ≤ hop_count p
    here s false k a m = absurd (cc)
    here s true k a m =
        let first = and_parts (s.packet.first == p.first && same_host s.packet.dst p.dst && bytes_eq (path_bytes s.packet.route) (path_bytes p.route)) (bytes_eq s.packet.payload p.payload) a in
        let path = (bytes_eq-Decides (path_bytes s.packet.route) (path_bytes p.route)).0
        (and_parts (s.packet.first == p.first && same_host s.packet.dst p.dst) (bytes_eq (path_bytes s.packet.route) (path_bytes p.route)) first.0).1 in
        let there = send_there (facts_of h) p s k in
        let same = (paths_are_one s.packet.route p.route ((lawful_packets h lawful).sent there.0 s there.1).route packet.route path).routes in
        let count : hop_count s.packet ≡ hops = ap (λ (q : ℕ × ℕ). q.1) (same_Some (counted s) (n, hops) m) in
        let length_is : hop_count s.packet ≡ hop_count p = ap (λ (r : Route). length r.hops) same in
        omega arith

    by : (o : Option Sent) → send_of (facts_of h).sends p.src p.ts ≡ o → if_alike p (option_map pair o) ≡ Some (n, hops) → hops ≤ hop_count p
    by None k m = absurd (cc)
    by (Some s) k m = here s (is_alike p s.packet) k refl m

-- the answers about the hops of the packet that was sent as p is
name_is : (f : Facts) (p : Contents) (s : Sent) (j : ℕ) → send_of f.sends p.src p.ts ≡ Some s → name_sent f p j ≡ sent_name f.issues s j
unfolding name_sent
name_is f p s j e = ap (option_and_then (λ r. sent_name f.issues r j)) e

open_is : (f : Facts) (p : Contents) (s : Sent) → send_of f.sends p.src p.ts ≡ Some s → first_open f p (hop_count s.packet) ≡ uncovered_in f p s
unfolding first_open uncovered_in is_open is_uncovered is_passed
open_is f p s e =
    let names : (λ j. name_sent f p j) ≡ (λ j. sent_name f.issues s j) = λ i j. name_is f p s j e i in
    ap (λ (n : ℕ → Option HopName).
    if◌then◌else◌ {A = Option Uncovered} (not (is_updated p.first) || (is_revealed f.reveals (Host p.src) || is_revealed f.reveals (As p.src.asn))) None
    (option_map (λ k. record { hop = k; name = unwrap_or (n k) no_name })
    (find (λ k. option_map_or (λ x. not (is_revealed f.reveals (As x.asn) || list_any (is_pass_of p.first x p.src p.ts k) f.passes)) (n k) false) (range_with_len 0 (hop_count s.packet)))))
    names

-- what was sent as p is comes first with its source and timestamp
first_with : (f : Facts) (p : Contents) (s : Sent) → AreApart f.sends → sent_as f.sends p ≡ Some s → send_of f.sends p.src p.ts ≡ Some s
unfolding send_of
first_with f p s apart e =
    let there = sent_there f p s e in
    let at = there.there in
    let is = there.alike in
    found_only (is_send_of p.src p.ts) f.sends there.index s at ((is_send_of-Decides p s).1 (is.src_is, is.ts_is))
    (λ m r m_at same.
    let u = (is_send_of-Decides p r).0 same in
    apart m there.index r s m_at at (u.0 ∙ sym is.src_is) (u.1 ∙ sym is.ts_is))

uncovered_is : (f : Facts) (p : Contents) (s : Sent) → sent_as f.sends p ≡ Some s → uncovered f p ≡ uncovered_in f p s
unfolding uncovered
uncovered_is f p s e = ap (option_and_then (uncovered_in f p)) e

module _ (t : Network) (f : Facts) (p : Contents) where
  abbrev table : Bool → Option ℕ → Option Uncovered → Verdict
  table tagged send u =
      dest_lines t p tagged send u (option_map_or (has_update t p) u false) (option_and_then (twin_pass t f p) u) (least_step f.reveals (holders (dest_name t p)))

  hop_lines_are : (n : ℕ) (u : Option Uncovered) → sent_lines t f p n u ≡ table true (Some n) u
  hop_lines_are n None = refl
  hop_lines_are n (Some u) = by (has_update t p u) (twin_pass t f p u)
    where
      by : (b : Bool) (twin : Option HopName)
          → (if b then updated_lines t p u twin else opened_or_forged (dest_name t p) (least_step f.reveals (holders (dest_name t p))))
          ≡ dest_lines t p true (Some n) (Some u) b twin (least_step f.reveals (holders (dest_name t p)))
      by true None = refl
      by true (Some twin) = refl
      by false twin = refl

  pub dest_found_is : AreApart f.sends → dest_found t f p ≡ dest_verdict t f p
  unfolding dest_found
  dest_found_is apart =
      ap (λ (o : Option (ℕ × ℕ)). if is_tagged p.first then arrived_lines t f p o else Unclaimed) (sent_is f p apart)
      ∙ by (is_tagged p.first) (sent_as f.sends p) refl
    where
      by : (b : Bool) (o : Option Sent) → sent_as f.sends p ≡ o
          → (if b then arrived_lines t f p (option_map counted o) else Unclaimed) ≡ table b (option_map (λ s. s.emission) o) (uncovered f p)
      by false o e = refl
      by true None e = refl
      by true (Some s) e =
          hop_lines_are s.emission (first_open f p (hop_count s.packet))
          ∙ ap (table true (Some s.emission)) (open_is f p s (first_with f p s apart e) ∙ sym (uncovered_is f p s e))

module _ (t : Network) (h : History) (p : Contents) (v : Verdict) (lawful : IsLawful h) (kept : Kept t (facts_of h)) (found_is : v ≡ dest_found t (facts_of h) p) where
  pub dest_answer : v ≡ dest_verdict t (facts_of h) p
  dest_answer = found_is ∙ dest_found_is t (facts_of h) p kept.sends.apart

  pub dest_answer_holds : IsArrived t p → (IsProved v ↔ ((is_tagged p.first ≡ true) × DestOk (facts_of h) p)) × Holds t (facts_of h) p AtDest v
  dest_answer_holds arrived =
      subst (λ w. (IsProved w ↔ ((is_tagged p.first ≡ true) × DestOk (facts_of h) p)) × Holds t (facts_of h) p AtDest w) (sym dest_answer)
      (dest_verdicts t (facts_of h) p (lawful_packets h lawful) kept arrived)
