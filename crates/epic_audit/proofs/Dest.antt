-- The verdict of a packet at its destination is Proved exactly where it is of level 2 or 3 and its provenance is there, and is
-- always true.
use Rattle.std.proofs.Common.{◌≡◌, ◌↔◌, ℕ, ◌<◌, Bool, true, false, ◌||◌, [], length, get_or, refl, ap, sym, ◌∙◌, subst, inl, inr}
use Rattle.std.specs.Prelude.{Option, Some, None, option_map, option_and_then}
use Rattle.std.specs.Option.{option_map_or}
use Rattle.std.proofs.lemmas.Bool.{both_ways, or_cases}
use Rattle.std.proofs.lemmas.Option.{same_Some}
use Rattle.std.proofs.lemmas.Slice.Eq.{bytes_eq-Decides}
use Rattle.epic_num.specs.declared.hop.HopName.{HopName}
use Rattle.epic_num.specs.declared.key_name.Holder.{Holder}
use Rattle.epic_num.specs.declared.key_name.Holder.TheVariants.{As, Host}
use Rattle.epic_num.specs.declared.verdict.ForgedKind.TheVariants as kind
use Rattle.epic_num.specs.declared.verdict.Part.TheVariants.{Sigma}
use Rattle.epic_num.specs.declared.verdict.Verdict.{Verdict}
use Rattle.epic_num.specs.declared.verdict.Verdict.TheVariants.{Opened, Forged, Collided}
use Rattle.epic_num.specs.Holders.{holders, is_among}
use Rattle.epic_num.specs.Levels.{is_tagged}
use Rattle.epic_num.specs.Moments.{epoch_of}
use Rattle.epic_num.specs.Same.{same_holder}
use Rattle.epic_num.proofs.SameLaws.{same_holder-Decides}
use Rattle.epic_layout.specs.Contents.{Contents, field, hop_count}
use Rattle.epic_layout.specs.Route.{Route, body}
use Rattle.epic_layout.specs.Spelling.{path_bytes, dest_message, SameDestContent}
use Rattle.epic_layout.proofs.Codes.{dest_messages}
use Rattle.epic_layout.proofs.OneSpelling.{paths_are_one}
use Rattle.epic_topo.specs.Network.{Network}
use Rattle.epic_fields.specs.Tags.{sigma}
use Rattle.epic_fields.specs.HopChecks.{hop_name}
use Rattle.epic_fields.specs.PacketTags.{field_name, dest_name, update_of}
use Rattle.epic_ledger.specs.Facts.{Facts, Sent, Pass, pass_name}
use Rattle.epic_num.specs.Levels.{is_updated}
use Rattle.epic_audit.specs.Clauses.{sent_as, DestOk}
use Rattle.epic_audit.specs.Collided.{HaveOneSigma}
use Rattle.epic_audit.specs.Forged.{IsForgedUpdate}
use Rattle.epic_audit.specs.Holds.{HoldsOfDest}
use Rattle.epic_audit.specs.Kept.{Kept, ArePackets}
use Rattle.epic_audit.specs.Laws.{IsArrived, DestVerdictsHold}
use Rattle.epic_fields.specs.PacketTags.{hop_message}
use Rattle.epic_audit.specs.Made.{IsMadeDest, IsGivenOut, sent_updates}
use Rattle.epic_layout.specs.Updates.{own_updates}
use Rattle.epic_audit.specs.Reveals.{IsRevealed, NoneRevealed, least_step}
use Rattle.epic_audit.specs.declared.uncovered.Uncovered.{Uncovered}
use Rattle.epic_audit.specs.Verdicts.{uncovered, has_update, twin_pass, opened_or_forged, dest_lines, dest_verdict, IsProved}
use Rattle.epic_audit.proofs.Arrivals.{SentThere, sent_there, sent_found, IsUncovered, uncovered_hop, all_covered, not_ok_uncovered, not_ok_unsent, twin_there, no_twin_there}
use Rattle.epic_num.proofs.LevelLaws.{updated_tagged}
use Rattle.epic_fields.proofs.Stamps.{tags_stamp}
use Rattle.epic_audit.proofs.FieldTags.{same_message}
use Rattle.epic_audit.proofs.Queries.{least_there, least_missing}
use Rattle.epic_audit.proofs.UpdateLaws.{sent_are_updates, sent_update_at, own_are_updates, own_update_at}

-- ---- parts

update_there : (t : Network) (p : Contents) (u : Uncovered) → has_update t p u ≡ true → field p u.hop ≡ update_of t u.name p u.hop
unfolding has_update
update_there t p u e = (bytes_eq-Decides (field p u.hop) (update_of t u.name p u.hop)).0 e

update_missing : (t : Network) (p : Contents) (u : Uncovered) → has_update t p u ≡ false → field p u.hop ≡ update_of t u.name p u.hop → ⊥
unfolding has_update
update_missing t p u e same = both_ways (has_update t p u) e ((bytes_eq-Decides (field p u.hop) (update_of t u.name p u.hop)).1 same)

pass_asn : (w : Pass) → (pass_name w).asn ≡ w.asn
unfolding pass_name
pass_asn w = refl

-- no holder of the key of a hop's fields was revealed
closed_field : (t : Network) (f : Facts) (x : HopName) (p : Contents) → (IsRevealed f.reveals (As x.asn) → ⊥) → (IsRevealed f.reveals (As p.src.asn) → ⊥)
    → (IsRevealed f.reveals (Host p.src) → ⊥) → NoneRevealed f.reveals (holders (field_name t x.asn p))
unfolding field_name holders is_among
closed_field t f x p hop source host h among is =
    elim (or_cases (same_holder h (As x.asn)) (same_holder h (As p.src.asn) || (same_holder h (Host p.src) || false)) among) [
      | inl a ↦ hop (at (As x.asn) a)
      | inr rest ↦ elim (or_cases (same_holder h (As p.src.asn)) (same_holder h (Host p.src) || false) rest) [
        | inl a ↦ source (at (As p.src.asn) a)
        | inr last ↦ elim (or_cases (same_holder h (Host p.src)) false last) [ inl a ↦ host (at (Host p.src) a) | inr none ↦ cc ]
      ]
    ]
  where
    at : (k : Holder) → same_holder h k ≡ true → IsRevealed f.reveals k
    at k e = subst (IsRevealed f.reveals) ((same_holder-Decides h k).0 e) is

module _ (t : Network) (f : Facts) (p : Contents) (packets : ArePackets f) (kept : Kept t f) (arrived : IsArrived t p) where
  abbrev Reduced : Verdict → Type 0
  Reduced v = (IsProved v ↔ ((is_tagged p.first ≡ true) × DestOk f p)) × HoldsOfDest t f p v

  -- a verdict that isn't Proved, where there is no provenance
  refused : (v : Verdict) → (IsProved v → ⊥) → (DestOk f p → ⊥) → HoldsOfDest t f p v → Reduced v
  refused v unproved not_ok holds = ((λ h. absurd (unproved h), λ h. absurd (not_ok h.1)), holds)

  abbrev IsMade : Type 0
  IsMade = IsMadeDest t f p.dst p.src (epoch_of t.profile p.ts) (dest_message p (own_updates p))

  -- ---- what was made was sent as p is, with the updates that p has

  same_content : is_tagged p.first ≡ true → (m : IsMade) → SameDestContent m.send.packet p (sent_updates t f.issues m.send) (own_updates p)
  same_content tagged m =
      dest_messages m.send.packet p (sent_updates t f.issues m.send) (own_updates p)
      (packets.sent m.index m.send m.there) arrived.packet m.tagged tagged
      (sent_are_updates t f.issues m.send (kept.sends.each m.index m.send m.there)) (own_are_updates p arrived.packet)
      m.message_is

  made_sent : is_tagged p.first ≡ true → (m : IsMade) → sent_as f.sends p ≡ Some m.send
  made_sent tagged m =
      let same = same_content tagged m in
      sent_found f p m.index m.send kept.sends.apart m.there
      (record {
        src_is = same.same_src;
        ts_is = same.same_ts;
        first_is = same.same_first;
        dst_is = same.same_dst;
        path_is = ap path_bytes same.same_route;
        payload_is = same.same_payload;
      })

  made_update : is_tagged p.first ≡ true → (m : IsMade) (u : Uncovered) → IsUncovered f p m.send u → field p u.hop ≡ update_of t u.name p u.hop
  made_update tagged m u is =
      let same = same_content tagged m in
      let level : is_updated m.send.packet.first ≡ true = ap is_updated same.same_first ∙ is.level in
      let inside : u.hop < hop_count p = subst (λ (r : Route). u.hop < length r.hops) same.same_route is.inside in
      sym (own_update_at p u.hop is.level inside)
      ∙ (ap (λ us. get_or us u.hop []) (sym same.same_updates)
      ∙ (sent_update_at t f.issues m.send u.hop u.name level is.inside is.named
      ∙ (tags_stamp t u.name m.send.packet p u.hop (record { first = same.same_first; ts = same.same_ts; src = same.same_src })).update))

  -- ---- an update that was forged

  -- the name of an uncovered hop is that of the packet's hop
  name_here : (s : Sent) (u : Uncovered) → SentThere f p s → IsUncovered f p s u → hop_name u.name.asn u.name.generation p u.hop ≡ u.name
  unfolding hop_name
  name_here s u there is =
      let hop = (kept.sends.each there.index s there.there).hops u.hop is.inside in
      let name : hop.name ≡ u.name = same_Some hop.name u.name (sym hop.named ∙ is.named) in
      let route : s.packet.route ≡ p.route =
      (paths_are_one s.packet.route p.route (packets.sent there.index s there.there).route arrived.packet.route there.alike.path_is).routes in
      let same : body p.route u.hop ≡ u.name.body = ap (λ (r : Route). body r u.hop) (sym route) ∙ (sym hop.body_is ∙ ap (λ (x : HopName). x.body) name) in
      λ i. record { asn = u.name.asn; generation = u.name.generation; body = same i }

  not_given_out : (s : Sent) (u : Uncovered) → is_tagged p.first ≡ true → IsUncovered f p s u → twin_pass t f p u ≡ None
      → IsGivenOut t f.passes u.name.asn p.src (epoch_of t.profile p.ts) (hop_message t u.name p u.hop) → ⊥
  not_given_out s u tagged is none given =
      let w = given.pass in
      let packet = packets.passed given.index w given.there in
      let same = same_message t (pass_name w) u.name w.packet p w.hop u.hop packet arrived.packet (updated_tagged w.packet.first packet.exists given.level) tagged given.message_is in
      no_twin_there t f p u none given.index w given.there
      (record {
        asn_is = pass_asn w ∙ given.asn_is;
        sigma_is = same.same_sigma;
        first_is = same.same_first;
        src_is = same.same_src;
        ts_is = same.same_ts;
        hop_is = same.same_hop;
      })

  forged_update : (s : Sent) (u : Uncovered) → is_tagged p.first ≡ true → SentThere f p s → IsUncovered f p s u → has_update t p u ≡ true → twin_pass t f p u ≡ None
      → IsForgedUpdate t f u.name p u.hop
  forged_update s u tagged there is updated none = record {
    level = is.level;
    send = s;
    only = record {
      index = there.index;
      there = there.there;
      src_is = there.alike.src_is;
      ts_is = there.alike.ts_is;
      alone = λ n other at src ts. kept.sends.apart n there.index other s at there.there (src ∙ sym there.alike.src_is) (ts ∙ sym there.alike.ts_is);
    };
    first_is = there.alike.first_is;
    path_is = there.alike.path_is;
    named = is.named;
    field_is = update_there t p u updated;
    not_given_out = not_given_out s u tagged is none;
    not_revealed = closed_field t f u.name p is.closed is.source_closed is.host_closed;
  }

  twin_collides : (s : Sent) (u : Uncovered) (y : HopName) → IsUncovered f p s u → twin_pass t f p u ≡ Some y → HaveOneSigma t y u.name
  twin_collides s u y is e =
      let twin = twin_there t f p u y e in
      record {
        differ = λ same. is.unpassed (record {
          index = twin.index;
          pass = twin.pass;
          there = twin.there;
          name_is = twin.name_is ∙ same;
          first_is = twin.twin.first_is;
          src_is = twin.twin.src_is;
          ts_is = twin.twin.ts_is;
          hop_is = twin.twin.hop_is;
        });
        asn_is = ap (λ (x : HopName). x.asn) (sym twin.name_is) ∙ twin.twin.asn_is;
        sigma_is = ap (sigma t) (sym twin.name_is) ∙ twin.twin.sigma_is;
      }

  -- ---- the lines

  -- where there is no provenance, and the message was never made
  unmade : (opened : Option ℕ) → least_step f.reveals (holders (dest_name t p)) ≡ opened → is_tagged p.first ≡ true → (DestOk f p → ⊥) → (opened ≡ None → IsMade → ⊥)
      → Reduced (opened_or_forged (dest_name t p) opened)
  unmade (Some step) eo et not_ok not_made =
      refused (Opened step) (λ h. h) not_ok
      (record { tagged = et; no_provenance = not_ok; revealed = least_there f.reveals (holders (dest_name t p)) step eo })
  unmade None eo et not_ok not_made =
      refused (Forged (record { kind = kind.Dest; hop = 0; key = dest_name t p; generation = 0 })) (λ h. h) not_ok
      (record {
        no_provenance = not_ok;
        forged = record {
          tagged = et;
          dest_field_is = arrived.dest_field_right et;
          not_made = not_made refl;
          not_revealed = least_missing f.reveals (holders (dest_name t p)) eo;
        };
        hop_is = refl;
        key_is = refl;
        generation_is = refl;
      })

  lines : (tagged : Bool) (send : Option Sent) (hop : Option Uncovered) (updated : Bool) (twin : Option HopName) (opened : Option ℕ)
      → is_tagged p.first ≡ tagged → sent_as f.sends p ≡ send → uncovered f p ≡ hop → option_map_or (has_update t p) hop false ≡ updated
      → option_and_then (twin_pass t f p) hop ≡ twin → least_step f.reveals (holders (dest_name t p)) ≡ opened
      → Reduced (dest_lines t p tagged (option_map (λ s. s.emission) send) hop updated twin opened)
  lines false send hop updated twin opened et es eh eu ew eo =
      ((λ h. absurd h, λ h. absurd (both_ways (is_tagged p.first) et h.0)), et)
  lines true (Some s) None updated twin opened et es eh eu ew eo =
      let ok : DestOk f p = record { send = s; sent = es; passed = all_covered f p s es eh } in
      ((λ _. (et, ok), λ _. tt), record { tagged = et; provenance = ok; issue_is = refl; send_is = ap (option_map (λ r. r.emission)) es })
  lines true (Some s) (Some u) true (Some twin) opened et es eh eu ew eo =
      let is = uncovered_hop f p s u es eh in
      refused (Collided (record { part = Sigma; left = twin; right = u.name })) (λ h. h) (not_ok_uncovered f p s u es is)
      (record { tagged = et; hop = u; first_hop = eh; updated = eu; left_is = ew; right_is = refl; collided = twin_collides s u twin is ew })
  lines true (Some s) (Some u) true None opened et es eh eu ew eo =
      let is = uncovered_hop f p s u es eh in
      let there = sent_there f p s es in
      refused (Forged (record { kind = kind.Update; hop = u.hop; key = field_name t u.name.asn p; generation = u.name.generation })) (λ h. h)
      (not_ok_uncovered f p s u es is)
      (record {
        asn = u.name.asn;
        no_provenance = not_ok_uncovered f p s u es is;
        forged = subst (λ x. IsForgedUpdate t f x p u.hop) (sym (name_here s u there is)) (forged_update s u et there is eu ew);
        key_is = refl;
      })
  lines true (Some s) (Some u) false twin opened et es eh eu ew eo =
      let is = uncovered_hop f p s u es eh in
      unmade opened eo et (not_ok_uncovered f p s u es is)
      (λ _ m.
      let same : s ≡ m.send = same_Some s m.send (sym es ∙ made_sent et m) in
      update_missing t p u eu (made_update et m u (subst (λ r. IsUncovered f p r u) same is)))
  lines true None hop updated twin opened et es eh eu ew eo =
      unmade opened eo et (not_ok_unsent f p es) (λ _ m. let sent = sym es ∙ made_sent et m in cc)

  pub reduced : Reduced (dest_verdict t f p)
  reduced =
      lines (is_tagged p.first) (sent_as f.sends p) (uncovered f p) (option_map_or (has_update t p) (uncovered f p) false)
      (option_and_then (twin_pass t f p) (uncovered f p)) (least_step f.reveals (holders (dest_name t p))) refl refl refl refl refl refl

pub dest_verdicts : DestVerdictsHold
dest_verdicts t f p packets kept arrived = reduced t f p packets kept arrived
