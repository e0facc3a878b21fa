-- The verdict of an accepted hop is Proved exactly where the hop's provenance is there, and is always true.
use Rattle.std.proofs.Common.{◌≡◌, ◌↔◌, ℕ, Bool, true, false, refl, ap, sym, ◌∙◌, subst, inl, inr}
use Rattle.std.specs.Prelude.{Option, Some, None, option_map}
use Rattle.std.proofs.lemmas.Bool.{both_ways}
use Rattle.epic_num.specs.declared.hop.HopName.{HopName}
use Rattle.epic_num.specs.declared.key_name.Holder.TheVariants.{As}
use Rattle.epic_num.specs.declared.key_name.KeyName.TheVariants.{Fwd}
use Rattle.epic_num.specs.declared.verdict.ForgedKind.TheVariants as kind
use Rattle.epic_num.specs.declared.verdict.Part.TheVariants.{Link, Sigma}
use Rattle.epic_num.specs.declared.verdict.Verdict.{Verdict}
use Rattle.epic_num.specs.declared.verdict.Verdict.TheVariants.{Opened, Forged, Collided}
use Rattle.epic_num.specs.Holders.{holders}
use Rattle.epic_num.specs.Levels.{is_tagged}
use Rattle.epic_num.specs.Moments.{epoch_of}
use Rattle.epic_layout.specs.Contents.{Contents, IsPacket}
use Rattle.epic_topo.specs.Network.{Network}
use Rattle.epic_fields.specs.HopChecks.{hop_name, has_field}
use Rattle.epic_fields.specs.PacketTags.{field_name}
use Rattle.epic_ledger.specs.Facts.{Facts, Sent, sent_name}
use Rattle.epic_ledger.specs.Queries.{issue_of}
use Rattle.epic_audit.specs.Clauses.{IsIssued, HopOk}
use Rattle.epic_audit.specs.Collided.{HaveOneLink}
use Rattle.epic_audit.specs.Holds.{HoldsOfHop}
use Rattle.epic_audit.specs.Kept.{Kept, ArePackets}
use Rattle.epic_audit.specs.Laws.{HopVerdictsHold}
use Rattle.epic_fields.specs.PacketTags.{hop_message}
use Rattle.epic_audit.specs.Made.{IsMadeField}
use Rattle.epic_audit.specs.Reveals.{reveal_step, least_step}
use Rattle.epic_audit.specs.Verdicts.{twin_issue, broken_chain, source_of, twin_sent, hop_lines, hop_verdict, IsProved}
use Rattle.epic_audit.proofs.Chained.{chained, not_chained, collided_in_chain}
use Rattle.epic_fields.proofs.Stamps.{field_of-tagged}
use Rattle.epic_audit.proofs.FieldTags.{right_field, same_message}
use Rattle.epic_audit.proofs.Queries.{issued, unissued, revealed, unrevealed, least_there, least_missing, sourced, unsourced}
use Rattle.epic_audit.proofs.Decided.{is_sent_like-Decides, is_twin-Decides}
use Rattle.epic_audit.proofs.Alike.{one_sigma, twin_issued, no_twin_issued, twin_was_sent, no_twin_sent}

module _ (t : Network) (f : Facts) (x : HopName) (p : Contents) (j : ℕ) (packets : ArePackets f) (kept : Kept t f) (packet : IsPacket p)
    (right : has_field t x p j ≡ true) (collides : (c : HopName × HopName) → broken_chain f x p j ≡ Some c → HaveOneLink t c.0 c.1) where
  abbrev Reduced : Verdict → Type 0
  Reduced v = (IsProved v ↔ HopOk f x p j) × HoldsOfHop t f x p j v

  -- a verdict that isn't Proved, where there is no provenance
  refused : (v : Verdict) → (IsProved v → ⊥) → (HopOk f x p j → ⊥) → HoldsOfHop t f x p j v → Reduced v
  refused v unproved not_ok holds = ((λ h. absurd (unproved h), λ h. absurd (not_ok h)), holds)

  -- where no source made the field, its message was never sent
  not_made : is_tagged p.first ≡ true → twin_sent t f x p j ≡ None → IsMadeField t f x.asn p.src (epoch_of t.profile p.ts) (hop_message t x p j) → ⊥
  not_made tagged none made =
      let same = same_message t made.name x made.send.packet p made.hop j (packets.sent made.index made.send made.there) packet made.tagged tagged made.message_is in
      no_twin_sent t f x p j made.index made.send made.name kept.sends.apart none made.there
      ((is_sent_like-Decides p made.send).1 ((same.same_src, same.same_ts), same.same_first))
      (subst (λ i. sent_name f.issues made.send i ≡ Some made.name) same.same_hop made.named)
      ((is_twin-Decides t x made.name).1 (made.asn_is, same.same_sigma))

  lines : (issue step : Option ℕ) (twin : Option HopName) (pair : Option (HopName × HopName)) (tagged : Bool) (send : Option Sent) (opened : Option ℕ) (other : Option HopName)
      → issue_of f.issues x ≡ issue → reveal_step f.reveals (As x.asn) ≡ step → twin_issue t f x p ≡ twin → broken_chain f x p j ≡ pair
      → is_tagged p.first ≡ tagged → source_of f x p j ≡ send → least_step f.reveals (holders (field_name t x.asn p)) ≡ opened → twin_sent t f x p j ≡ other
      → Reduced (hop_lines x j (field_name t x.asn p) issue step twin pair tagged (option_map (λ s. s.emission) send) opened other)
  lines None (Some step) twin pair tagged send opened other ei er ew ec et es eo en =
      refused (Opened step) (λ h. h) (λ ok. unissued f.issues x ei ok.issued)
      (inl (record { not_issued = unissued f.issues x ei; revealed = revealed f.reveals (As x.asn) step er }))
  lines None None (Some twin) pair tagged send opened other ei er ew ec et es eo en =
      let is = twin_issued t f x p twin ew in
      refused (Collided (record { part = Sigma; left = x; right = twin })) (λ h. h) (λ ok. unissued f.issues x ei ok.issued)
      (inl (record {
        not_issued = unissued f.issues x ei;
        level = is.level;
        left_is = refl;
        right_is = ew;
        collided = one_sigma t x twin is.twin (λ same. unissued f.issues x ei (subst (IsIssued f.issues) (sym same) is.issued));
      }))
  lines None None None pair tagged send opened other ei er ew ec et es eo en =
      refused (Forged (record { kind = kind.Issue; hop = j; key = Fwd x.asn x.generation; generation = x.generation })) (λ h. h) (λ ok. unissued f.issues x ei ok.issued)
      (record {
        no_provenance = λ ok. unissued f.issues x ei ok.issued;
        forged = record {
          not_issued = unissued f.issues x ei;
          not_revealed = unrevealed f.reveals (As x.asn) er;
          field_is = right_field t x p j right;
          not_given = no_twin_issued t f x p ew;
        };
        hop_is = refl;
        key_is = refl;
        generation_is = refl;
      })
  lines (Some issue) step twin (Some pair) tagged send opened other ei er ew ec et es eo en =
      refused (Collided (record { part = Link; left = pair.0; right = pair.1 })) (λ h. h) (λ ok. not_chained f x p j pair ec ok.chained)
      (record { not_chained = not_chained f x p j pair ec; pair_is = ec; collided = collides pair ec })
  lines (Some issue) step twin None false send opened other ei er ew ec et es eo en =
      let ok : HopOk f x p j = record {
        issued = record { number = issue; named = issued f.issues x issue ei };
        chained = chained f x p j ec;
        sourced = λ e. absurd (both_ways (is_tagged p.first) et e);
      } in
      ((λ _. ok, λ _. tt), record { provenance = ok; issue_is = ei; send_is = rw et refl })
  lines (Some issue) step twin None true (Some send) opened other ei er ew ec et es eo en =
      let ok : HopOk f x p j = record {
        issued = record { number = issue; named = issued f.issues x issue ei };
        chained = chained f x p j ec;
        sourced = λ e. sourced f x p j send es;
      } in
      ((λ _. ok, λ _. tt), record { provenance = ok; issue_is = ei; send_is = rw (et, es) refl })
  lines (Some issue) step twin None true None (Some opened) other ei er ew ec et es eo en =
      refused (Opened opened) (λ h. h) (λ ok. unsourced f x p j es (ok.sourced et))
      (inr (record {
        issued = record { number = issue; named = issued f.issues x issue ei };
        chained = chained f x p j ec;
        tagged = et;
        not_sourced = unsourced f x p j es;
        revealed = least_there f.reveals (holders (field_name t x.asn p)) opened eo;
      }))
  lines (Some issue) step twin None true None None (Some other) ei er ew ec et es eo en =
      let is = twin_was_sent t f x p j other en in
      refused (Collided (record { part = Sigma; left = x; right = other })) (λ h. h) (λ ok. unsourced f x p j es (ok.sourced et))
      (inr (record {
        tagged = et;
        not_sourced = unsourced f x p j es;
        left_is = refl;
        right_is = en;
        collided = one_sigma t x other is.twin
            (λ same. unsourced f x p j es (record { index = is.index; send = is.send; there = is.there; alike = is.alike; named = is.named ∙ ap Some (sym same) }));
      }))
  lines (Some issue) step twin None true None None None ei er ew ec et es eo en =
      refused (Forged (record { kind = kind.Field; hop = j; key = field_name t x.asn p; generation = x.generation })) (λ h. h) (λ ok. unsourced f x p j es (ok.sourced et))
      (record {
        no_provenance = λ ok. unsourced f x p j es (ok.sourced et);
        forged = record {
          tagged = et;
          field_is = right_field t x p j right ∙ field_of-tagged t x p j et;
          not_made = not_made et en;
          not_revealed = least_missing f.reveals (holders (field_name t x.asn p)) eo;
        };
        hop_is = refl;
        key_is = refl;
        generation_is = refl;
      })

  pub reduced : Reduced (hop_verdict t f x p j)
  reduced =
      lines (issue_of f.issues x) (reveal_step f.reveals (As x.asn)) (twin_issue t f x p) (broken_chain f x p j) (is_tagged p.first) (source_of f x p j)
      (least_step f.reveals (holders (field_name t x.asn p))) (twin_sent t f x p j) refl refl refl refl refl refl refl refl

pub hop_verdicts : HopVerdictsHold
hop_verdicts t f a g p j packets kept accepted =
    reduced t f (hop_name a g p j) p j packets kept accepted.packet accepted.field_right
    (λ c e. collided_in_chain t f a g p j c packets kept accepted e)
