-- The test of a verdict of a packet at its destination decides whether it is true.
use Rattle.std.proofs.Common.{◌≡◌, ℕ, Bool, true, false, refl, ap, sym, ◌∙◌, subst}
use Rattle.std.specs.Bool.{Decides}
use Rattle.std.specs.Prelude.{Some, not, option_map}
use Rattle.std.proofs.lemmas.Bool.Decides.{Decides-eqb, Decides-and, Decides-like, Decides-not}
use Rattle.std.proofs.lemmas.Slice.Eq.{bytes_eq-Decides}
use Rattle.epic_num.specs.declared.hop.HopName.{HopName}
use Rattle.epic_num.specs.declared.key_name.KeyName.{KeyName}
use Rattle.epic_num.specs.declared.name.AsId.{AsId}
use Rattle.epic_num.specs.declared.verdict.Collision.{Collision}
use Rattle.epic_num.specs.declared.verdict.Forgery.{Forgery}
use Rattle.epic_num.specs.declared.verdict.ForgedKind.{ForgedKind}
use Rattle.epic_num.specs.declared.verdict.ForgedKind.TheVariants as kind
use Rattle.epic_num.specs.declared.verdict.Part.{Part}
use Rattle.epic_num.specs.declared.verdict.Part.TheVariants.{Link, Sigma}
use Rattle.epic_num.specs.declared.verdict.Verdict.{Verdict}
use Rattle.epic_num.specs.declared.verdict.Verdict.TheVariants.{Proved, Unclaimed, Opened, Forged, Collided}
use Rattle.epic_num.specs.Holders.{holders}
use Rattle.epic_num.specs.Levels.{is_tagged, is_updated}
use Rattle.epic_num.specs.Moments.{epoch_of}
use Rattle.epic_num.proofs.SameLaws.{same_key-Decides, same_name-Decides}
use Rattle.epic_layout.specs.Contents.{Contents, field}
use Rattle.epic_layout.specs.Spelling.{path_bytes, dest_message}
use Rattle.epic_layout.specs.Updates.{own_updates}
use Rattle.epic_topo.specs.Network.{Network}
use Rattle.epic_keys.specs.Keys.{owner}
use Rattle.epic_fields.specs.HopChecks.{hop_name}
use Rattle.epic_fields.specs.PacketTags.{field_name, dest_name, hop_message, update_of, dest_field_of}
use Rattle.epic_ledger.specs.Facts.{Facts, Sent, sent_name}
use Rattle.epic_ledger.specs.Queries.{same_path}
use Rattle.epic_audit.specs.Clauses.{sent_as}
use Rattle.epic_audit.specs.Forged.{IsForgedUpdate, IsForgedDest}
use Rattle.epic_audit.specs.Holds.{DestProved, DestOpened, UpdateForged, DestForged, ArrivalForged, CollidedWithPass, ArrivalCollided, HoldsOfDest}
use Rattle.epic_audit.specs.Verdicts.{uncovered, has_update, twin_pass}
use Rattle.epic_audit.specs.declared.uncovered.Uncovered.{Uncovered}
use Rattle.epic_audit.proofs.Decided.{is_named-Decides}
use Rattle.epic_judging.specs.Given.{only_send}
use Rattle.epic_judging.specs.DestTests.{dest_proved, dest_opened, is_sent_over, is_forged_update, update_forged, is_forged_dest, dest_forged, arrival_forged, collided_with_pass, arrival_collided, holds_of_dest}
use Rattle.epic_judging.proofs.Listing.{is_number-Decides, passes-Decides}
use Rattle.epic_judging.proofs.Making.{true-Decides, made_dest-Decides, given_out-Decides, only_send-there, only_send-is, one_sigma-Decides}
use Rattle.epic_judging.proofs.Provenance.{dest_ok-Decides, any_revealed_at-Decides, none_revealed-Decides}

nothing-Decides : Decides false ⊥
nothing-Decides = (λ e. absurd (cc), λ h. absurd h)

-- ---- proved, unclaimed and opened

false-Decides : (b : Bool) → Decides (not b) (b ≡ false)
false-Decides true = (λ e. absurd (cc), λ e. absurd (cc))
false-Decides false = (λ e. refl, λ e. refl)

dest_proved-Decides : (f : Facts) (p : Contents) (issue send : ℕ) → Decides (dest_proved f p issue send) (DestProved f p issue send)
unfolding dest_proved
dest_proved-Decides f p issue send =
    Decides-like _
    (λ h. record { tagged = h.0.0.0; provenance = h.0.0.1; issue_is = h.0.1; send_is = h.1 })
    (λ v. (((v.tagged, v.provenance), v.issue_is), v.send_is))
    (Decides-and _ _
    (Decides-and _ _ (Decides-and _ _ (true-Decides (is_tagged p.first)) (dest_ok-Decides f p)) (Decides-eqb issue 0))
    (is_number-Decides send (option_map (λ s. s.emission) (sent_as f.sends p))))

dest_opened-Decides : (t : Network) (f : Facts) (p : Contents) (step : ℕ) → Decides (dest_opened t f p step) (DestOpened t f p step)
unfolding dest_opened
dest_opened-Decides t f p step =
    Decides-like _
    (λ h. record { tagged = h.0.0; no_provenance = h.0.1; revealed = h.1 })
    (λ v. ((v.tagged, v.no_provenance), v.revealed))
    (Decides-and _ _
    (Decides-and _ _ (true-Decides (is_tagged p.first)) (Decides-not _ (dest_ok-Decides f p)))
    (any_revealed_at-Decides f.reveals (holders (dest_name t p)) step))

-- ---- forged

-- what it means that a packet was sent over the hop
abbrev SentOver : Facts → HopName → Contents → ℕ → Sent → Type 0
SentOver f x p j s =
    ((s.packet.first ≡ p.first) × (path_bytes s.packet.route ≡ path_bytes p.route)) × (sent_name f.issues s j ≡ Some x)

is_sent_over-Decides : (f : Facts) (x : HopName) (p : Contents) (j : ℕ) (s : Sent) → Decides (is_sent_over f x p j s) (SentOver f x p j s)
unfolding is_sent_over same_path
is_sent_over-Decides f x p j s =
    Decides-and _ _
    (Decides-and _ _ (Decides-eqb s.packet.first p.first) (bytes_eq-Decides (path_bytes s.packet.route) (path_bytes p.route)))
    (is_named-Decides x (sent_name f.issues s j))

is_forged_update-Decides : (t : Network) (f : Facts) (x : HopName) (p : Contents) (j : ℕ) → Decides (is_forged_update t f x p j) (IsForgedUpdate t f x p j)
unfolding is_forged_update
is_forged_update-Decides t f x p j =
    Decides-like _
    (λ h. let s = h.0.0.0.1 in
    record {
      level = h.0.0.0.0;
      send = s.value;
      only = only_send-there f.sends p s.value s.is;
      first_is = s.passes.0.0;
      path_is = s.passes.0.1;
      named = s.passes.1;
      field_is = h.0.0.1;
      not_given_out = h.0.1;
      not_revealed = h.1;
    })
    (λ v. (
      (
        (
          (
            v.level,
            record { value = v.send; is = only_send-is f.sends p v.send v.only; passes = ((v.first_is, v.path_is), v.named) },
          ),
          v.field_is,
        ),
        v.not_given_out,
      ),
      v.not_revealed,
    ))
    (Decides-and _ _
    (Decides-and _ _
    (Decides-and _ _
    (Decides-and _ _
    (true-Decides (is_updated p.first))
    (passes-Decides (is_sent_over f x p j) (SentOver f x p j) (is_sent_over-Decides f x p j) (only_send f.sends p)))
    (bytes_eq-Decides (field p j) (update_of t x p j)))
    (Decides-not _ (given_out-Decides t f.passes x.asn p.src (epoch_of t.profile p.ts) (hop_message t x p j))))
    (none_revealed-Decides f.reveals (holders (field_name t x.asn p))))

-- the owner of a field's key is its AS
owner_is : (t : Network) (a : AsId) (p : Contents) (k : KeyName) → k ≡ field_name t a p → owner k ≡ a
unfolding owner field_name
owner_is t a p k e = ap owner e

update_forged-Decides : (t : Network) (f : Facts) (p : Contents) (r : Forgery) → Decides (update_forged t f p r) (UpdateForged t f p r)
unfolding update_forged
update_forged-Decides t f p r =
    Decides-like _
    (λ h. record { asn = owner r.key; no_provenance = h.0.0; forged = h.0.1; key_is = h.1 })
    (λ v. let same = sym (owner_is t v.asn p r.key v.key_is) in (
      (v.no_provenance, subst (λ a. IsForgedUpdate t f (hop_name a r.generation p r.hop) p r.hop) same v.forged),
      v.key_is ∙ ap (λ a. field_name t a p) same,
    ))
    (Decides-and _ _
    (Decides-and _ _ (Decides-not _ (dest_ok-Decides f p))
    (is_forged_update-Decides t f (hop_name (owner r.key) r.generation p r.hop) p r.hop))
    (same_key-Decides r.key (field_name t (owner r.key) p)))

is_forged_dest-Decides : (t : Network) (f : Facts) (p : Contents) → Decides (is_forged_dest t f p) (IsForgedDest t f p)
unfolding is_forged_dest
is_forged_dest-Decides t f p =
    Decides-like _
    (λ h. record { tagged = h.0.0.0; dest_field_is = h.0.0.1; not_made = h.0.1; not_revealed = h.1 })
    (λ v. (((v.tagged, v.dest_field_is), v.not_made), v.not_revealed))
    (Decides-and _ _
    (Decides-and _ _
    (Decides-and _ _ (true-Decides (is_tagged p.first)) (bytes_eq-Decides p.dest_field (dest_field_of t p (own_updates p))))
    (Decides-not _ (made_dest-Decides t f p.dst p.src (epoch_of t.profile p.ts) (dest_message p (own_updates p)))))
    (none_revealed-Decides f.reveals (holders (dest_name t p))))

dest_forged-Decides : (t : Network) (f : Facts) (p : Contents) (r : Forgery) → Decides (dest_forged t f p r) (DestForged t f p r)
unfolding dest_forged
dest_forged-Decides t f p r =
    Decides-like _
    (λ h. record { no_provenance = h.0.0.0.0; forged = h.0.0.0.1; hop_is = h.0.0.1; key_is = h.0.1; generation_is = h.1 })
    (λ v. ((((v.no_provenance, v.forged), v.hop_is), v.key_is), v.generation_is))
    (Decides-and _ _
    (Decides-and _ _
    (Decides-and _ _
    (Decides-and _ _ (Decides-not _ (dest_ok-Decides f p)) (is_forged_dest-Decides t f p))
    (Decides-eqb r.hop 0))
    (same_key-Decides r.key (dest_name t p)))
    (Decides-eqb r.generation 0))

arrival_forged-Decides : (t : Network) (f : Facts) (p : Contents) (r : Forgery) (k : ForgedKind)
    → Decides (arrival_forged t f p r k) (ArrivalForged t f p r k)
arrival_forged-Decides t f p r kind.Update = update_forged-Decides t f p r
arrival_forged-Decides t f p r kind.Dest = dest_forged-Decides t f p r
arrival_forged-Decides t f p r kind.Issue = nothing-Decides
arrival_forged-Decides t f p r kind.Field = nothing-Decides

-- ---- collided

abbrev TwinAt : Network → Facts → Contents → Collision → Uncovered → Type 0
TwinAt t f p c u = ((has_update t p u ≡ true) × (twin_pass t f p u ≡ Some c.left)) × (c.right ≡ u.name)

collided_with_pass-Decides : (t : Network) (f : Facts) (p : Contents) (c : Collision) → Decides (collided_with_pass t f p c) (CollidedWithPass t f p c)
unfolding collided_with_pass
collided_with_pass-Decides t f p c =
    Decides-like _
    (λ h. let u = h.0.1 in
    record { tagged = h.0.0; hop = u.value; first_hop = u.is; updated = u.passes.0.0; left_is = u.passes.0.1; right_is = u.passes.1; collided = h.1 })
    (λ v. ((v.tagged, record { value = v.hop; is = v.first_hop; passes = ((v.updated, v.left_is), v.right_is) }), v.collided))
    (Decides-and _ _
    (Decides-and _ _ (true-Decides (is_tagged p.first))
    (passes-Decides _ (TwinAt t f p c)
    (λ u. Decides-and _ _
    (Decides-and _ _ (true-Decides (has_update t p u)) (is_named-Decides c.left (twin_pass t f p u)))
    (same_name-Decides c.right u.name))
    (uncovered f p)))
    (one_sigma-Decides t c.left c.right))

arrival_collided-Decides : (t : Network) (f : Facts) (p : Contents) (c : Collision) (part : Part)
    → Decides (arrival_collided t f p c part) (ArrivalCollided t f p c part)
arrival_collided-Decides t f p c Sigma = collided_with_pass-Decides t f p c
arrival_collided-Decides t f p c Link = nothing-Decides

-- ---- all

pub holds_of_dest-Decides : (t : Network) (f : Facts) (p : Contents) (v : Verdict) → Decides (holds_of_dest t f p v) (HoldsOfDest t f p v)
holds_of_dest-Decides t f p (Proved issue send) = dest_proved-Decides f p issue send
holds_of_dest-Decides t f p Unclaimed = false-Decides (is_tagged p.first)
holds_of_dest-Decides t f p (Opened step) = dest_opened-Decides t f p step
holds_of_dest-Decides t f p (Forged r) = arrival_forged-Decides t f p r r.kind
holds_of_dest-Decides t f p (Collided c) = arrival_collided-Decides t f p c c.part
