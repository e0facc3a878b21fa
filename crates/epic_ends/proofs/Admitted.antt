-- What holds where a send isn't refused.
use Rattle.std.proofs.Common.{◌≡◌, ℕ, ◌≤◌, Bool, List, [], ◌++◌, length, None, Ok, ap, subst, sym, ◌∙◌}
use Rattle.std.specs.Prelude.{IsTrue, if◌then◌else◌}
use Rattle.std.proofs.lemmas.Bool.{ltb-false}
use Rattle.epic_num.specs.declared.name.HostId.{HostId}
use Rattle.epic_num.specs.declared.segment.Leg.{Leg}
use Rattle.epic_num.specs.declared.name.AsId.{AsId}
use Rattle.epic_num.specs.declared.hop.Level.{Level}
use Rattle.epic_num.specs.Levels.{first_byte, is_tagged}
use Rattle.epic_num.specs.Paths.{is_lawful}
use Rattle.epic_layout.specs.Spelling.{Spells}
use Rattle.epic_num.specs.Tables.{first_row}
use Rattle.epic_num.proofs.TableLaws.{all_passed, row_passed, unless_ok}
use Rattle.epic_layout.specs.declared.wire.TheConstants.{MAX_PAYLOAD}
use Rattle.epic_topo.specs.Network.{Network}
use Rattle.epic_keys.specs.Fetches.{Fetch}
use Rattle.epic_ends.specs.Admitting.{admitted, end_rows, expiry_rows, key_owners, key_rows, send_rows}
use Rattle.epic_ends.specs.Sending.{packet_over, sent_packet}
use Rattle.epic_ends.specs.SentPackets.{HasFields, IsRightPacket}
use Rattle.epic_ends.proofs.Made.{made_packets_have_fields, sent_packets_are_made}
use Rattle.epic_ends.specs.Sources.{Sender, answer}

short : (known : AsId → Bool) (epoch : ℕ) (legs : List Leg) (first : ℕ) (src dst : HostId) (payload : List ℕ) (now : ℕ)
    → first_row (send_rows known epoch legs first src dst payload now) ≡ None → length payload ≤ MAX_PAYLOAD
unfolding send_rows end_rows
short known epoch legs first src dst payload now none =
    let rest = expiry_rows legs now ++ (if is_tagged first then key_rows known epoch (key_owners legs dst) else []) in
    let leads = row_passed _ _ (all_passed (end_rows legs src dst payload) rest none).0 in
    ltb-false MAX_PAYLOAD (length payload) (row_passed _ _ leads.1).0

-- the payload is short
pub short_payload : (t : Network) (fetched : Fetch → Bool) (s : Sender) (legs : List Leg) (first : ℕ) (dst : HostId) (payload : List ℕ) (now ts : ℕ)
    → Ok ts ≡ answer t fetched s legs first dst payload now → length payload ≤ MAX_PAYLOAD
unfolding answer admitted
short_payload t fetched s legs first dst payload now ts ok =
    short _ _ legs first s.host dst payload now (unless_ok _ _ ts (sym ok)).0

-- a packet that is sent over a lawful path is right
pub right_packet : (t : Network) (legs : List Leg) (version : ℕ) (level : Level) (first : ℕ) (src dst : HostId) (ts : ℕ) (payload bytes : List ℕ)
    → IsTrue (is_lawful legs) → first ≡ first_byte version level → Spells bytes (packet_over t (λ h. h.sigma) legs first src dst ts payload) → IsRightPacket t legs bytes
unfolding sent_packet
right_packet t legs version level first src dst ts payload bytes is first_is spells = record {
  faultless = spells.faultless;
  fields = λ sigmas. subst (HasFields t legs)
      (sym (spells.says
      ∙ (ap (λ n. packet_over t (λ h. h.sigma) legs n src dst ts payload) first_is
      ∙ sent_packets_are_made t legs version level src dst ts payload sigmas)))
      (made_packets_have_fields t legs (first_byte version level) src dst ts payload is);
}
