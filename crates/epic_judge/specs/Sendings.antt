-- Private: packets that were sent as one that a destination took, and what is asked of single events about it.
use Rattle.std.specs.Prelude.{◌≡◌, ℕ, ◌<◌, ◌==◌, ◌&&◌, ◌||◌, not, Bool, false, List, map, Option, Some, None, option_and_then, unwrap_or, bytes_eq, if◌then◌else◌, IsTrue}
use Rattle.std.specs.List.{list_any, range_with_len}
use Rattle.std.specs.Option.{option_map_or}
use Rattle.epic_num.specs.declared.hop.HopName.{HopName}
use Rattle.epic_num.specs.declared.key_name.Holder.TheVariants.{As, Host}
use Rattle.epic_num.specs.declared.name.AsId.{AsId}
use Rattle.epic_num.specs.declared.name.HostId.{HostId}
use Rattle.epic_num.specs.Chains.{no_name}
use Rattle.epic_num.specs.Levels.{is_tagged, is_updated}
use Rattle.epic_num.specs.Moments.{epoch_of}
use Rattle.epic_num.specs.Same.{same_as, same_host}
use Rattle.epic_layout.specs.Contents.{Contents, hop_count}
use Rattle.epic_layout.specs.Spelling.{dest_message, update_count}
use Rattle.epic_topo.specs.Network.{Network, has}
use Rattle.epic_fields.specs.PacketTags.{hop_message}
use Rattle.epic_ledger.specs.History.{History}
use Rattle.epic_ledger.specs.Facts.{Facts, Sent, Pass, facts_of, pass_name, sent_name}
use Rattle.epic_ledger.specs.Queries.{same_path, send_of}
use Rattle.epic_audit.specs.Clauses.{sent_as}
use Rattle.epic_audit.specs.Reveals.{is_revealed}
use Rattle.epic_audit.specs.Searches.{is_passed}
use Rattle.epic_audit.specs.Verdicts.{is_twin_pass}
use Rattle.epic_audit.specs.declared.uncovered.Uncovered.{Uncovered}
use Rattle.epic_index.specs.Events.{send_at}
use Rattle.epic_judging.specs.Given.{only_send}
use Rattle.epic_judge.specs.declared.dest_sent.Sending.{Sending}
use Rattle.epic_judge.specs.Walks.{update_at}

-- ---- what was sent

-- the name of hop j of the packet that was sent by the event of this number
unfoldable pub name_by : History → ℕ → ℕ → Option HopName
name_by h event j = option_and_then (λ s. sent_name (facts_of h).issues s j) (send_at h event)

-- it is the first packet that was sent as p is
pub record IsSending (h : History) (p : Contents) (r : Sending) : Type 0 where
  pub send : Sent
  pub found : sent_as (facts_of h).sends p ≡ Some send
  pub emission_is : r.emission ≡ send.emission
  pub hops_is : r.hops ≡ hop_count send.packet
  pub within : r.hops ≡ hop_count p
  pub place_is : send_at h r.event ≡ Some send

abbrev pub IsSentAs : History → Contents → Option Sending → Type 0
IsSentAs h p None = sent_as (facts_of h).sends p ≡ None
IsSentAs h p (Some r) = IsSending h p r

-- the name of hop j of the one packet that p's source sent with p's timestamp, where it has p's first byte and path bytes
abbrev pub over : Facts → Contents → ℕ → Sent → Option HopName
over f p j s = if s.packet.first == p.first && same_path s.packet.route p.route then sent_name f.issues s j else None

unfoldable pub sent_over : Facts → Contents → ℕ → Option HopName
sent_over f p j = option_and_then (over f p j) (only_send f.sends p)

-- it has this name, of an AS of the network, and p has the hop
pub record IsSentOver (t : Network) (f : Facts) (p : Contents) (j : ℕ) (x : HopName) : Type 0 where
  pub name_is : sent_over f p j ≡ Some x
  pub within : j < hop_count p
  pub known : IsTrue (has t x.asn)

abbrev pub IsOver : Network → Facts → Contents → ℕ → Option HopName → Type 0
IsOver t f p j None = sent_over f p j ≡ None
IsOver t f p j (Some x) = IsSentOver t f p j x

-- ---- hops that aren't covered

-- hop i has a name, and was neither accepted nor was its AS revealed
abbrev pub is_open : Facts → Contents → (ℕ → Option HopName) → ℕ → Bool
is_open f p names i = option_map_or (λ x. not (is_revealed f.reveals (As x.asn) || is_passed f x p i)) (names i) false

abbrev pub open_hop : (ℕ → Option HopName) → ℕ → ℕ × HopName
open_hop names i = (i, unwrap_or (names i) no_name)

-- no router has to have passed p on
abbrev pub is_exempt : Facts → Contents → Bool
is_exempt f p = not (is_updated p.first) || (is_revealed f.reveals (Host p.src) || is_revealed f.reveals (As p.src.asn))

-- ---- single events

-- a packet, whose hops have these names, was sent by this source to this destination in this epoch over this message
abbrev pub makes_dest_by : Network → HostId → HostId → ℕ → List ℕ → Contents → (ℕ → Option HopName) → Bool
makes_dest_by t dst src epoch message p names =
    same_host p.src src
    && same_host p.dst dst
    && is_tagged p.first
    && epoch_of t.profile p.ts == epoch
    && bytes_eq (dest_message p (map (update_at t p names) (range_with_len 0 (update_count p.first (hop_count p))))) message
