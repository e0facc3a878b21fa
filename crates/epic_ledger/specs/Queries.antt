-- What can be asked of a ledger. Each answer is the first that matches.
use Rattle.std.specs.Prelude.{ℕ, suc, ◌==◌, ◌&&◌, nat_lt, Bool, false, if◌then◌else◌, List, find, position, Option, None, Some, option_map, option_and_then, bytes_eq}
use Rattle.std.specs.Option.{option_map_or}
use Rattle.epic_num.specs.Chains.{Issue}
use Rattle.epic_num.specs.Same.{same_host, same_name, same_holder}
use Rattle.epic_num.specs.declared.hop.HopName.{HopName}
use Rattle.epic_num.specs.declared.key_name.Holder.{Holder}
use Rattle.epic_num.specs.declared.name.HostId.{HostId}
use Rattle.epic_layout.specs.Contents.{hop_count}
use Rattle.epic_layout.specs.Route.{Route}
use Rattle.epic_layout.specs.Spelling.{path_bytes}
use Rattle.epic_ledger.specs.History.{History}
use Rattle.epic_ledger.specs.Facts.{Facts, Sent, Pass, Reveal, sent_issue, pass_name, as_pass}

-- the number of the first issue of a name
unfoldable pub issue_of : List Issue → HopName → Option ℕ
issue_of issues x = option_map suc (position (λ i. same_name i.name x) issues)

-- the packet was sent by this source with this timestamp
unfoldable pub is_send_of : HostId → ℕ → Sent → Bool
is_send_of src ts s = same_host s.packet.src src && s.packet.ts == ts

-- the first packet that a source sent with a timestamp
unfoldable pub send_of : List Sent → HostId → ℕ → Option Sent
send_of sends src ts = find (is_send_of src ts) sends

-- the number of the issue that this packet has at a hop
unfoldable pub send_hop : Facts → HostId → ℕ → ℕ → Option ℕ
send_hop f src ts hop =
    option_and_then
    (λ s. if nat_lt hop (hop_count s.packet) then Some (sent_issue f.issues s hop) else None)
    (send_of f.sends src ts)

-- a hop of this name was accepted at this index of a packet with this first byte, source and timestamp
unfoldable pub is_pass_of : ℕ → HopName → HostId → ℕ → ℕ → Pass → Bool
is_pass_of first x src ts hop w =
    w.packet.first == first && same_name (pass_name w) x && same_host w.packet.src src && w.packet.ts == ts && w.hop == hop

-- the number of the first event by which it was
unfoldable pub pass_of : History → ℕ → HopName → HostId → ℕ → ℕ → Option ℕ
pass_of h first x src ts hop =
    position (λ e. option_map_or (is_pass_of first x src ts hop) (as_pass h.emissions e) false) h.events

-- the two have the same path bytes
unfoldable pub same_path : Route → Route → Bool
same_path r s = bytes_eq (path_bytes r) (path_bytes s)

-- a hop was accepted at this index of a packet with these path bytes
unfoldable pub is_on_path : Route → ℕ → Pass → Bool
is_on_path route hop w = w.hop == hop && same_path w.packet.route route

-- the first hop that was
unfoldable pub chain_pass : List Pass → Route → ℕ → Option Pass
chain_pass passes route hop = find (is_on_path route hop) passes

-- the first reveal of a holder
unfoldable pub reveal_of : List Reveal → Holder → Option Reveal
reveal_of reveals holder = find (λ r. same_holder r.holder holder) reveals
