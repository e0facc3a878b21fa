-- Private: the sends from an event on, and what is asked of one of them.
use Rattle.std.specs.Prelude.{ℕ, ◌&&◌, List, [], drop, filter_map, Bool, false, bytes_eq, Option, Some, None, if◌then◌else◌}
use Rattle.std.specs.Option.{option_map_or}
use Rattle.epic_num.specs.Same.{same_as}
use Rattle.epic_num.specs.declared.hop.HopName.{HopName}
use Rattle.epic_num.specs.declared.name.AsId.{AsId}
use Rattle.epic_topo.specs.Network.{Network}
use Rattle.epic_fields.specs.PacketTags.{hop_message, update_of}
use Rattle.epic_layout.specs.Contents.{Contents}
use Rattle.epic_ledger.specs.History.{History}
use Rattle.epic_ledger.specs.Facts.{Facts, Sent, Pass, as_send, as_pass, sent_name}
use Rattle.epic_audit.specs.Clauses.{is_sent_like}
use Rattle.epic_audit.specs.Verdicts.{is_named}

abbrev pub sends_from : History → ℕ → List Sent
sends_from h n = filter_map (as_send h.emissions) (drop n h.events)

-- the update that the router of hop j, whose name this is, was to give out
abbrev pub update_at : Network → Contents → (ℕ → Option HopName) → ℕ → List ℕ
update_at t p names j = option_map_or (λ x. update_of t x p j) (names j) []
