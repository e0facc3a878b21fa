use Rattle.std.proofs.Common.{◌≡◌, ℕ, ◌+◌, ◌≤◌, drop}
use Rattle.std.specs.List.{flat_map, range_with_len}
use Rattle.epic_layout.specs.Contents.{hop_count}
use Rattle.epic_ledger.specs.Facts.{Sent, facts_of}
use Rattle.epic_index.specs.Numbered.{with_keys}
use Rattle.epic_index.specs.Fields.{field_keys_at}
use Rattle.epic_index.proofs.fields.add_hops.Given as goal

abbrev pub invariant-loop-hop : goal.invariant-loop-hop
invariant-loop-hop l = record {
  rows : (emission : ℕ)
      → (let s : Sent = record { emission = emission; segments = l.segments; packet = l.packet } in
      let issues = (facts_of l.ledger.history).issues in
      with_keys l.fields.rows l.number (flat_map (field_keys_at l.topo issues s) (drop l.hop (range_with_len 0 (hop_count l.packet))))
      ≡ with_keys l.initial.fields.rows l.number (flat_map (field_keys_at l.topo issues s) (range_with_len 0 (hop_count l.packet))));
  spare : 32 ≤ l.fields.spare + l.hop;
}
