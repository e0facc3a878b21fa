use Rattle.std.proofs.Common.{◌≡◌, map, take, None}
use Rattle.epic_num.specs.Tables.{first_row}
use Rattle.epic_keys.specs.Fetches.{is_fetched, is_known}
use Rattle.epic_ends.specs.Admitting.{key_rows}
use Rattle.epic_ends.proofs.admitting.hop_key_refusal.Given as goal

abbrev pub invariant-loop-hop : goal.invariant-loop-hop
invariant-loop-hop l =
    first_row (key_rows (λ a. is_known (is_fetched l.keys) (record { source = l.source; owner = a; epoch = l.epoch })) l.epoch
    (map (λ h. h.asn) (take l.hop-index l.hops))) ≡ None
