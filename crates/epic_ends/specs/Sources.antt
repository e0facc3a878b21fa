-- A source as its callers see it, and what it answers.
use Rattle.std.specs.Prelude.{ℕ, Bool, List, Option, Result}
use Rattle.epic_num.specs.declared.name.HostId.{HostId}
use Rattle.epic_num.specs.declared.segment.Leg.{Leg}
use Rattle.epic_num.specs.declared.send_error.SendError.{SendError}
use Rattle.epic_num.specs.Moments.{epoch_of}
use Rattle.epic_topo.specs.Network.{Network}
use Rattle.epic_keys.specs.Fetches.{Fetch, is_known}
use Rattle.epic_ends.specs.Admitting.{admitted, next_ts}

-- the host that sends, and the timestamp of its last packet
pub record Sender : Type 0 where
  pub host : HostId
  pub last : Option ℕ

-- the timestamp of its next packet over a path, with this first byte, destination and payload, or the refusal, where these keys
-- were fetched
unfoldable pub answer : Network → (Fetch → Bool) → Sender → List Leg → ℕ → HostId → List ℕ → ℕ → Result ℕ SendError
answer t fetched s legs first dst payload now =
    let ts = next_ts s.last now in
    let epoch = epoch_of t.profile ts in
    admitted (λ a. is_known fetched (record { source = s.host.asn; owner = a; epoch = epoch })) epoch legs first s.host dst payload now ts
