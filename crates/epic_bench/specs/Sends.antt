-- What becomes of packets that a host sends one after the other.
use Rattle.std.specs.Prelude.{◌≡◌, ℕ, zero, suc, ◌+◌, Bool, List, [], ◌++◌, None, Some, Result, Ok, Err}
use Rattle.epic_cmac.specs.Cmac.{cmac}
use Rattle.epic_num.specs.BigEndian.{u64_bytes}
use Rattle.epic_num.specs.Levels.{first_byte}
use Rattle.epic_num.specs.declared.hop.Level.TheVariants.{L3}
use Rattle.epic_num.specs.declared.segment.Leg.{Leg}
use Rattle.epic_num.specs.declared.send_error.SendError.{SendError}
use Rattle.epic_keys.specs.Fetches.{Fetch}
use Rattle.epic_layout.specs.Spelling.{spelling}
use Rattle.epic_topo.specs.Network.{Network}
use Rattle.epic_topo.specs.Reading.{topology}
use Rattle.epic_ends.specs.Sending.{sent_packet}
use Rattle.epic_ends.specs.Sources.{answer}
use Rattle.epic_bench.specs.declared.arrived.TheConstants.{HOST}
use Rattle.epic_bench.specs.declared.offers.TheConstants.{SOURCE}
use Rattle.epic_bench.specs.declared.sends.Sending.{Sending}
use Rattle.epic_bench.specs.declared.sends.TheConstants.{PAYLOAD}
use Rattle.epic_bench.specs.declared.way.TheConstants.{CHAIN, NOW}
use Rattle.epic_bench.specs.declared.work.TheConstants.{KEY}

-- after one more packet, with this timestamp, or after a refusal
abbrev pub with_answer : Network → List Leg → Sending → Result ℕ SendError → Sending
with_answer t legs s (Ok ts) =
    record {
      source = record s.source { last = Some ts };
      count = s.count + 1;
      packet = spelling (sent_packet t legs 1 L3 s.source.host HOST ts PAYLOAD);
    }
with_answer t legs s (Err e) = s

unfoldable pub sent_one : Network → (Fetch → Bool) → List Leg → Sending → Sending
sent_one t fetched legs s = with_answer t legs s (answer t fetched s.source legs (first_byte 1 L3) HOST PAYLOAD NOW)

-- after so many, by a host that sent nothing before
unfoldable pub sent : Network → (Fetch → Bool) → List Leg → ℕ → Sending
sent t fetched legs zero = record { source = record { host = SOURCE; last = None }; count = 0; packet = [] }
sent t fetched legs (suc n) = sent_one t fetched legs (sent t fetched legs n)

abbrev pub sent_digest : Sending → List ℕ
sent_digest s = cmac KEY (u64_bytes s.count ++ s.packet)

-- 16 bytes that tell how many of so many packets a host of the chain's first AS sends over a path, and the last one's bytes
abbrev pub IsSentDigest : ℕ → List ℕ → Type 0
IsSentDigest rounds digest =
    (t : Network) × (topology CHAIN.now ≡ Ok t)
    × ((fetched : Fetch → Bool) × ((legs : List Leg) × (digest ≡ sent_digest (sent t fetched legs rounds))))
