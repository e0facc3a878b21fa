-- What becomes of packets of one AS that are offered to a replay window at even distances.
use Rattle.std.specs.Prelude.{ℕ, zero, suc, ◌+◌, ◌*◌, List, []}
use Rattle.epic_cmac.specs.Cmac.{cmac}
use Rattle.epic_num.specs.BigEndian.{u64_bytes}
use Rattle.epic_window.specs.Entries.{Entries}
use Rattle.epic_window.specs.Offers.{after, answer}
use Rattle.epic_window.specs.declared.key.WinKey.{WinKey}
use Rattle.epic_window.specs.declared.offer.Offer.{Offer}
use Rattle.epic_window.specs.declared.offer.Offer.TheVariants.{Fresh, Seen, Full}
use Rattle.epic_bench.specs.declared.offers.TheConstants.{PROFILE, SOURCE}
use Rattle.epic_bench.specs.declared.way.TheConstants.{NOW}
use Rattle.epic_bench.specs.declared.work.Load.{Load}
use Rattle.epic_bench.specs.declared.work.Load.TheVariants.{One, Hundred, Thousands}
use Rattle.epic_bench.specs.declared.work.TheConstants.{KEY}

-- how many microseconds lie between two offers, so that about one, a hundred or 4,096 packets are live
abbrev pub step_of : Load → ℕ
step_of One = 2000000
step_of Hundred = 20000
step_of Thousands = 488

-- the moment of an offer, and the key of its packet, whose timestamp it is
unfoldable pub moment_of : Load → ℕ → ℕ
moment_of load i = NOW + i * step_of load

unfoldable pub key_of : Load → ℕ → WinKey
key_of load i = record { src = SOURCE; ts = moment_of load i; hop = 0 }

abbrev pub fresh_by : Offer → ℕ
fresh_by Fresh = 1
fresh_by (Seen first) = 0
fresh_by (Full live) = 0

-- the entries of a window, and how many packets weren't here before
pub record Heard : Type 0 where
  pub entries : Entries
  pub fresh : ℕ

-- after one more offer, the number of which is its turn
unfoldable pub heard_one : Load → ℕ → Heard → Heard
heard_one load i h =
    let given = answer PROFILE h.entries (key_of load i) (moment_of load i) in
    record { entries = after h.entries (key_of load i) i given; fresh = h.fresh + fresh_by given }

-- after so many offers to an empty window
unfoldable pub heard : Load → ℕ → Heard
heard load zero = record { entries = []; fresh = 0 }
heard load (suc n) = heard_one load n (heard load n)

-- the tag of how many packets weren't here before
unfoldable pub offers_digest : Load → ℕ → List ℕ
offers_digest load rounds = cmac KEY (u64_bytes (heard load rounds).fresh)
