-- Packets in the order of their moments.
use Rattle.std.proofs.Common.{ℕ, ◌+◌, ◌<◌, ◌≤◌, List, [], ◌∷◌, ◌++◌, arith}
use Rattle.std.proofs.lemmas.Bool.{lt-ltb, ltb-true}
use Rattle.epic_policer.specs.Offers.{is_live}
use Rattle.epic_policer.specs.Queue.{AllLive, InOrder, StartsLive}
use Rattle.epic_policer.specs.declared.packet.Packet.{Packet}

pub order_earlier : (from earlier latest : ℕ) (ps : List Packet) → earlier ≤ from → InOrder from latest ps → InOrder earlier latest ps
unfolding InOrder
order_earlier from earlier latest [] le h = omega arith
order_earlier from earlier latest (p ∷ ps) le h = let l = h.0 in (omega arith, h.1)

-- what stands behind the first
pub order_left : (from latest : ℕ) (p : Packet) (ps : List Packet) → InOrder from latest (p ∷ ps) → InOrder from latest ps
unfolding InOrder
order_left from latest p ps h = order_earlier p.moment from latest ps h.0 h.1

pub order_later : (from latest now : ℕ) (ps : List Packet) → latest ≤ now → InOrder from latest ps → InOrder from now ps
unfolding InOrder
order_later from latest now [] le h = omega arith
order_later from latest now (p ∷ ps) le h = (h.0, order_later p.moment latest now ps le h.1)

pub order_push : (from : ℕ) (p : Packet) (ps : List Packet) → InOrder from p.moment ps → InOrder from p.moment (ps ++ p ∷ [])
unfolding InOrder
order_push from p [] h = (h, omega arith)
order_push from p (q ∷ ps) h = (h.0, order_push q.moment p ps h.1)

pub no_order : (from latest : ℕ) → from ≤ latest → InOrder from latest []
unfolding InOrder
no_order from latest h = h

-- all that came no earlier than a live moment is live
live_from : (from latest span now : ℕ) (ps : List Packet) → now < from + span → InOrder from latest ps → AllLive span now ps
unfolding InOrder is_live
live_from from latest span now [] lt h = tt
live_from from latest span now (p ∷ ps) lt h =
    let l = h.0 in
    let ends : now < p.moment + span = omega arith in
    (lt-ltb now (p.moment + span) ends, live_from p.moment latest span now ps ends h.1)

-- so where the first is live, all are
pub all_live : (from latest span now : ℕ) (ps : List Packet) → InOrder from latest ps → StartsLive span now ps → AllLive span now ps
unfolding InOrder is_live
all_live from latest span now [] h live = tt
all_live from latest span now (p ∷ ps) h live = (live, live_from p.moment latest span now ps (ltb-true now (p.moment + span) live) h.1)
