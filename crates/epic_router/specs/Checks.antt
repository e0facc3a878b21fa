-- A router's checks of a packet, as a table of which the first row that applies is the answer.
use Rattle.std.specs.Prelude.{ℕ, ◌+◌, ◌==◌, Bool, not, ◌&&◌, ◌||◌, if◌then◌else◌, List, [], ◌∷◌, ◌++◌, is_none}
use Rattle.std.specs.Bool.{beq}
use Rattle.epic_num.specs.declared.name.AsId.{AsId}
use Rattle.epic_num.specs.declared.turn.Check.{Check}
use Rattle.epic_num.specs.declared.turn.Check.TheVariants.{Ended, WrongIngress, WrongSource, PathFuture, Expired, Stale, Early, BadField, BadLink, WrongSwitch, NoInterface, WrongDestination, Replay, WindowFull}
use Rattle.epic_num.specs.Levels.{is_timed}
use Rattle.epic_num.specs.Moments.{is_path_future, is_expired}
use Rattle.epic_num.specs.Same.{same_as}
use Rattle.epic_num.specs.Windows.{Told, fresh_rows as fresh_rows_of, window_rows as window_rows_of}
use Rattle.epic_layout.specs.Contents.{Contents, hop_count}
use Rattle.epic_layout.specs.Route.{place, is_first, is_last, ingress, egress, body}
use Rattle.epic_topo.specs.Network.{Network, neighbour}
use Rattle.epic_router.specs.Candidates.{some_field_fits, accepting}

-- ---- which hops a router handles

-- A packet comes to a router at hop j: at its first hop, or at one that isn't the first of its segment. The first hop of a later
-- segment is handled with the hop before it.
unfoldable pub is_turn : Contents → ℕ → Bool
is_turn p j = j == 0 || not (is_first (place p.route.segments j))

-- The router that handles hop j handles the next hop too: j is the last of its segment, and another segment begins in the same AS.
unfoldable pub has_second : Contents → ℕ → Bool
has_second p j = is_last (place p.route.segments j) && not (j + 1 == hop_count p)

-- how many hops it handles, from hop j on, and the last of them
unfoldable pub handled_hops : Contents → ℕ → ℕ
handled_hops p j = if has_second p j then 2 else 1

unfoldable pub last_handled : Contents → ℕ → ℕ
last_handled p j = if has_second p j then j + 1 else j

-- ---- the table

-- a row: whether its check fails, and then the check with the hop that it names
abbrev pub Row : Type 0
Row = Bool × (Check × ℕ)

-- one of two tests is met without the other
abbrev pub differ : Bool → Bool → Bool
differ a b = not (beq a b)

-- A packet comes from inside the AS, by interface 0, exactly where it is at its first hop, and then its source is there.
-- This one doesn't.
unfoldable pub is_wrong_source : AsId → ℕ → Contents → Bool
is_wrong_source a iface p = differ (iface == 0) (p.current == 0) || (iface == 0 && not (same_as p.src.asn a))

-- A segment is entered from inside an AS exactly at its first hop, and left so exactly at its last. This one isn't.
unfoldable pub is_wrong_switch : Contents → ℕ → Bool
is_wrong_switch p j =
    let at = place p.route.segments j in
    differ (ingress p.route j == 0) (is_first at) || differ (egress p.route j == 0) (is_last at)

-- how the packet comes to hop j
unfoldable pub entry_rows : AsId → ℕ → Contents → ℕ → List Row
entry_rows a iface p j =
    -- every hop was handled before
    (j == hop_count p, (Ended, j))
    -- it came in elsewhere than by the hop's ingress
    ∷ (not (iface == ingress p.route j), (WrongIngress, j))
    -- it comes from inside without being at its source, or from outside at its first hop
    ∷ (is_wrong_source a iface p, (WrongSource, j))
    ∷ []

-- hop j's validity
unfoldable pub valid_rows : Network → ℕ → Contents → ℕ → List Row
valid_rows t now p j =
    -- its segment's timestamp lies too far ahead
    (is_path_future t.profile (body p.route j).ts_path now, (PathFuture, j))
    -- its validity is over
    ∷ (is_expired (body p.route j).ts_path (body p.route j).exp now, (Expired, j))
    ∷ []

-- the packet's freshness, at levels 1 to 3
unfoldable pub fresh_rows : Network → ℕ → Contents → ℕ → List Row
fresh_rows t now p j = if is_timed p.first then fresh_rows_of t.profile p.ts now (Stale, j) (Early, j) else []

-- hop j's tags
unfoldable pub tag_rows : Network → AsId → List ℕ → Contents → ℕ → List Row
tag_rows t a candidates p j =
    -- its field is right under no generation
    (not (some_field_fits t a candidates p j), (BadField, j))
    -- under none are both its field and the link tag that the next hop carries
    ∷ (is_none (accepting t a candidates p j), (BadLink, j))
    ∷ []

-- hop j's segment is entered or left elsewhere than at its ends
unfoldable pub switch_rows : Contents → ℕ → List Row
switch_rows p j = (is_wrong_switch p j, (WrongSwitch, j)) ∷ []

-- the hop after hop j, where the router handles it too
unfoldable pub second_rows : Network → AsId → List ℕ → ℕ → Contents → ℕ → List Row
second_rows t a candidates now p j =
    if has_second p j
    then valid_rows t now p (j + 1) ++ (tag_rows t a candidates p (j + 1) ++ switch_rows p (j + 1))
    else []

-- how the packet leaves hop j
unfoldable pub exit_rows : Network → AsId → Contents → ℕ → List Row
exit_rows t a p j =
    -- it goes on by an interface without a link
    (not (egress p.route j == 0) && is_none (neighbour t a (egress p.route j)), (NoInterface, j))
    -- it ends in another AS than its destination's
    ∷ (egress p.route j == 0 && not (same_as p.dst.asn a), (WrongDestination, j))
    ∷ []

-- the packet was here before, or there is no room to remember it, at levels 1 to 3
unfoldable pub window_rows : Network → Told → Contents → ℕ → List Row
window_rows t told p j =
    if is_timed p.first
    then window_rows_of t.profile told (λ first. (Replay first, j)) (λ live. (WindowFull live, j))
    else []

-- All checks of a packet by the router of an AS that it comes to by an interface, where the router tries these generations of the
-- AS's forwarding key and its window tells this.
unfoldable pub rows : Network → AsId → List ℕ → ℕ → ℕ → Told → Contents → List Row
rows t a candidates iface now told p =
    let j = p.current in
    entry_rows a iface p j
    ++ (valid_rows t now p j
    ++ (fresh_rows t now p j
    ++ (tag_rows t a candidates p j
    ++ (switch_rows p j
    ++ (second_rows t a candidates now p j
    ++ (exit_rows t a p (last_handled p j)
    ++ window_rows t told p j))))))
