-- What a window knows a packet by, and what a router's window holds after a packet's turn.
use Rattle.std.specs.Prelude.{◌≡◌, ℕ, ◌+◌, ◌≤◌, Bool, true, false, ◌&&◌, if◌then◌else◌, ◌∷◌}
use Rattle.epic_num.specs.Levels.{is_timed}
use Rattle.epic_num.specs.Windows.{Told}
use Rattle.epic_num.specs.declared.turn.Turn.{Turn}
use Rattle.epic_num.specs.declared.turn.Turn.TheVariants.{Forward, Deliver, Refused}
use Rattle.epic_layout.specs.Contents.{Contents}
use Rattle.epic_window.specs.Entries.{Same, told_of}
use Rattle.epic_window.specs.Offers.{Held}
use Rattle.epic_window.specs.declared.key.WinKey.{WinKey}

-- a packet's key at a hop: a router's is the hop at which it came, a destination's the number of its hops
unfoldable pub key_at : Contents → ℕ → WinKey
key_at p hop = record { src = p.src; ts = p.ts; hop = hop }

-- what a router's window tells of a packet
unfoldable pub told : Held → ℕ → Contents → Told
told window now p = told_of window.profile window.entries now (key_at p p.current)

-- the packet goes on or is delivered
abbrev pub is_accepted : Turn → Bool
is_accepted (Forward out hops generations) = true
is_accepted (Deliver host hops generations) = true
is_accepted (Refused check hop) = false

-- A window before and after the turn of a packet with this key at a moment. It holds the key, with the turn's number, where the packet
-- is kept, and the same as before otherwise; the moment of its last offer is the turn's, or what it was.
pub record Retains (old new : Held) (key : WinKey) (now turn : ℕ) (kept : Bool) : Type 0 where
  pub entries : Same old.profile now new.entries (if kept then (key, turn) ∷ old.entries else old.entries)
  pub profile : new.profile ≡ old.profile
  pub since : old.latest ≤ new.latest
  pub latest : new.latest ≤ now
  pub spare : old.spare ≤ new.spare + (if kept then 1 else 0)

-- so a router's window: it retains the packets of levels 1 to 3 that the router accepts
abbrev pub Remembers : Held → Held → ℕ → ℕ → Contents → Bool → Type 0
Remembers old new now turn p accepted = Retains old new (key_at p p.current) now turn (accepted && is_timed p.first)
