use Rattle.std.proofs.Common.{◌≡◌, ℕ, ◌≤◌}
use Rattle.epic_pool.specs.Pool.{value_of}
use Rattle.epic_pool.proofs.pool.Pool.reserve.Given as goal

-- the lists stay, and the counter is the room
abbrev pub invariant-loop : goal.invariant-loop
invariant-loop g l =
    (l.self.a ≡ l.fn.self.a)
    × (l.self.b ≡ l.fn.self.b)
    × ((node : ℕ) → value_of l.self node ≡ value_of l.fn.self node)
    × (l.self.spare ≡ l.counter)
    × (l.fn.self.spare ≤ l.counter)
