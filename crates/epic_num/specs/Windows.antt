-- What a replay window tells of a packet, and the tests of a packet's time and of what is told, as routers and destinations make them.
use Rattle.std.specs.Prelude.{ℕ, Bool, nat_le, List, [], ◌∷◌, Option, is_some, unwrap_or}
use Rattle.epic_num.specs.declared.profile.Profile.{Profile}
use Rattle.epic_num.specs.Moments.{is_stale, is_early}

-- the step of the live entry with the packet's source, timestamp and hop, if there is one, and how many live entries have a source
-- in the AS of the packet's
pub record Told : Type 0 where
  pub first : Option ℕ
  pub live : ℕ

-- the packet was here before
unfoldable pub was_here : Told → Bool
was_here told = is_some told.first

-- the source's AS has as many live entries as a window holds of one AS
unfoldable pub has_no_room : Profile → Told → Bool
has_no_room profile told = nat_le profile.window told.live

-- ---- rows of tables: a test, and what is answered where it is met

-- the packet is too old, or too far ahead
unfoldable pub fresh_rows : {X : Type 0} → Profile → ℕ → ℕ → X → X → List (Bool × X)
fresh_rows profile ts now stale early = (is_stale profile ts now, stale) ∷ (is_early profile ts now, early) ∷ []

-- it was here before, at a step that is told, or there is no room, besides so many live entries
unfoldable pub window_rows : {X : Type 0} → Profile → Told → (ℕ → X) → (ℕ → X) → List (Bool × X)
window_rows profile told replay full =
    (was_here told, replay (unwrap_or told.first 0)) ∷ (has_no_room profile told, full told.live) ∷ []
