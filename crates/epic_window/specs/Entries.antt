-- The entries of a replay window: which of them are live at a moment. Nothing here depends on their order.
use Rattle.std.specs.Prelude.{◌≡◌, ℕ, ◌≤◌, Bool, ◌&&◌, ◌==◌, List, Option, count_by}
use Rattle.std.specs.Map.{lookup}
use Rattle.epic_num.specs.Moments.{is_live}
use Rattle.epic_num.specs.Same.{same_as, same_host}
use Rattle.epic_num.specs.Windows.{Told}
use Rattle.epic_num.specs.declared.name.AsId.{AsId}
use Rattle.epic_num.specs.declared.profile.Profile.{Profile}
use Rattle.epic_window.specs.declared.key.WinKey.{WinKey}

-- the key of each entry, and the turn that it came in
abbrev pub Entries : Type 0
Entries = List (WinKey × ℕ)

unfoldable pub same_win_key : WinKey → WinKey → Bool
same_win_key k l = same_host k.src l.src && (k.ts == l.ts && k.hop == l.hop)

-- the turn of the live entry with this key
unfoldable pub seen : Profile → Entries → ℕ → WinKey → Option ℕ
seen profile entries now key = lookup (λ k. same_win_key key k && is_live profile k.ts now) entries

-- how many live entries have a source in this AS
unfoldable pub count : Profile → Entries → ℕ → AsId → ℕ
count profile entries now asn = count_by (λ e. same_as e.0.src.asn asn && is_live profile e.0.ts now) entries

-- what a window with these entries tells of a key at a moment
unfoldable pub told_of : Profile → Entries → ℕ → WinKey → Told
told_of profile entries now key = record { first = seen profile entries now key; live = count profile entries now key.src.asn }

-- two windows hold the same from a moment on: the same is live in both at every later moment
pub record Same (profile : Profile) (from : ℕ) (entries others : Entries) : Type 0 where
  pub seen_is : (now : ℕ) (key : WinKey) → from ≤ now → seen profile entries now key ≡ seen profile others now key
  pub count_is : (now : ℕ) (asn : AsId) → from ≤ now → count profile entries now asn ≡ count profile others now asn
