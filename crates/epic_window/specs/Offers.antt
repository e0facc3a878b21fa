-- What a replay window answers to an offer, and what the offer leaves.
use Rattle.std.specs.Prelude.{◌≡◌, ℕ, ◌+◌, ◌≤◌, nat_le, if◌then◌else◌, ◌∷◌, Option, Some, None}
use Rattle.epic_num.specs.declared.profile.Profile.{Profile}
use Rattle.epic_window.specs.Entries.{Entries, Same, seen, count}
use Rattle.epic_window.specs.declared.key.WinKey.{WinKey}
use Rattle.epic_window.specs.declared.offer.Offer.{Offer}
use Rattle.epic_window.specs.declared.offer.Offer.TheVariants.{Fresh, Seen, Full}

-- a window: its settings, its entries in some order, the moment of its last offer (0 before the first), and for how many more
-- entries it has room
pub record Held : Type 0 where
  pub profile : Profile
  pub entries : Entries
  pub latest : ℕ
  pub spare : ℕ

-- the answer where so many entries of the source's AS are live, by the turn of the live entry with the key
abbrev pub answer_at : Profile → ℕ → Option ℕ → Offer
answer_at profile live (Some first) = Seen first
answer_at profile live None = if nat_le profile.window live then Full live else Fresh

unfoldable pub answer : Profile → Entries → WinKey → ℕ → Offer
answer profile entries key now = answer_at profile (count profile entries now key.src.asn) (seen profile entries now key)

-- the entries after an offer that was answered so: a fresh key is one more
abbrev pub after : Entries → WinKey → ℕ → Offer → Entries
after entries key turn Fresh = (key, turn) ∷ entries
after entries key turn _ = entries

-- how much room the answer uses up at most
abbrev pub taken : Offer → ℕ
taken Fresh = 1
taken _ = 0

-- an offer of a key at a moment, in a turn, was answered so
pub record Offers (old new : Held) (key : WinKey) (now turn : ℕ) (given : Offer) : Type 0 where
  pub answers : given ≡ answer old.profile old.entries key now
  pub entries : Same old.profile now new.entries (after old.entries key turn given)
  pub latest : new.latest ≡ now
  pub profile : new.profile ≡ old.profile
  pub spare : old.spare ≤ new.spare + taken given
