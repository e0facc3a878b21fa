-- Damage of a capture in the form of pcapng.
use Rattle.std.specs.Prelude.{ℕ, Bool, true, false}
use Rattle.epic_pcapng.specs.declared.damage.NgError.{NgError}
use Rattle.epic_pcapng.specs.declared.damage.NgKind.{NgKind}
use Rattle.epic_pcapng.specs.declared.damage.NgKind.TheVariants.{Truncated}

abbrev pub damage : NgKind → ℕ → NgError
damage kind offset = record { kind = kind; offset = offset }

-- the file ends too early, so that further bytes may mend it
abbrev pub is_truncated : NgKind → Bool
is_truncated Truncated = true
is_truncated _ = false
