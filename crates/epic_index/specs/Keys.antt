-- What facts are sought by.
use Rattle.std.specs.Prelude.{ℕ, Bool, ◌&&◌, ◌==◌}
use Rattle.epic_num.specs.declared.key_name.Holder.{Holder}
use Rattle.epic_num.specs.declared.key_name.Holder.TheVariants.{As, Host}
use Rattle.epic_ledger.specs.Facts.{Reveal}
use Rattle.epic_index.specs.declared.reveals.RevealKey.{RevealKey}

abbrev pub holder_key : ℕ → Holder → RevealKey
holder_key step (As a) = record { step = step; kind = 0; asn = a.0; host = 0 }
holder_key step (Host h) = record { step = step; kind = 1; asn = h.asn.0; host = h.host }

abbrev pub reveal_eq : RevealKey → RevealKey → Bool
reveal_eq k l = k.step == l.step && (k.kind == l.kind && (k.asn == l.asn && k.host == l.host))

unfoldable pub reveal_key : Reveal → RevealKey
reveal_key r = holder_key r.step r.holder
