-- What single events of a history say.
use Rattle.std.specs.Prelude.{ℕ, Option, option_map, option_and_then, slice_get}
use Rattle.epic_num.specs.declared.hop.HopName.{HopName}
use Rattle.epic_layout.specs.Contents.{Contents}
use Rattle.epic_ledger.specs.History.{History}
use Rattle.epic_ledger.specs.Facts.{Sent, Pass, as_send, as_pass, facts_of, pass_name, sent_name}

-- what was sent by the event with a number, from 0
unfoldable pub send_at : History → ℕ → Option Sent
send_at h number = option_and_then (as_send h.emissions) (slice_get h.events number)

-- the hop that was accepted by it
unfoldable pub pass_at : History → ℕ → Option Pass
pass_at h number = option_and_then (as_pass h.emissions) (slice_get h.events number)

-- the emission and the packet that was sent
unfoldable pub sent_at : History → ℕ → Option (ℕ × Contents)
sent_at h number = option_map (λ s. (s.emission, s.packet)) (send_at h number)

-- the name of the packet's hop
unfoldable pub sent_name_at : History → ℕ → ℕ → Option HopName
sent_name_at h number hop = option_and_then (λ s. sent_name (facts_of h).issues s hop) (send_at h number)

-- the name and the index of the hop that was accepted, and the packet
unfoldable pub passed_at : History → ℕ → Option (HopName × ℕ × Contents)
passed_at h number = option_map (λ w. (pass_name w, w.hop, w.packet)) (pass_at h number)
