-- What a router answers whose window stands for what the ledger tells, and for what it stands afterwards.
use Rattle.std.proofs.Common.{◌≡◌, ◌≢◌, ℕ, ◌+◌, ◌≤◌, Bool, true, false, List, length, subst, ◌∙◌, arith}
use Rattle.std.specs.Prelude.{nat_lt, Some, if◌then◌else◌}
use Rattle.epic_num.specs.declared.name.AsId.{AsId}
use Rattle.epic_num.specs.declared.turn.Turn.{Turn}
use Rattle.epic_layout.specs.Layout.{parse}
use Rattle.epic_layout.specs.Reading.{IsRead}
use Rattle.epic_topo.specs.Network.{Network}
use Rattle.epic_window.specs.Entries.{told_of}
use Rattle.epic_router.specs.Candidates.{candidates_of}
use Rattle.epic_router.specs.Handling.{turn_of}
use Rattle.epic_router.specs.Remembering.{key_at, told, Remembers, is_accepted}
use Rattle.epic_router.specs.RightTurns.{IsRightTurn}
use Rattle.epic_router.specs.Routers.{RouterState}
use Rattle.epic_ledger.specs.History.{History, emitted}
use Rattle.epic_ledger.specs.Lawful.{IsLawful}
use Rattle.epic_model.specs.Passing.{most_emitted, rolls, answer_at, turned_at}
use Rattle.epic_model.specs.Windows.{router_window}
use Rattle.epic_model.proofs.Standing.{windows_tell, routers_stand, others_stand}
use Rattle.epic_actors.specs.Routers.{StandsAt}
use Rattle.epic_actors.specs.Telling.{IsRightAt}

module _ (t : Network) (now : ℕ) (h : History) (a : AsId) (iface generation : ℕ) (bytes : List ℕ) (r : RouterState)
    (own : StandsAt t now h a (Some r)) (present : generation ≡ rolls h.events a) where
  -- what its window tells
  tells : told r.window now (parse bytes) ≡ told_of t.profile (router_window h a) now (key_at (parse bytes) (parse bytes).current)
  unfolding told
  tells = windows_tell t now r.window (router_window h a) (key_at (parse bytes) (parse bytes).current) own.1

  pub answer_is : turn_of t r.asn (candidates_of generation) iface now (told r.window now (parse bytes)) bytes ≡ answer_at t now h a iface bytes
  unfolding answer_at
  answer_is i = turn_of t (own.0 i) (candidates_of (present i)) iface now (tells i) bytes

  pub right_is : (answer : Turn) → IsRightTurn t r.asn (candidates_of generation) iface now (told r.window now (parse bytes)) bytes answer → IsRightAt t now h a iface bytes answer
  right_is answer right =
      subst (λ x. IsRightTurn t a (candidates_of (rolls h.events a)) iface now x bytes answer) tells
      (subst (λ g. IsRightTurn t a (candidates_of g) iface now (told r.window now (parse bytes)) bytes answer) present
      (subst (λ b. IsRightTurn t b (candidates_of generation) iface now (told r.window now (parse bytes)) bytes answer) own.0 right))

  pub turned_stands : (step : ℕ) (s : RouterState) (answer : Turn) → IsRead bytes → IsLawful h → nat_lt most_emitted (emitted h.emissions + length bytes) ≡ false
      → answer ≡ answer_at t now h a iface bytes → s.asn ≡ r.asn → Remembers r.window s.window now step (parse bytes) (is_accepted answer)
      → StandsAt t now (turned_at t step now h a iface bytes).history a (Some s)
  turned_stands step s answer read lawful emits is asn remembers = (
    asn ∙ own.0,
    routers_stand t step now h a iface bytes r.window s.window read lawful emits own.1
        (subst (λ x. Remembers r.window s.window now step (parse bytes) (is_accepted x)) is remembers),
  )

pub others_as_before : (t : Network) (step now : ℕ) (h : History) (a : AsId) (iface : ℕ) (bytes : List ℕ) → IsRead bytes → IsLawful h
    → (b : AsId) → a ≢ b → router_window (turned_at t step now h a iface bytes).history b ≡ router_window h b
others_as_before t step now h a iface bytes read lawful = (others_stand t step now h a iface bytes read lawful).0

-- a window that remembers at most one packet more
pub one_less : (accepted : Bool) (old new : ℕ) → old ≤ new + (if accepted then 1 else 0) → old ≤ new + 1
one_less true old new h = h
one_less false old new h = omega (arith, h)
