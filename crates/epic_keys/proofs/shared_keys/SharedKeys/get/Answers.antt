use Rattle.std.proofs.Common.{rules}
use Rattle.epic_keys.proofs.ReadyLemmas.{at_first, at_second, at_third, at_fourth, ready_at}
use Rattle.epic_keys.proofs.shared_keys.SharedKeys.get.Goals as goal

pub returns-in-0 : goal.returns-in-0
returns-in-0 c = λ t. ready_at _ _ _ t _ _ _ c.self.view_is c.place.ensures (at_first _ _ c.in-0.is) c.key.ensures

pub returns-in-1 : goal.returns-in-1
returns-in-1 c = λ t. ready_at _ _ _ t _ _ _ c.self.view_is c.place.ensures (at_second _ _ c.in-1.is) c.key-in-1.ensures

pub returns-in-2 : goal.returns-in-2
returns-in-2 c = λ t. ready_at _ _ _ t _ _ _ c.self.view_is c.place.ensures (at_third _ _ c.in-2.is) c.key-in-2.ensures

pub returns-in_default : goal.returns-in_default
returns-in_default c = λ t. ready_at _ _ _ t _ _ _ c.self.view_is c.place.ensures (at_fourth _ c.place.result (search rules) (search rules) (search rules)) c.key-in_default.ensures
