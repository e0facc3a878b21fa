-- A world as its callers see it.
use Rattle.epic_topo.specs.Network.{Network}
use Rattle.epic_model.specs.State.{State}

pub record Standing : Type 0 where
  pub network : Network
  pub state : State
