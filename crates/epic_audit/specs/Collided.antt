-- Two hops with one tag.
use Rattle.std.specs.Prelude.{◌≡◌, ◌≢◌}
use Rattle.epic_num.specs.declared.hop.HopName.{HopName}
use Rattle.epic_topo.specs.Network.{Network}
use Rattle.epic_fields.specs.Tags.{sigma, link}

-- two hops with one link tag
pub record HaveOneLink (t : Network) (x y : HopName) : Type 0 where
  pub differ : x ≢ y
  pub link_is : link t x ≡ link t y

-- two hops of one AS with one authenticator
pub record HaveOneSigma (t : Network) (x y : HopName) : Type 0 where
  pub differ : x ≢ y
  pub asn_is : x.asn ≡ y.asn
  pub sigma_is : sigma t x ≡ sigma t y
