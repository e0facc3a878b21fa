-- The hops of an AS that have one authenticator.
use Rattle.std.specs.Prelude.{Bool, ◌&&◌, ◌==◌, bytes_eq, List, map, IsTrue, ⊤}
use Rattle.epic_num.specs.Chains.{Issue}
use Rattle.epic_num.specs.declared.hop.HopName.{HopName}
use Rattle.epic_topo.specs.Network.{Network, has}
use Rattle.epic_fields.specs.Tags.{sigma}
use Rattle.epic_ledger.specs.declared.event.Event.{Event}
use Rattle.epic_ledger.specs.declared.event.Event.TheVariants as event
use Rattle.epic_index.specs.declared.twins.TwinKey.{TwinKey}

abbrev pub twin_eq : TwinKey → TwinKey → Bool
twin_eq k l = k.asn == l.asn && bytes_eq k.sigma l.sigma

unfoldable pub twin_key : Network → HopName → TwinKey
twin_key t x = record { asn = x.asn.0; sigma = sigma t x }

abbrev pub twin_keys : Network → List Issue → List TwinKey
twin_keys t issues = map (λ i. twin_key t i.name) issues

-- the AS that issued or accepted a hop is of the network
abbrev pub HasKnownAs : Network → Event → Type 0
HasKnownAs t (event.Issue step number name parent) = IsTrue (has t name.asn)
HasKnownAs t (event.Fetch step source owner epoch) = ⊤
HasKnownAs t (event.Send step emission segments) = ⊤
HasKnownAs t (event.Pass step a hop generation emission) = IsTrue (has t a)
HasKnownAs t (event.Arrive step host src ts hops checked) = ⊤
HasKnownAs t (event.Reveal step holder) = ⊤
HasKnownAs t (event.Roll step a generation) = ⊤
