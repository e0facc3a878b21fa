-- The hops that routers accepted, by their places and authenticators.
use Rattle.std.specs.Prelude.{ℕ, Bool, ◌&&◌, ◌==◌, bytes_eq, List, [], ◌∷◌}
use Rattle.std.specs.Option.{option_map_or}
use Rattle.epic_num.specs.declared.hop.HopName.{HopName}
use Rattle.epic_layout.specs.Contents.{Contents}
use Rattle.epic_topo.specs.Network.{Network}
use Rattle.epic_fields.specs.Tags.{sigma}
use Rattle.epic_ledger.specs.Facts.{Pass, as_pass, pass_name}
use Rattle.epic_ledger.specs.History.{Emission}
use Rattle.epic_ledger.specs.declared.event.Event.{Event}
use Rattle.epic_index.specs.declared.passes.PassKey.{PassKey}

-- hop j of a packet, whose name is x
unfoldable pub pass_key : Network → Contents → ℕ → HopName → PassKey
pass_key t p j x = record {
  ts = p.ts;
  source = p.src.asn.0;
  host = p.src.host;
  first = p.first;
  hop = j;
  asn = x.asn.0;
  sigma = sigma t x;
}

abbrev pub pass_eq : PassKey → PassKey → Bool
pass_eq k l =
    k.ts == l.ts
    && (k.source == l.source
    && (k.host == l.host && (k.first == l.first && (k.hop == l.hop && (k.asn == l.asn && bytes_eq k.sigma l.sigma)))))

abbrev pub pass_keys : Network → Pass → List PassKey
pass_keys t w = pass_key t w.packet w.hop (pass_name w) ∷ []

unfoldable pub pass_rows : Network → List Emission → Event → List PassKey
pass_rows t emissions e = option_map_or (pass_keys t) (as_pass emissions e) []
