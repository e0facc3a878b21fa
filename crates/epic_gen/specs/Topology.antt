-- The topology that is generated from a seed.
use Rattle.std.specs.Prelude.{ℕ, Bool, true, false, List, [], ◌∷◌}
use Rattle.epic_num.specs.declared.name.AsId.{AsId}
use Rattle.epic_num.specs.declared.profile.Profile.{Profile}
use Rattle.epic_topo.specs.Network.{Network}
use Rattle.epic_topo.specs.declared.link_kind.LinkKind.{LinkKind}
use Rattle.epic_topo.specs.declared.link_kind.LinkKind.TheVariants.{Core, Parent}
use Rattle.epic_topo.specs.declared.network.Link.{Link}
use Rattle.epic_topo.specs.declared.network.System.{System}
use Rattle.epic_gen.specs.Names.{asn, destination, first_child, first_core, master_of, second_child, second_core, source}

-- the AS at a place
abbrev pub system : ℕ → ℕ → AsId → Bool → System
system seed place named core = record { asn = named; is_core = core; master = master_of seed place }

-- a link between two interfaces; the first AS is the parent of a child link
abbrev pub link : LinkKind → AsId → ℕ → AsId → ℕ → Link
link kind a a_iface b b_iface = record {
  kind = kind;
  a = record { asn = a; iface = a_iface };
  b = record { asn = b; iface = b_iface };
}

-- the settings where a text has none
abbrev pub settings : Profile
settings = record { lifetime_us = 2000000; skew_us = 1000000; epoch_us = 86400000000; window = 4096 }

-- Two core ASes with a link between them. Each has a child, which has a child.
unfoldable pub generated_network : ℕ → Network
generated_network seed = record {
  profile = settings;
  systems = system seed 0 first_core true ∷ system seed 1 second_core true
      ∷ system seed 2 first_child false ∷ system seed 3 source false
      ∷ system seed 4 second_child false ∷ system seed 5 destination false ∷ [];
  links = link Core first_core 1 second_core 1
      ∷ link Parent first_core 2 first_child 1 ∷ link Parent first_child 2 source 1
      ∷ link Parent second_core 2 second_child 1 ∷ link Parent second_child 2 destination 1 ∷ [];
}
