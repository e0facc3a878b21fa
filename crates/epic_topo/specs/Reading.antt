-- The topology that a text tells of, or the first fault of the text. Each step below reads one value
-- or makes one test, and the steps stand in the order in which the faults are told.
use Rattle.std.specs.Prelude.{◌≡◌, ℕ, ◌+◌, ◌*◌, nat_le, ℤ, pos, negsuc, Bool, false, not, ◌&&◌, if◌then◌else◌, List, [], codes, length, Option, Some, None, Result, Ok, Err}
use Rattle.std.specs.Result.{result_ok}
use Rattle.std.specs.Str.{bytes_eq, is_utf8}
use Rattle.hex.specs.Hex.{decode_sized}
use Rattle.toml.specs.Data.{Data, Items, no_items, item, Members, no_members, get_member, as_array, as_bool, as_integer, as_str, as_table}
use Rattle.toml.specs.Parse.{parse_document}
use Rattle.epic_num.specs.Names.{as_of}
use Rattle.epic_num.specs.declared.name.AsId.{AsId}
use Rattle.epic_num.specs.declared.profile.Profile.{Profile}
use Rattle.epic_num.specs.Same.{same_as}
use Rattle.epic_topo.specs.Network.{Network, has, is_taken, keeps_core_rule, with_system, with_link}
use Rattle.epic_topo.specs.Words.{key_word}
use Rattle.epic_topo.specs.declared.fault.TopoError.{TopoError}
use Rattle.epic_topo.specs.declared.fault.TopoError.TheVariants.{Bad, OutOfMemory}
use Rattle.epic_topo.specs.declared.fault.TopoKey.{TopoKey}
use Rattle.epic_topo.specs.declared.fault.TopoKey.TheVariants as key
use Rattle.epic_topo.specs.declared.fault.TopoKind.{TopoKind}
use Rattle.epic_topo.specs.declared.fault.TopoKind.TheVariants.{NotToml, Missing, WrongKind, BadProfile, TooMany, BadAs, BadKey, DuplicateAs, UnknownAs, BadInterface, SelfLink, InterfaceTwice, CoreRule}
use Rattle.epic_topo.specs.declared.link_kind.LinkKind.{LinkKind}
use Rattle.epic_topo.specs.declared.link_kind.LinkKind.TheVariants.{Core, Parent}
use Rattle.epic_topo.specs.declared.network.End.{End}
use Rattle.epic_topo.specs.declared.network.Link.{Link}
use Rattle.epic_topo.specs.declared.network.System.{System}

-- ---- steps

-- the next step, if this one gave a value, else this one's fault
infixl 10 ◌>>=◌
abbrev pub ◌>>=◌ : {A B : Type 0} → Result A TopoError → (A → Result B TopoError) → Result B TopoError
Ok x >>= f = f x
Err e >>= f = Err e

-- the fault of a kind at a key of the item at a place, or with place 0 outside of the items
abbrev pub fails : {A : Type 0} → TopoKind → TopoKey → ℕ → Result A TopoError
fails kind key place = Err (Bad kind key place)

-- what is there, or else the fault
abbrev pub or_fails : {A : Type 0} → TopoKind → TopoKey → ℕ → Option A → Result A TopoError
or_fails kind key place None = fails kind key place
or_fails kind key place (Some x) = Ok x

-- the value if the test holds, or else the fault
abbrev pub only_if : {A : Type 0} → Bool → TopoKind → TopoKey → ℕ → A → Result A TopoError
only_if test kind key place x = if test then Ok x else fails kind key place

-- ---- values of a table

-- the value at a key
abbrev pub value_at : TopoKey → Members → Option Data
value_at key t = get_member (key_word key) t

-- the text at a key that has to be there
unfoldable pub text_at : TopoKey → ℕ → Members → Result (List ℕ) TopoError
text_at key place t = do
  d ← or_fails Missing key place (value_at key t)
  or_fails WrongKind key place (as_str d)

-- the integer, where it is in its range
abbrev pub in_range : TopoKind → TopoKey → ℕ → ℕ → ℕ → ℤ → Result ℕ TopoError
in_range kind key place least most (pos n) = only_if (nat_le least n && nat_le n most) kind key place n
in_range kind key place least most (negsuc n) = fails kind key place

-- the number of an array's items
abbrev pub item_count : Items → ℕ
item_count no_items = 0
item_count (item d ds) = item_count ds + 1

-- the items of an array of at most `most`
unfoldable pub rows : TopoKey → ℕ → Data → Result Items TopoError
rows key most d = do
  ds ← or_fails WrongKind key 0 (as_array d)
  only_if (nat_le (item_count ds) most) TooMany key 0 ds

-- ---- the settings

-- an integer of the profile, which may be absent
abbrev pub setting_of : TopoKey → ℕ → ℕ → ℕ → Option Data → Result ℕ TopoError
setting_of key least most default None = Ok default
setting_of key least most default (Some d) =
    or_fails WrongKind key 0 (as_integer d) >>= in_range BadProfile key 0 least most

unfoldable pub setting_at : TopoKey → ℕ → ℕ → ℕ → Members → Result ℕ TopoError
setting_at key least most default t = setting_of key least most default (value_at key t)

-- the settings of a profile's table; its epoch is in seconds
unfoldable pub settings : Members → Result Profile TopoError
settings t = do
  lifetime ← setting_at key.LifetimeUs 1 3600000000 2000000 t
  skew ← setting_at key.SkewUs 0 3600000000 1000000 t
  epoch ← setting_at key.EpochS 1 31536000 86400 t
  window ← setting_at key.Window 1 65536 4096 t
  Ok (record { lifetime_us = lifetime; skew_us = skew; epoch_us = epoch * 1000000; window = window })

-- the settings of a topology, whose profile may be absent
abbrev pub profile_of : Option Data → Result Profile TopoError
profile_of None = settings no_members
profile_of (Some d) = or_fails WrongKind key.Profile 0 (as_table d) >>= settings

-- ---- an AS

-- the AS that is named at a key
unfoldable pub asn_at : TopoKey → ℕ → Members → Result AsId TopoError
asn_at key place t = do
  text ← text_at key place t
  number ← or_fails BadAs key place (as_of text)
  Ok (record { 0 = number })

-- whether it is core, which it isn't unless that is told
abbrev pub core_of : ℕ → Option Data → Result Bool TopoError
core_of place None = Ok false
core_of place (Some d) = or_fails WrongKind key.Core place (as_bool d)

unfoldable pub core_at : ℕ → Members → Result Bool TopoError
core_at place t = core_of place (value_at key.Core t)

-- the master key: 32 hexadecimal digits of either case
unfoldable pub master_at : ℕ → Members → Result (List ℕ) TopoError
master_at place t = do
  text ← text_at key.Key place t
  or_fails BadKey key.Key place (result_ok (decode_sized text 16))

-- the next AS of a topology
unfoldable pub next_system : Network → Data → Result System TopoError
next_system n d = do
  let place = length n.systems + 1
  t ← or_fails WrongKind key.As place (as_table d)
  asn ← asn_at key.Name place t
  core ← core_at place t
  master ← master_at place t
  only_if (not (has n asn)) DuplicateAs key.Name place (record { asn = asn; is_core = core; master = master })

-- the topology with the ASes of these items
abbrev pub with_systems : Network → Items → Result Network TopoError
with_systems n no_items = Ok n
with_systems n (item d ds) = next_system n d >>= (λ s. with_systems (with_system n s) ds)

-- the topology with the ASes of its text, which may be absent
abbrev pub with_systems_of : Network → Option Data → Result Network TopoError
with_systems_of n None = Ok n
with_systems_of n (Some d) = rows key.As 4096 d >>= with_systems n

-- ---- a link

-- what a link is for its end a, by its word
abbrev pub kind_of : List ℕ → Option LinkKind
kind_of text =
    if bytes_eq text (codes "core") then Some Core
    else if bytes_eq text (codes "child") then Some Parent else None

unfoldable pub kind_at : ℕ → Members → Result LinkKind TopoError
kind_at place t = do
  text ← text_at key.Kind place t
  or_fails WrongKind key.Kind place (kind_of text)

-- the interface at a key
unfoldable pub iface_at : TopoKey → ℕ → Members → Result ℕ TopoError
iface_at key place t = do
  d ← or_fails Missing key place (value_at key t)
  z ← or_fails WrongKind key place (as_integer d)
  in_range BadInterface key place 1 65535 z

-- an end of the next link, which is at an AS of the topology
unfoldable pub end_at : Network → TopoKey → TopoKey → Members → Result End TopoError
end_at n as_key iface_key t = do
  let place = length n.links + 1
  named ← asn_at as_key place t
  asn ← only_if (has n named) UnknownAs as_key place named
  iface ← iface_at iface_key place t
  Ok (record { asn = asn; iface = iface })

-- the link, where it fits into the topology
unfoldable pub fitting : Network → Link → Result Link TopoError
fitting n l =
    let place = length n.links + 1 in
    if same_as l.a.asn l.b.asn then fails SelfLink key.B place
    else if is_taken n l.a then fails InterfaceTwice key.AIf place
    else if is_taken n l.b then fails InterfaceTwice key.BIf place
    else only_if (keeps_core_rule n l) CoreRule key.Kind place l

-- the next link of a topology
unfoldable pub next_link : Network → Data → Result Link TopoError
next_link n d = do
  let place = length n.links + 1
  t ← or_fails WrongKind key.Link place (as_table d)
  kind ← kind_at place t
  a ← end_at n key.A key.AIf t
  b ← end_at n key.B key.BIf t
  fitting n (record { kind = kind; a = a; b = b })

-- the topology with the links of these items
abbrev pub with_links : Network → Items → Result Network TopoError
with_links n no_items = Ok n
with_links n (item d ds) = next_link n d >>= (λ l. with_links (with_link n l) ds)

-- the topology with the links of its text, which may be absent
abbrev pub with_links_of : Network → Option Data → Result Network TopoError
with_links_of n None = Ok n
with_links_of n (Some d) = rows key.Link 16384 d >>= with_links n

-- ---- the text

-- the table that a text in UTF-8 is by TOML
unfoldable pub document : List ℕ → Result Members TopoError
document text = or_fails NotToml key.Text 0 (if is_utf8 text then parse_document text else None)

-- the topology that a text tells of, or its first fault
unfoldable pub topology : List ℕ → Result Network TopoError
topology text = do
  t ← document text
  profile ← profile_of (value_at key.Profile t)
  n ← with_systems_of (record { profile = profile; systems = []; links = [] }) (value_at key.As t)
  with_links_of n (value_at key.Link t)

-- ---- what code gives

-- what a reference lends, seen by a view
abbrev pub mapped : {R A : Type 0} → (R → A) → Result R TopoError → Result A TopoError
mapped f (Ok r) = Ok (f r)
mapped f (Err e) = Err e

-- the answer is what the definition gives, unless memory was wanting
abbrev pub Gives : {A : Type 0} → Result A TopoError → Result A TopoError → Type 0
Gives read (Err OutOfMemory) = Unit {0}
Gives read (Err (Bad kind key place)) = read ≡ Err (Bad kind key place)
Gives read (Ok x) = read ≡ Ok x
