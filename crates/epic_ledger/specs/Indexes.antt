-- Private: serves proofs of this crate alone; no public contract cites it.
-- What a ledger keeps beside its events, so that the first event of a key is found without a walk.
use Rattle.std.specs.Prelude.{◌≡◌, ℕ, ◌+◌, ◌-◌, ◌*◌, ◌%◌, ◌^◌, ◌<◌, List, [], Option, length, map, filter_map, slice_index, min, vec_capacity}
use Rattle.std.specs.Cmp.Lexicographic.{slice_cmp}
use Rattle.std.specs.Int.{w32}
use Rattle.std.specs.Ordering.{nat_cmp, then_cmp, on}
use Rattle.std.specs.declared.cmp.Ordering.{Ordering}
use Rattle.epic_layout.specs.Pieces.{number}
use Rattle.epic_layout.specs.Route.{Route}
use Rattle.epic_layout.specs.Spelling.{path_bytes}
use Rattle.epic_num.specs.Chains.{no_name}
use Rattle.epic_num.specs.declared.key_name.Holder.{Holder}
use Rattle.epic_num.specs.declared.key_name.Holder.TheVariants.{As}
use Rattle.epic_tree.specs.Index.{IsTagged}
use Rattle.epic_tree.specs.Sides.{Ordered}
use Rattle.epic_ledger.specs.Facts.{Sent, Pass, Reveal, as_send, as_pass, as_reveal, pass_name}
use Rattle.epic_ledger.specs.History.{Emission}
use Rattle.epic_ledger.specs.Kinds.{numbers_from}
use Rattle.epic_ledger.specs.Lawful.{IsLawful}
use Rattle.epic_ledger.specs.Ranks.{name_cmp, host_cmp, holder_cmp, holder_tag, no_host}
use Rattle.epic_ledger.specs.declared.event.Event.{Event}
use Rattle.epic_ledger.specs.declared.index.Index.{Index}
use Rattle.epic_ledger.specs.declared.passes.Sought.{Sought}
use Rattle.epic_ledger.specs.declared.send_index.Origin.{Origin}

-- how the events of a kind are sought: what such an event says, its key, the order of keys, the tag of a key, and a key
-- that stands for none
pub record Kind (X K : Type 0) : Type 0 where
  pub says : Event → Option X
  pub key : X → K
  pub cmp : K → K → Ordering
  pub tag : K → ℕ
  pub none : K

abbrev pub keys_of : {X K : Type 0} → Kind X K → List Event → List K
keys_of k events = map k.key (filter_map k.says events)

-- the events of a kind have these numbers, and a tree is an index of what they are sought by
pub record IsIndexed {X K : Type 0} (k : Kind X K) (events : List Event) (at : List ℕ) (tree : Ordered) : Type 0 where
  pub numbers : at ≡ numbers_from k.says 0 events
  pub keyed : IsTagged k.cmp k.tag k.none (keys_of k events) tree

-- a place among the events of a kind
pub record IsPlace {X K : Type 0} (k : Kind X K) (events : List Event) (at : List ℕ) (p : ℕ) : Type 0 where
  pub within : p < length at
  pub numbers : at ≡ numbers_from k.says 0 events

-- a place among the events of a kind in a lawful ledger
pub record IsLawfulPlace {X K : Type 0} (k : Kind X K) (events : List Event) (emissions : List Emission) (at : List ℕ) (p : ℕ) : Type 0 where
  pub place : IsPlace k events at p
  pub lawful : IsLawful (record { events = events; emissions = emissions })

-- ---- sends, by source and timestamp

unfoldable pub send_key : Sent → Origin
send_key s = record { src = s.packet.src; ts = s.packet.ts }

unfoldable pub origin_cmp : Origin → Origin → Ordering
origin_cmp = then_cmp (on (λ (o : Origin). o.src) host_cmp) (on (λ (o : Origin). o.ts) nat_cmp)

-- the lower half of the timestamp
unfoldable pub origin_tag : Origin → ℕ
origin_tag o = o.ts % 2 ^ 32

unfoldable pub no_origin : Origin
no_origin = record { src = no_host; ts = 0 }

abbrev pub send_kind : List Emission → Kind Sent Origin
send_kind emissions = record { says = as_send emissions; key = send_key; cmp = origin_cmp; tag = origin_tag; none = no_origin }

-- ---- hops that were accepted, by first byte, name, source, timestamp and index

unfoldable pub pass_key : Pass → Sought
pass_key w = record { first = w.packet.first; name = pass_name w; src = w.packet.src; ts = w.packet.ts; hop = w.hop }

unfoldable pub sought_cmp : Sought → Sought → Ordering
sought_cmp =
    then_cmp
    (then_cmp
    (then_cmp (then_cmp (on (λ (s : Sought). s.first) nat_cmp) (on (λ (s : Sought). s.name) name_cmp)) (on (λ (s : Sought). s.src) host_cmp))
    (on (λ (s : Sought). s.ts) nat_cmp))
    (on (λ (s : Sought). s.hop) nat_cmp)

-- the lower half of the timestamp
unfoldable pub sought_tag : Sought → ℕ
sought_tag s = s.ts % 2 ^ 32

unfoldable pub no_sought : Sought
no_sought = record { first = 0; name = no_name; src = no_host; ts = 0; hop = 0 }

abbrev pub pass_kind : List Emission → Kind Pass Sought
pass_kind emissions = record { says = as_pass emissions; key = pass_key; cmp = sought_cmp; tag = sought_tag; none = no_sought }

-- ---- the same, by index and path

-- a hop's index, and path bytes
pub record PathHop : Type 0 where
  pub hop : ℕ
  pub path : List ℕ

-- the hop of this index on a route
abbrev pub sought_hop : Route → ℕ → PathHop
sought_hop route j = record { hop = j; path = path_bytes route }

unfoldable pub path_key : Pass → PathHop
path_key w = sought_hop w.packet.route w.hop

unfoldable pub path_cmp : PathHop → PathHop → Ordering
path_cmp = then_cmp (on (λ (x : PathHop). x.hop) nat_cmp) (on (λ (x : PathHop). x.path) (slice_cmp nat_cmp))

-- the first halves of the link tags of its first and its last hop
unfoldable pub path_tag : List ℕ → ℕ
path_tag path = (number w32 path (8 * slice_index path 0 + 6) + number w32 path (length path - 8)) % 2 ^ 32

unfoldable pub no_path : PathHop
no_path = record { hop = 0; path = [] }

abbrev pub path_kind : List Emission → Kind Pass PathHop
path_kind emissions =
    record { says = as_pass emissions; key = path_key; cmp = path_cmp; tag = λ x. path_tag x.path; none = no_path }

-- ---- reveals, by holder

abbrev pub reveal_kind : Kind Reveal Holder
reveal_kind =
    record { says = as_reveal; key = λ r. r.holder; cmp = holder_cmp; tag = holder_tag; none = As (record { 0 = 0 }) }

-- ---- the whole

-- for how many more events of a kind an index has room
abbrev pub room_in : Index → ℕ
room_in x = min (vec_capacity x.at - length x.at.items) x.keys.spare

-- what a ledger keeps of its events and emissions
pub record IsRecorded (events : List Event) (emissions : List Emission) (sent passed paths revealed : Index) : Type 0 where
  pub lawful : IsLawful (record { events = events; emissions = emissions })
  pub sends : IsIndexed (send_kind emissions) events sent.at.items sent.keys
  pub passes : IsIndexed (pass_kind emissions) events passed.at.items passed.keys
  pub on_paths : IsIndexed (path_kind emissions) events paths.at.items paths.keys
  pub reveals : IsIndexed reveal_kind events revealed.at.items revealed.keys
