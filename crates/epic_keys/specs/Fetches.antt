-- Which keys of other ASes an AS has fetched, and which keys its hosts can make with them.
use Rattle.std.specs.Prelude.{◌≡◌, ℕ, Bool, true, false, ◌&&◌, ◌||◌, ◌==◌, List, Result, Ok, Err, if◌then◌else◌}
use Rattle.std.specs.Ordering.{nat_cmp, ordering_then}
use Rattle.std.specs.declared.cmp.Ordering.{Ordering}
use Rattle.std.specs.BTreeSet.{BTreeSet, contains}
use Rattle.epic_num.specs.declared.memory.OutOfMemory.{OutOfMemory}
use Rattle.epic_num.specs.declared.name.AsId.{AsId}
use Rattle.epic_num.specs.declared.key_name.KeyName.{KeyName}
use Rattle.epic_num.specs.declared.send_error.NoKey.{NoKey}
use Rattle.epic_num.specs.Same.{same_as}
use Rattle.epic_topo.specs.Network.{Network}
use Rattle.epic_keys.specs.Keys.{key}
use Rattle.epic_keys.specs.declared.key_store.Fetched.{Fetched}
use Rattle.epic_keys.specs.declared.key_store.Fetched.TheVariants.{New, Known}

-- a fetch: the source AS, the owner of the keys, and their epoch
pub record Fetch : Type 0 where
  pub source : AsId
  pub owner : AsId
  pub epoch : ℕ

-- the order of fetches: by source, then by owner, then by epoch
abbrev pub fetch_cmp : ℕ × ℕ × ℕ → ℕ × ℕ × ℕ → Ordering
fetch_cmp f g = ordering_then (ordering_then (nat_cmp f.0 g.0) (nat_cmp f.1 g.1)) (nat_cmp f.2 g.2)

-- what is seen of the object that holds the fetches, by their numbers: it is read by `is_fetched` alone
abbrev pub FetchSet : Type 0
FetchSet = BTreeSet (ℕ × ℕ × ℕ)

-- whether a fetch was made: the test that all else is said by
unfoldable pub is_fetched : FetchSet → Fetch → Bool
is_fetched set f = contains fetch_cmp set (f.source.0, f.owner.0, f.epoch)

-- the test of whether two fetches are one
unfoldable pub same_fetch : Fetch → Fetch → Bool
same_fetch f g = same_as f.source g.source && same_as f.owner g.owner && f.epoch == g.epoch

-- nothing was fetched
abbrev pub IsNone : (Fetch → Bool) → Type 0
IsNone fetched = (f : Fetch) → fetched f ≡ false

-- the same was fetched
abbrev pub Keeps : (Fetch → Bool) → (Fetch → Bool) → Type 0
Keeps old new = (f : Fetch) → new f ≡ old f

-- this was fetched besides
abbrev pub Adds : (Fetch → Bool) → (Fetch → Bool) → Fetch → Type 0
Adds old new fetch = (f : Fetch) → new f ≡ (same_fetch fetch f || old f)

-- the source's hosts can make the owner's keys of the epoch: of its own keys an AS needs no fetch
unfoldable pub is_known : (Fetch → Bool) → Fetch → Bool
is_known fetched f = same_as f.owner f.source || fetched f

-- a fetch is New exactly where its key wasn't known, and is then among the fetches; else nothing changes
abbrev pub Fetches : (Fetch → Bool) → (Fetch → Bool) → Fetch → Result Fetched OutOfMemory → Type 0
Fetches old new f (Ok New) = (is_known old f ≡ false) × Adds old new f
Fetches old new f (Ok Known) = (is_known old f ≡ true) × Keeps old new
Fetches old new f (Err e) = Keeps old new

-- the key of a name, where the source can make it
unfoldable pub known_key : Network → (Fetch → Bool) → Fetch → KeyName → Result (List ℕ) NoKey
known_key t fetched f name = if is_known fetched f then Ok (key t name) else Err (record { owner = f.owner; epoch = f.epoch })
