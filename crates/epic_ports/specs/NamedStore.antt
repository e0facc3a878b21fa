-- What a store in memory that fails at a file holds and answers.
use Rattle.std.specs.Prelude.{◌≡◌, ℕ, Bool, false, not, ◌&&◌, ◌||◌, List, Option, String, string_bytes, bytes_eq}
use Rattle.std.specs.Global.{Global}
use Rattle.epic_ports.specs.declared.mem_store.MemStore.{MemStore}
use Rattle.epic_ports.specs.declared.named_store.NamedStore.{NamedStore}
use Rattle.epic_ports.specs.Files.{Files}
use Rattle.epic_ports.specs.MemStore as mem_store

-- what it tells
abbrev pub told_of : NamedStore → Option Files
told_of store = mem_store.told_of store.store

-- how many reads of a name failed
abbrev pub reads_of : NamedStore → List ℕ → ℕ
reads_of store = mem_store.reads_of store.store

-- how many writes of a name failed
abbrev pub writes_of : NamedStore → List ℕ → ℕ
writes_of store = mem_store.writes_of store.store

-- a call that names the file is the one that fails: none has failed, and it is an append where only appends fail
abbrev pub fails_at : NamedStore → List ℕ → Bool → Bool
fails_at store name is_append =
    not store.has_failed && bytes_eq (string_bytes store.name) name && (is_append || not store.appends)

-- a new one over this store
pub record HoldsStore (store : NamedStore) (below : MemStore) (name : String Global) (appends : Bool) : Type 0 where
  pub store_is : store.store ≡ below
  pub name_is : store.name ≡ name
  pub appends_is : store.appends ≡ appends
  pub fresh : store.has_failed ≡ false
