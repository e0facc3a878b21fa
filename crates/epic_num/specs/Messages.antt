-- What the tags of hops and the keys are made over. Each kind of message begins with a byte of its own.
use Rattle.std.specs.Prelude.{◌≡◌, ℕ, ◌<◌, ◌^◌, ◌==◌, List, [], ◌∷◌, ◌++◌, map, nat_eq, IsTrue, if◌then◌else◌}
use Rattle.std.specs.List.{IsDistinct}
use Rattle.epic_num.specs.declared.name.AsId.{AsId}
use Rattle.epic_num.specs.declared.name.HostId.{HostId}
use Rattle.epic_num.specs.declared.hop.Body.{Body}
use Rattle.epic_num.specs.BigEndian.{u32_bytes, u64_bytes}
use Rattle.epic_num.specs.Bodies.{body_bytes, IsBody}
use Rattle.epic_num.specs.Levels.{tagged_first_bytes, is_tagged}

-- a host: its AS in 8 bytes, its number in 4
unfoldable pub host_bytes : HostId → List ℕ
host_bytes h = u64_bytes h.asn.0 ++ u32_bytes h.host

-- ---- hops, under a forwarding key

-- what a hop's authenticator is the tag of
unfoldable pub authenticator_message : Body → List ℕ
authenticator_message b = 0x01 ∷ body_bytes b

-- what a hop's link tag is the first 8 bytes of the tag of
unfoldable pub link_message : Body → List ℕ
link_message b = 0x02 ∷ body_bytes b

-- ---- fields of hops

-- level 1, under the hop's authenticator: timestamp, source, and the hop's index in the packet
unfoldable pub field1_message : ℕ → HostId → ℕ → List ℕ
field1_message ts src hop = 0x11 ∷ (u64_bytes ts ++ (host_bytes src ++ hop ∷ []))

-- levels 2 and 3: the message's first byte, by the packet's
unfoldable pub field_domain : ℕ → ℕ
field_domain first = if first == 0xE2 then 0x12 else if first == 0xE3 then 0x13 else if first == 0xF2 then 0x32 else if first == 0xF3 then 0x33 else 0

-- levels 2 and 3, under the key that the hop's AS shares with the source: timestamp, source, index and authenticator
unfoldable pub field23_message : ℕ → ℕ → HostId → ℕ → List ℕ → List ℕ
field23_message first ts src hop sigma = field_domain first ∷ (u64_bytes ts ++ (host_bytes src ++ hop ∷ sigma))

-- the first byte of the message of a destination field, by the packet's
unfoldable pub dest_domain : ℕ → ℕ
dest_domain first = if first == 0xE2 then 0x22 else if first == 0xE3 then 0x23 else if first == 0xF2 then 0x42 else if first == 0xF3 then 0x43 else 0

-- ---- keys

-- a forwarding key: its generation, under the AS's master key
unfoldable pub forwarding_message : ℕ → List ℕ
forwarding_message generation = 0x46 ∷ u32_bytes generation

-- a secret value: its epoch, under the AS's master key
unfoldable pub secret_message : ℕ → List ℕ
secret_message epoch = 0x53 ∷ u64_bytes epoch

-- the key for another AS, under a secret value
unfoldable pub as_key_message : AsId → List ℕ
as_key_message a = 0x41 ∷ u64_bytes a.0

-- the key for a host of that AS, under the AS's key
unfoldable pub host_key_message : ℕ → List ℕ
host_key_message host = 0x48 ∷ u32_bytes host

-- the key that a destination host shares with a source host, under the key of the source's AS
unfoldable pub dest_key_message : ℕ → ℕ → List ℕ
dest_key_message dst src = 0x44 ∷ (u32_bytes dst ++ u32_bytes src)

-- ---- laws

-- the first bytes of all kinds of messages
abbrev pub domains : List ℕ
domains = 0x01 ∷ 0x02 ∷ 0x11 ∷ (map field_domain tagged_first_bytes ++ (map dest_domain tagged_first_bytes ++ 0x46 ∷ 0x53 ∷ 0x41 ∷ 0x48 ∷ 0x44 ∷ []))

-- the parts of a host fit the fields of its type
pub record IsHost (h : HostId) : Type 0 where
  pub asn : h.asn.0 < 2 ^ 64
  pub host : h.host < 2 ^ 32

-- what a field of level 2 or 3 is made over is in range; its index and its authenticator are spelled as they are, and need no bound
pub record IsFieldContent (first ts : ℕ) (src : HostId) : Type 0 where
  pub is_tagged_first : IsTrue (is_tagged first)
  pub ts_fits : ts < 2 ^ 64
  pub src_fits : IsHost src

-- two fields of level 2 or 3 are made over the same
pub record SameFieldContent (first first' ts ts' : ℕ) (src src' : HostId) (hop hop' : ℕ) (sigma sigma' : List ℕ) : Type 0 where
  pub same_first : first ≡ first'
  pub same_ts : ts ≡ ts'
  pub same_src : src ≡ src'
  pub same_hop : hop ≡ hop'
  pub same_sigma : sigma ≡ sigma'

-- equal messages of fields of levels 2 and 3 are made over the same, whatever the two packets' first bytes
abbrev pub FieldMessagesDiffer : Type 0
FieldMessagesDiffer =
    (first first' ts ts' : ℕ) (src src' : HostId) (hop hop' : ℕ) (sigma sigma' : List ℕ)
    → IsFieldContent first ts src
    → IsFieldContent first' ts' src'
    → field23_message first ts src hop sigma ≡ field23_message first' ts' src' hop' sigma'
    → SameFieldContent first first' ts ts' src src' hop hop' sigma sigma'

-- the same of fields of level 1
abbrev pub Field1MessagesDiffer : Type 0
Field1MessagesDiffer =
    (ts ts' : ℕ) (src src' : HostId) (hop hop' : ℕ)
    → ts < 2 ^ 64 → ts' < 2 ^ 64 → IsHost src → IsHost src'
    → field1_message ts src hop ≡ field1_message ts' src' hop'
    → (ts ≡ ts') × (src ≡ src') × (hop ≡ hop')

-- the same of authenticators, and of link tags
abbrev pub AuthenticatorMessagesDiffer : Type 0
AuthenticatorMessagesDiffer = (b c : Body) → IsBody b → IsBody c → authenticator_message b ≡ authenticator_message c → b ≡ c

abbrev pub LinkMessagesDiffer : Type 0
LinkMessagesDiffer = (b c : Body) → IsBody b → IsBody c → link_message b ≡ link_message c → b ≡ c

-- no two kinds of messages begin alike
abbrev pub DomainsDiffer : Type 0
DomainsDiffer = IsDistinct nat_eq domains
