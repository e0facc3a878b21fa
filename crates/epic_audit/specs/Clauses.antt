-- The provenance of an acceptance: what the ledger has to say of a hop, and of a packet at its destination. Here `x` is the
-- name of hop j of the packet `p` as it came in.
use Rattle.std.specs.Prelude.{◌≡◌, ◌⊎◌, ℕ, ◌-◌, ◌<◌, ◌==◌, ◌&&◌, nat_lt, Bool, true, false, if◌then◌else◌, List, Option, Some, find, slice_get, bytes_eq}
use Rattle.epic_num.specs.declared.hop.HopName.{HopName}
use Rattle.epic_num.specs.declared.key_name.Holder.TheVariants.{As, Host}
use Rattle.epic_num.specs.Chains.{Issue, issue_at, name_of}
use Rattle.epic_num.specs.Levels.{is_tagged, is_updated}
use Rattle.epic_num.specs.Same.{same_host}
use Rattle.epic_layout.specs.Contents.{Contents, hop_count}
use Rattle.epic_layout.specs.Route.{place, is_first}
use Rattle.epic_ledger.specs.Facts.{Facts, Sent, Pass, pass_name, sent_name}
use Rattle.epic_ledger.specs.Queries.{is_send_of, same_path, chain_pass}
use Rattle.epic_audit.specs.Reveals.{IsRevealed}

-- ---- hops

-- the AS issued the hop
pub record IsIssued (issues : List Issue) (x : HopName) : Type 0 where
  pub number : ℕ
  pub named : name_of issues number ≡ Some x

-- some issue of y has z as its parent's name
pub record GoesOnFrom (issues : List Issue) (y z : HopName) : Type 0 where
  pub number : ℕ
  pub issue : Issue
  pub there : issue_at issues number ≡ Some issue
  pub named : issue.name ≡ y
  pub parent_named : name_of issues issue.parent ≡ Some z

-- of two neighbours in a segment the one with the greater position, and the other
unfoldable pub higher : HopName → HopName → HopName
higher w x = if nat_lt w.body.pos x.body.pos then x else w

unfoldable pub lower : HopName → HopName → HopName
lower w x = if nat_lt w.body.pos x.body.pos then w else x

-- The hop is chained to the one that was passed before it in its segment: the first hop that was accepted at the index
-- before, on a packet with these path bytes. It speaks only where there is one, and where the higher of the two was issued.
abbrev pub IsChained : Facts → HopName → Contents → ℕ → Type 0
IsChained f x p j =
    (w : Pass)
    → is_first (place p.route.segments j) ≡ false
    → chain_pass f.passes p.route (j - 1) ≡ Some w
    → IsIssued f.issues (higher (pass_name w) x)
    → GoesOnFrom f.issues (higher (pass_name w) x) (lower (pass_name w) x)

-- the packet was sent by p's source with p's first byte and timestamp
unfoldable pub is_sent_like : Contents → Sent → Bool
is_sent_like p s = is_send_of p.src p.ts s && s.packet.first == p.first

-- the source made the hop's field: it sent such a packet over this hop
pub record IsSourced (f : Facts) (x : HopName) (p : Contents) (j : ℕ) : Type 0 where
  pub index : ℕ
  pub send : Sent
  pub there : slice_get f.sends index ≡ Some send
  pub alike : is_sent_like p send ≡ true
  pub named : sent_name f.issues send j ≡ Some x

-- the provenance of a hop
pub record HopOk (f : Facts) (x : HopName) (p : Contents) (j : ℕ) : Type 0 where
  pub issued : IsIssued f.issues x
  pub chained : IsChained f x p j
  pub sourced : is_tagged p.first ≡ true → IsSourced f x p j

-- ---- destinations, at levels 2 and 3

-- the packet was sent with p's first byte, source, destination, timestamp, path bytes and payload
unfoldable pub is_sent_as : Contents → Sent → Bool
is_sent_as p s =
    is_sent_like p s && same_host s.packet.dst p.dst && same_path s.packet.route p.route && bytes_eq s.packet.payload p.payload

-- the first packet that was
unfoldable pub sent_as : List Sent → Contents → Option Sent
sent_as sends p = find (is_sent_as p) sends

-- a hop of this name was accepted at index i of a packet with p's first byte, source and timestamp
pub record IsPassedOn (passes : List Pass) (x : HopName) (p : Contents) (i : ℕ) : Type 0 where
  pub index : ℕ
  pub pass : Pass
  pub there : slice_get passes index ≡ Some pass
  pub name_is : pass_name pass ≡ x
  pub first_is : pass.packet.first ≡ p.first
  pub src_is : pass.packet.src ≡ p.src
  pub ts_is : pass.packet.ts ≡ p.ts
  pub hop_is : pass.hop ≡ i

-- the AS of the sent packet's hop i was revealed, or accepted that hop
abbrev pub IsCovered : Facts → Contents → Sent → ℕ → Type 0
IsCovered f p s i = (x : HopName) → sent_name f.issues s i ≡ Some x → IsRevealed f.reveals (As x.asn) ⊎ IsPassedOn f.passes x p i

-- the source host or its AS was revealed, or each hop is covered
abbrev pub ArePassed : Facts → Contents → Sent → Type 0
ArePassed f p s =
    IsRevealed f.reveals (Host p.src)
    ⊎ (IsRevealed f.reveals (As p.src.asn) ⊎ ((i : ℕ) → i < hop_count s.packet → IsCovered f p s i))

-- the provenance of a packet at its destination: it was sent as it is, and at level 3 each AS passed it on
pub record DestOk (f : Facts) (p : Contents) : Type 0 where
  pub send : Sent
  pub sent : sent_as f.sends p ≡ Some send
  pub passed : is_updated p.first ≡ true → ArePassed f p send
