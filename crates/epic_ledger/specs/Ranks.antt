-- Private: serves proofs of this crate alone; no public contract cites it.
-- Orders of what is sought in a ledger. They tell apart exactly what the tests of equality tell apart.
use Rattle.std.specs.Prelude.{ℕ, ◌%◌, ◌^◌, List, [], ◌∷◌, map}
use Rattle.std.specs.Cmp.Lexicographic.{slice_cmp}
use Rattle.std.specs.Int.{w32}
use Rattle.std.specs.Ordering.{nat_cmp, then_cmp, on}
use Rattle.std.specs.declared.cmp.Ordering.{Ordering}
use Rattle.epic_layout.specs.Pieces.{number}
use Rattle.epic_num.specs.declared.hop.Body.{Body}
use Rattle.epic_num.specs.declared.hop.HopName.{HopName}
use Rattle.epic_num.specs.declared.key_name.Holder.{Holder}
use Rattle.epic_num.specs.declared.key_name.Holder.TheVariants.{As, Host}
use Rattle.epic_num.specs.declared.name.AsId.{AsId}
use Rattle.epic_num.specs.declared.name.HostId.{HostId}
use Rattle.epic_ledger.specs.declared.log.Issued.{Issued}

unfoldable pub as_cmp : AsId → AsId → Ordering
as_cmp = on (λ (a : AsId). a.0) nat_cmp

unfoldable pub host_cmp : HostId → HostId → Ordering
host_cmp = then_cmp (on (λ (h : HostId). h.asn) as_cmp) (on (λ (h : HostId). h.host) nat_cmp)

-- the numbers of a holder, the first of which says what it is
abbrev pub holder_row : Holder → List ℕ
holder_row (As a) = 0 ∷ a.0 ∷ []
holder_row (Host h) = 1 ∷ h.asn.0 ∷ h.host ∷ []

unfoldable pub holder_cmp : Holder → Holder → Ordering
holder_cmp = on holder_row (slice_cmp nat_cmp)

-- the lower half of its AS, or the number of its host
unfoldable pub holder_tag : Holder → ℕ
holder_tag (As a) = a.0 % 2 ^ 32
holder_tag (Host h) = h.host

unfoldable pub body_cmp : Body → Body → Ordering
body_cmp =
    then_cmp
    (then_cmp
    (then_cmp
    (then_cmp (then_cmp (on (λ (b : Body). b.pos) nat_cmp) (on (λ (b : Body). b.exp) nat_cmp)) (on (λ (b : Body). b.ts_path) nat_cmp))
    (on (λ (b : Body). b.inn) nat_cmp))
    (on (λ (b : Body). b.out) nat_cmp))
    (on (λ (b : Body). b.link) (slice_cmp nat_cmp))

unfoldable pub name_cmp : HopName → HopName → Ordering
name_cmp =
    then_cmp (then_cmp (on (λ (x : HopName). x.asn) as_cmp) (on (λ (x : HopName). x.generation) nat_cmp)) (on (λ (x : HopName). x.body) body_cmp)

-- the first half of its link tag
unfoldable pub name_tag : HopName → ℕ
name_tag x = number w32 x.body.link 0

-- no host's name
unfoldable pub no_host : HostId
no_host = record { asn = record { 0 = 0 }; host = 0 }

abbrev pub names_of : List Issued → List HopName
names_of issues = map (λ (i : Issued). i.name) issues
