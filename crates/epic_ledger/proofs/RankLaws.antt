-- The orders are total, and tell apart what the tests of equality tell apart.
use Rattle.std.proofs.Common.{◌≡◌, ℕ, zero, suc, ◌<◌, Bool, List, [], ◌∷◌, length, Option, Ordering, refl, sym, ap, ◌∙◌, arith}
use Rattle.std.specs.Prelude.{Some, None, IfSome, position, slice_index_or}
use Rattle.std.specs.Cmp.{IsTotalOrder, unsigned_ties, both_tied}
use Rattle.std.specs.Cmp.Lexicographic.{slice_cmp, texts_ties, bytes_decides}
use Rattle.std.specs.Ordering.{is_eq, nat_cmp, ordering_reverse, ordering_then}
use Rattle.std.specs.declared.cmp.Ordering.TheVariants.{Less, Equal, Greater}
use Rattle.std.proofs.lemmas.List.Quantifiers.{position-Some}
use Rattle.std.proofs.lemmas.Cmp.{nat_cmp_total, nat_list_cmp_total, on_total, then_total}
use Rattle.epic_num.specs.Same.{same_as, same_host, same_body, same_name, same_holder}
use Rattle.epic_num.specs.declared.hop.Body.{Body}
use Rattle.epic_num.specs.declared.hop.HopName.{HopName}
use Rattle.epic_num.specs.declared.name.AsId.{AsId}
use Rattle.epic_num.specs.declared.name.HostId.{HostId}
use Rattle.epic_num.specs.declared.key_name.Holder.{Holder}
use Rattle.epic_num.specs.declared.key_name.Holder.TheVariants.{As, Host}
use Rattle.epic_num.proofs.SameLaws.{same_name-Decides, same_holder-Decides}
use Rattle.epic_num.specs.Chains.{no_name}
use Rattle.epic_tree.specs.Index.{IsTagOf}
use Rattle.epic_ledger.proofs.Logging.{position-map}
use Rattle.epic_ledger.specs.Ranks.{as_cmp, host_cmp, holder_row, holder_cmp, holder_tag, body_cmp, name_cmp, name_tag, names_of}
use Rattle.epic_ledger.specs.declared.log.Issued.{Issued}

pub as_total : IsTotalOrder as_cmp
unfolding as_cmp
as_total = on_total (λ (a : AsId). a.0) nat_cmp_total

pub as_ties : (a b : AsId) → same_as a b ≡ is_eq (as_cmp a b)
unfolding as_cmp same_as
as_ties a b = unsigned_ties a.0 b.0

pub host_total : IsTotalOrder host_cmp
unfolding host_cmp
host_total = then_total (on_total (λ (h : HostId). h.asn) as_total) (on_total (λ (h : HostId). h.host) nat_cmp_total)

pub host_ties : (h k : HostId) → same_host h k ≡ is_eq (host_cmp h k)
unfolding host_cmp same_host
host_ties h k = both_tied _ _ _ _ (as_ties h.asn k.asn) (unsigned_ties h.host k.host)

pub holder_total : IsTotalOrder holder_cmp
unfolding holder_cmp
holder_total = on_total holder_row nat_list_cmp_total

then_Equal : (o : Ordering) → ordering_then o Equal ≡ o
then_Equal Less = refl
then_Equal Equal = refl
then_Equal Greater = refl

-- the order of two holders of one kind
pub as_rows : (a b : AsId) → as_cmp a b ≡ holder_cmp (As a) (As b)
unfolding as_cmp holder_cmp
as_rows a b = sym (then_Equal (nat_cmp a.0 b.0))

pub host_rows : (h k : HostId) → host_cmp h k ≡ holder_cmp (Host h) (Host k)
unfolding as_cmp host_cmp holder_cmp
host_rows h k = ap (ordering_then (nat_cmp h.asn.0 k.asn.0)) (sym (then_Equal (nat_cmp h.host k.host)))

pub ruleset holders_ordered = (as_rows, host_rows)

pub holder_ties : (x y : Holder) → same_holder x y ≡ is_eq (holder_cmp x y)
unfolding same_holder holder_cmp
holder_ties (As a) (As b) = as_ties a b ∙ ap is_eq (as_rows a b)
holder_ties (Host h) (Host k) = host_ties h k ∙ ap is_eq (host_rows h k)
holder_ties (As a) (Host k) = refl
holder_ties (Host h) (As b) = refl

pub holder_tagged : IsTagOf holder_cmp holder_tag
holder_tagged x y e = ap holder_tag ((same_holder-Decides x y).0 (holder_ties x y ∙ ap is_eq e))

pub body_total : IsTotalOrder body_cmp
unfolding body_cmp
body_total =
    then_total
    (then_total
    (then_total
    (then_total (then_total (on_total (λ (b : Body). b.pos) nat_cmp_total) (on_total (λ (b : Body). b.exp) nat_cmp_total)) (on_total (λ (b : Body). b.ts_path) nat_cmp_total))
    (on_total (λ (b : Body). b.inn) nat_cmp_total))
    (on_total (λ (b : Body). b.out) nat_cmp_total))
    (on_total (λ (b : Body). b.link) nat_list_cmp_total)

pub body_ties : (b c : Body) → same_body b c ≡ is_eq (body_cmp b c)
unfolding body_cmp same_body
body_ties b c =
    both_tied _ _ _ _
    (both_tied _ _ _ _
    (both_tied _ _ _ _
    (both_tied _ _ _ _
    (both_tied _ _ _ _ (unsigned_ties b.pos c.pos) (unsigned_ties b.exp c.exp))
    (unsigned_ties b.ts_path c.ts_path))
    (unsigned_ties b.inn c.inn))
    (unsigned_ties b.out c.out))
    (texts_ties b.link c.link)

pub name_total : IsTotalOrder name_cmp
unfolding name_cmp
name_total =
    then_total (then_total (on_total (λ (x : HopName). x.asn) as_total) (on_total (λ (x : HopName). x.generation) nat_cmp_total)) (on_total (λ (x : HopName). x.body) body_total)

pub name_ties : (x y : HopName) → same_name x y ≡ is_eq (name_cmp x y)
unfolding name_cmp same_name
name_ties x y =
    both_tied _ _ _ _ (both_tied _ _ _ _ (as_ties x.asn y.asn) (unsigned_ties x.generation y.generation)) (body_ties x.body y.body)

-- names that are not told apart are the same
pub name_same : (x y : HopName) → name_cmp x y ≡ Equal → x ≡ y
name_same x y e = (same_name-Decides x y).0 (name_ties x y ∙ ap is_eq e)

pub name_tagged : IsTagOf name_cmp name_tag
name_tagged x y e = ap name_tag (name_same x y e)

pub named_at : (issues : List Issued) (p : ℕ) (i : Issued) → p < length issues → i ≡ slice_index_or issues p i → slice_index_or (names_of issues) p no_name ≡ i.name
named_at [] p i h e = absurd (omega arith)
named_at (x ∷ xs) zero i h e = sym (ap (λ (j : Issued). j.name) e)
named_at (x ∷ xs) (suc p) i h e = named_at xs p i (omega arith) e

pub is_eq_back : (o p : Ordering) → o ≡ ordering_reverse p → is_eq o ≡ is_eq p
is_eq_back o Less e = ap is_eq e
is_eq_back o Equal e = ap is_eq e
is_eq_back o Greater e = ap is_eq e

-- the parts of an order by two parts, where it tells nothing apart
pub tied_parts : (o p : Ordering) → ordering_then o p ≡ Equal → (o ≡ Equal) × (p ≡ Equal)
tied_parts Less p e = cc
tied_parts Equal p e = (refl, e)
tied_parts Greater p e = cc

pub holder_back : (x y : Holder) → is_eq (holder_cmp x y) ≡ same_holder y x
holder_back x y = is_eq_back (holder_cmp x y) (holder_cmp y x) (holder_total.antisymm x y) ∙ sym (holder_ties y x)

-- lists of numbers that are not told apart are the same
pub same_text : (xs ys : List ℕ) → slice_cmp nat_cmp xs ys ≡ Equal → xs ≡ ys
same_text xs ys e = (bytes_decides xs ys).0 (texts_ties xs ys ∙ ap is_eq e)

-- the test of equality, the other way round
name_back : (x y : HopName) → is_eq (name_cmp x y) ≡ same_name y x
name_back x y = is_eq_back (name_cmp x y) (name_cmp y x) (name_total.antisymm x y) ∙ sym (name_ties y x)

pub names_position : (issues : List Issued) (x : HopName) → position (λ z. is_eq (name_cmp x z)) (names_of issues) ≡ position (λ i. same_name i.name x) issues
names_position issues x =
    position-map (λ z. is_eq (name_cmp x z)) (λ (i : Issued). i.name) issues
    ∙ ap (λ (q : Issued → Bool). position q issues) (λ k i. name_back x i.name k)

-- the first place of a list is within it
pub position_within : {X : Type 0} (xs : List X) (p : X → Bool) (o : Option ℕ) → o ≡ position p xs → IfSome o (λ i. i < length xs)
position_within [] p None e = tt
position_within [] p (Some i) e = cc
position_within (x ∷ xs) p None e = tt
position_within (x ∷ xs) p (Some i) e = (position-Some p (x ∷ xs) i x (sym e)).0
