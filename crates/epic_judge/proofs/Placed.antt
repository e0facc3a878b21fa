-- What the place of an acceptance says of its packet.
use Rattle.std.proofs.Common.{◌≡◌, ℕ, ◌<◌, true, List, refl, sym, subst, arith}
use Rattle.std.specs.Prelude.{nat_lt, Option, Some, None, is_none, Result, Ok, Err, IsTrue, OnOk}
use Rattle.std.proofs.lemmas.Bool.{and_parts}
use Rattle.std.proofs.lemmas.Bool.Decides.{nat_tests}
use Rattle.epic_num.specs.declared.layout_error.LayoutError.{LayoutError}
use Rattle.epic_num.specs.declared.name.AsId.{AsId}
use Rattle.epic_num.specs.declared.name.HostId.{HostId}
use Rattle.epic_num.specs.declared.passed.Place.{Place}
use Rattle.epic_num.specs.Levels.{is_first_byte}
use Rattle.epic_num.specs.Tables.{unless}
use Rattle.epic_num.proofs.SameLaws.{same_host-Decides}
use Rattle.epic_layout.specs.Contents.{Contents, hop_count}
use Rattle.epic_layout.specs.Layout.{fault, parse}
use Rattle.epic_topo.specs.Network.{Network, has}
use Rattle.epic_ledger.specs.History.{History}
use Rattle.epic_record.specs.declared.item.Item.TheVariants as items
use Rattle.epic_record.specs.LedgerFile.{is_packet, is_placed}

-- a packet that was looked at is what its bytes say
pub looked : (bytes : List ℕ) (p : Contents) → Ok p ≡ unless (fault is_first_byte bytes) (parse bytes) → p ≡ parse bytes
looked bytes p e = by (fault is_first_byte bytes) e
  where
    by : (o : Option LayoutError) → Ok p ≡ unless o (parse bytes) → p ≡ parse bytes
    by None k = cc
    by (Some f) k = absurd (cc)

-- and no packet has a fault
pub not_looked : (bytes : List ℕ) (e : LayoutError) → is_packet bytes ≡ true → Err e ≡ unless (fault is_first_byte bytes) (parse bytes) → ⊥
not_looked bytes e packet is = by (fault is_first_byte bytes) packet is
  where
    by : (o : Option LayoutError) → is_none o ≡ true → ◌≡◌ {A = Result Contents LayoutError} (Err e) (unless o (parse bytes)) → ⊥
    by None h k = cc
    by (Some f) h k = cc

below : (m n : ℕ) → nat_lt m n ≡ true → m < n
below m n h = grind (arith, nat_tests)

module _ (t : Network) (h : History) (a : AsId) (generation hop : ℕ) (bytes : List ℕ) (p : is_placed t h (items.AcceptHop a generation hop bytes) ≡ true) where
  pub hop_known : IsTrue (has t a)
  hop_known = (and_parts _ _ (and_parts _ _ p).0).0

  pub hop_packet : is_packet bytes ≡ true
  hop_packet = (and_parts _ _ (and_parts _ _ p).0).1

  pub hop_within : hop < hop_count (parse bytes)
  hop_within = below hop (hop_count (parse bytes)) (and_parts _ _ p).1

module _ (t : Network) (h : History) (host : HostId) (bytes : List ℕ) (p : is_placed t h (items.AcceptDest host bytes) ≡ true) where
  pub dest_known : IsTrue (has t (parse bytes).dst.asn)
  dest_known =
      subst (λ (d : HostId). IsTrue (has t d.asn)) (sym ((same_host-Decides (parse bytes).dst host).0 (and_parts _ _ p).1))
      (and_parts _ _ (and_parts _ _ p).0).0

  pub dest_packet : is_packet bytes ≡ true
  dest_packet = (and_parts _ _ (and_parts _ _ p).0).1

-- an emission that is placed has no fault
pub emission_faultless : (t : Network) (h : History) (number : ℕ) (due : Place) (bytes : List ℕ) → is_placed t h (items.Emission number due bytes) ≡ true → fault is_first_byte bytes ≡ None
emission_faultless t h number due bytes p = by (fault is_first_byte bytes) (and_parts _ _ p).1
  where
    by : (o : Option LayoutError) → is_none o ≡ true → o ≡ None
    by None k = refl
    by (Some f) k = absurd (cc)

pub on_ok : {A E : Type 0} (r : Result A E) (P : Type 0) → P → OnOk r P
on_ok (Ok a) P p = p
on_ok (Err e) P p = tt
