-- Keys of names are the same where the names are.
use Rattle.std.proofs.Common.{◌≡◌, ℕ, Bool, true, false, List, bytes_eq, refl, sym, ◌∙◌, arith}
use Rattle.std.specs.Prelude.{◌&&◌, ◌||◌, ◌==◌}
use Rattle.std.proofs.lemmas.Bool.Decides.{nat_tests}
use Rattle.std.proofs.lemmas.Slice.Eq.{bytes_eq-Decides}
use Rattle.epic_num.specs.Same.{same_as, same_body, same_name}
use Rattle.epic_num.specs.declared.hop.HopName.{HopName}
use Rattle.epic_index.specs.Names.{name_eq, name_key}

pub eq_flip : (a b : ℕ) → (a == b) ≡ (b == a)
eq_flip a b = grind (arith, nat_tests)

pub bytes_flip : (xs ys : List ℕ) → bytes_eq xs ys ≡ bytes_eq ys xs
bytes_flip xs ys = by (bytes_eq xs ys) (bytes_eq ys xs) refl refl
  where
    by : (b c : Bool) → bytes_eq xs ys ≡ b → bytes_eq ys xs ≡ c → b ≡ c
    by true true e f = refl
    by false false e f = refl
    by true false e f = sym ((bytes_eq-Decides ys xs).1 (sym ((bytes_eq-Decides xs ys).0 e))) ∙ f
    by false true e f = sym e ∙ (bytes_eq-Decides xs ys).1 (sym ((bytes_eq-Decides ys xs).0 f))

pub never : (b : Bool) → (b && false) ≡ false
never true = refl
never false = refl

pub or_none : (b : Bool) → (b || false) ≡ b
or_none true = refl
or_none false = refl

in_order : (t a g p e i o l : Bool) → (t && (a && (g && (p && (e && (i && (o && l))))))) ≡ (a && g && (p && e && t && i && o && l))
in_order t false g p e i o l = never t
in_order t true false p e i o l = never t
in_order t true true false e i o l = never t
in_order t true true true false i o l = never t
in_order false true true true true i o l = refl
in_order true true true true true false o l = refl
in_order true true true true true true false l = refl
in_order true true true true true true true l = refl

pub name_matches : (x y : HopName) → name_eq (name_key x) (name_key y) ≡ same_name y x
unfolding name_key same_name same_as same_body
name_matches x y =
    (λ i.
    eq_flip x.body.ts_path y.body.ts_path i
    && (eq_flip x.asn.0 y.asn.0 i
    && (eq_flip x.generation y.generation i
    && (eq_flip x.body.pos y.body.pos i
    && (eq_flip x.body.exp y.body.exp i
    && (eq_flip x.body.inn y.body.inn i && (eq_flip x.body.out y.body.out i && bytes_flip x.body.link y.body.link i)))))))
    ∙ in_order
    (y.body.ts_path == x.body.ts_path)
    (y.asn.0 == x.asn.0)
    (y.generation == x.generation)
    (y.body.pos == x.body.pos)
    (y.body.exp == x.body.exp)
    (y.body.inn == x.body.inn)
    (y.body.out == x.body.out)
    (bytes_eq y.body.link x.body.link)
