-- The updates that stand in a packet, taken from its fields one by one.
use Rattle.std.proofs.Common.{◌≡◌, ℕ, ◌+◌, ◌<◌, List, [], ◌∷◌, ◌++◌, length, take, sym, ap, ◌∙◌, arith, length-append}
use Rattle.std.specs.Prelude.{map}
use Rattle.std.specs.List.{All}
use Rattle.std.proofs.lemmas.List.{map-append, take_more}
use Rattle.std.proofs.lemmas.List.Elements.{All-append, All-cons, All-nil}
use Rattle.epic_num.specs.declared.hop.Field.{Field}
use Rattle.epic_layout.specs.Contents.{Contents, field, field_bytes}

-- the first fields of a packet, each as wide as it has to be
pub record AreFirst (p : Contents) (width j : ℕ) (taken : List Field) : Type 0 where
  pub fields : map field_bytes taken ≡ take j p.fields
  pub count : length taken ≡ j
  pub widths : All (λ f. f.width ≡ width) taken

pub one_more : (p : Contents) (width j : ℕ) (taken : List Field) (f : Field) → j < length p.fields → field_bytes f ≡ field p j → f.width ≡ width
    → AreFirst p width j taken → AreFirst p width (j + 1) (taken ++ f ∷ [])
unfolding field
one_more p width j taken f there is wide h = record {
  fields =
      map-append field_bytes taken (f ∷ [])
      ∙ (ap (λ fs. fs ++ field_bytes f ∷ []) h.fields
      ∙ (ap (λ v. take j p.fields ++ v ∷ []) is ∙ sym (take_more p.fields j [] there)));
  count = omega (arith, h.count, length-append taken (f ∷ []));
  widths = All-append (λ f. f.width ≡ width) taken (f ∷ []) h.widths (All-cons (λ f. f.width ≡ width) f [] wide (All-nil (λ f. f.width ≡ width)));
}
