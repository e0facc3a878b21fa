-- The tests of specs/Same decide equality.
use Rattle.std.proofs.Common.{◌≡◌, Bool, false, refl, ap}
use Rattle.std.specs.Bool.{Decides}
use Rattle.std.specs.Prelude.{Option, Some, None, ◌==◌}
use Rattle.std.proofs.lemmas.Bool.Decides.{Decides-eqb, Decides-and, Decides-like}
use Rattle.std.proofs.lemmas.Option.{same_Some}
use Rattle.std.proofs.lemmas.Slice.Eq.{bytes_eq-Decides}
use Rattle.epic_num.specs.declared.verdict.Part.{Part}
use Rattle.epic_num.specs.declared.verdict.Part.TheVariants.{Link, Sigma}
use Rattle.epic_num.specs.Same.{same_key}
use Rattle.epic_num.proofs.SameLaws.{same_key-Decides, same_name-Decides}
use Rattle.epic_record.specs.declared.told.Told.{Told}
use Rattle.epic_record.specs.declared.told.Told.TheVariants as told
use Rattle.epic_record.specs.declared.told.ToldForgery.{ToldForgery}
use Rattle.epic_record.specs.declared.told.ToldForgery.TheVariants as what
use Rattle.epic_judging.specs.Same.{same_part, same_option, same_what, same_told}

differ : {P : Type 0} → (P → ⊥) → Decides false P
differ apart = (λ e. absurd (cc), λ p. absurd (apart p))

pub same_part-Decides : (m n : Part) → Decides (same_part m n) (m ≡ n)
same_part-Decides Link Link = (λ e. refl, λ e. refl)
same_part-Decides Sigma Sigma = (λ e. refl, λ e. refl)
same_part-Decides Link Sigma = differ (λ e. cc)
same_part-Decides Sigma Link = differ (λ e. cc)

pub same_option-Decides : {X : Type 0} (same : X → X → Bool) → ((x y : X) → Decides (same x y) (x ≡ y)) → (o q : Option X) → Decides (same_option same o q) (o ≡ q)
same_option-Decides same each None None = (λ e. refl, λ e. refl)
same_option-Decides same each (Some x) (Some y) = Decides-like _ (λ e. ap Some e) (λ e. same_Some x y e) (each x y)
same_option-Decides same each None (Some y) = differ (λ e. cc)
same_option-Decides same each (Some x) None = differ (λ e. cc)

pub same_what-Decides : (w v : ToldForgery) → Decides (same_what w v) (w ≡ v)
unfolding same_what
same_what-Decides what.Issue what.Issue = (λ e. refl, λ e. refl)
same_what-Decides (what.Over key message) (what.Over key' message') =
    Decides-like _
    (λ e i. what.Over (e.0 i) (e.1 i))
    (λ e. (cc, cc))
    (Decides-and _ _ (same_option-Decides same_key same_key-Decides key key') (bytes_eq-Decides message message'))
same_what-Decides what.Field what.Field = (λ e. refl, λ e. refl)
same_what-Decides (what.Update hop) (what.Update hop') = Decides-like _ (λ e. ap what.Update e) (λ e. cc) (Decides-eqb hop hop')
same_what-Decides what.Dest what.Dest = (λ e. refl, λ e. refl)
same_what-Decides what.Issue (what.Over key' message') = differ (λ e. cc)
same_what-Decides what.Issue what.Field = differ (λ e. cc)
same_what-Decides what.Issue (what.Update hop') = differ (λ e. cc)
same_what-Decides what.Issue what.Dest = differ (λ e. cc)
same_what-Decides (what.Over key message) what.Issue = differ (λ e. cc)
same_what-Decides (what.Over key message) what.Field = differ (λ e. cc)
same_what-Decides (what.Over key message) (what.Update hop') = differ (λ e. cc)
same_what-Decides (what.Over key message) what.Dest = differ (λ e. cc)
same_what-Decides what.Field what.Issue = differ (λ e. cc)
same_what-Decides what.Field (what.Over key' message') = differ (λ e. cc)
same_what-Decides what.Field (what.Update hop') = differ (λ e. cc)
same_what-Decides what.Field what.Dest = differ (λ e. cc)
same_what-Decides (what.Update hop) what.Issue = differ (λ e. cc)
same_what-Decides (what.Update hop) (what.Over key' message') = differ (λ e. cc)
same_what-Decides (what.Update hop) what.Field = differ (λ e. cc)
same_what-Decides (what.Update hop) what.Dest = differ (λ e. cc)
same_what-Decides what.Dest what.Issue = differ (λ e. cc)
same_what-Decides what.Dest (what.Over key' message') = differ (λ e. cc)
same_what-Decides what.Dest what.Field = differ (λ e. cc)
same_what-Decides what.Dest (what.Update hop') = differ (λ e. cc)

pub same_told-Decides : (a b : Told) → Decides (same_told a b) (a ≡ b)
unfolding same_told
same_told-Decides (told.Proved first second) (told.Proved first' second') =
    Decides-like _
    (λ e i. told.Proved (e.0 i) (e.1 i))
    (λ e. (cc, cc))
    (Decides-and _ _ (Decides-eqb first first') (same_option-Decides (λ m n. m == n) Decides-eqb second second'))
same_told-Decides told.Unclaimed told.Unclaimed = (λ e. refl, λ e. refl)
same_told-Decides (told.Opened step) (told.Opened step') = Decides-like _ (λ e. ap told.Opened e) (λ e. cc) (Decides-eqb step step')
same_told-Decides (told.Forged w key message tag) (told.Forged w' key' message' tag') =
    Decides-like _
    (λ e i. told.Forged (e.0.0.0 i) (e.0.0.1 i) (e.0.1 i) (e.1 i))
    (λ e. (((cc, cc), cc), cc))
    (Decides-and _ _
    (Decides-and _ _ (Decides-and _ _ (same_what-Decides w w') (same_key-Decides key key')) (bytes_eq-Decides message message'))
    (bytes_eq-Decides tag tag'))
same_told-Decides (told.Collided part left right tag) (told.Collided part' left' right' tag') =
    Decides-like _
    (λ e i. told.Collided (e.0.0.0 i) (e.0.0.1 i) (e.0.1 i) (e.1 i))
    (λ e. (((cc, cc), cc), cc))
    (Decides-and _ _
    (Decides-and _ _ (Decides-and _ _ (same_part-Decides part part') (same_name-Decides left left')) (same_name-Decides right right'))
    (bytes_eq-Decides tag tag'))
same_told-Decides (told.Proved first second) told.Unclaimed = differ (λ e. cc)
same_told-Decides (told.Proved first second) (told.Opened step') = differ (λ e. cc)
same_told-Decides (told.Proved first second) (told.Forged w' key' message' tag') = differ (λ e. cc)
same_told-Decides (told.Proved first second) (told.Collided part' left' right' tag') = differ (λ e. cc)
same_told-Decides told.Unclaimed (told.Proved first' second') = differ (λ e. cc)
same_told-Decides told.Unclaimed (told.Opened step') = differ (λ e. cc)
same_told-Decides told.Unclaimed (told.Forged w' key' message' tag') = differ (λ e. cc)
same_told-Decides told.Unclaimed (told.Collided part' left' right' tag') = differ (λ e. cc)
same_told-Decides (told.Opened step) (told.Proved first' second') = differ (λ e. cc)
same_told-Decides (told.Opened step) told.Unclaimed = differ (λ e. cc)
same_told-Decides (told.Opened step) (told.Forged w' key' message' tag') = differ (λ e. cc)
same_told-Decides (told.Opened step) (told.Collided part' left' right' tag') = differ (λ e. cc)
same_told-Decides (told.Forged w key message tag) (told.Proved first' second') = differ (λ e. cc)
same_told-Decides (told.Forged w key message tag) told.Unclaimed = differ (λ e. cc)
same_told-Decides (told.Forged w key message tag) (told.Opened step') = differ (λ e. cc)
same_told-Decides (told.Forged w key message tag) (told.Collided part' left' right' tag') = differ (λ e. cc)
same_told-Decides (told.Collided part left right tag) (told.Proved first' second') = differ (λ e. cc)
same_told-Decides (told.Collided part left right tag) told.Unclaimed = differ (λ e. cc)
same_told-Decides (told.Collided part left right tag) (told.Opened step') = differ (λ e. cc)
same_told-Decides (told.Collided part left right tag) (told.Forged w' key' message' tag') = differ (λ e. cc)
