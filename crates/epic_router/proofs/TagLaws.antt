-- A hop's tags as its AS's forwarding key gives them, under one generation of it.
use Rattle.std.proofs.Common.{◌≡◌, ℕ, Bool, true, false, List, [], ◌∷◌, Some, None, refl, ap, ◌∙◌}
use Rattle.std.specs.Prelude.{◌||◌}
use Rattle.std.proofs.lemmas.Bool.{cond-true, cond-false, and_from, and_right}
use Rattle.epic_num.specs.declared.hop.Body.{Body}
use Rattle.epic_num.specs.declared.hop.Field.{Field}
use Rattle.epic_num.specs.declared.key_name.KeyName.TheVariants.{Fwd}
use Rattle.epic_num.specs.declared.name.AsId.{AsId}
use Rattle.epic_layout.specs.Contents.{Contents, as_field, field_bytes}
use Rattle.epic_layout.specs.Route.{body}
use Rattle.epic_topo.specs.Network.{Network}
use Rattle.epic_keys.specs.Keys.{key}
use Rattle.epic_fields.specs.Formulas.{authenticator, link_tag}
use Rattle.epic_fields.specs.HopChecks.{hop_name, carries_field, carries_link, has_field, has_link}
use Rattle.epic_fields.specs.PacketTags.{field_over, field_of, shared_key}
use Rattle.epic_fields.specs.Tags.{hop_key, sigma, link}
use Rattle.epic_fields.proofs.FieldBytes.{field_read}
use Rattle.epic_router.specs.Candidates.{field_fits, tags_fit, some_field_fits, accepting}

-- a key and a body are those of a hop of the packet
pub record IsKeyOf (t : Network) (a : AsId) (generation : ℕ) (p : Contents) (j : ℕ) (k : List ℕ) (b : Body) : Type 0 where
  pub key_is : k ≡ key t (Fwd a generation)
  pub body_is : b ≡ body p.route j

pub field_by_key : (t : Network) (a : AsId) (g : ℕ) (p : Contents) (j : ℕ) (k : List ℕ) (b : Body) (s : List ℕ) (f : Field) → IsKeyOf t a g p j k b
    → s ≡ authenticator k b → ((shared : List ℕ) → f ≡ as_field (field_over shared s p j))
    → carries_field (field_bytes f) p j ≡ field_fits t a p j g
unfolding field_fits hop_name has_field field_of sigma hop_key
field_by_key t a g p j k b s f same is right =
    ap (λ v. carries_field v p j) (field_read f (field_over (shared_key t a p) s p j) (right (shared_key t a p)))
    ∙ ap (λ v. carries_field (field_over (shared_key t a p) v p j) p j) (is ∙ (λ i. authenticator (same.key_is i) (same.body_is i)))

pub link_by_key : (t : Network) (a : AsId) (g : ℕ) (p : Contents) (j : ℕ) (k : List ℕ) (b : Body) (l : List ℕ) → IsKeyOf t a g p j k b → l ≡ link_tag k b
    → carries_link l p j ≡ has_link t (hop_name a g p j) p j
unfolding hop_name has_link link hop_key
link_by_key t a g p j k b l same is = ap (λ v. carries_link v p j) (is ∙ (λ i. link_tag (same.key_is i) (same.body_is i)))

-- ---- one generation alone

or_false : (b : Bool) → (b || false) ≡ b
or_false true = refl
or_false false = refl

pub one_field : (t : Network) (a : AsId) (g : ℕ) (p : Contents) (j : ℕ) → some_field_fits t a (g ∷ []) p j ≡ field_fits t a p j g
unfolding some_field_fits
one_field t a g p j = or_false (field_fits t a p j g)

pub none_accepting : (t : Network) (a : AsId) (g : ℕ) (p : Contents) (j : ℕ) → has_link t (hop_name a g p j) p j ≡ false → accepting t a (g ∷ []) p j ≡ None
unfolding accepting tags_fit
none_accepting t a g p j e = cond-false _ _ _ (and_right (field_fits t a p j g) _ e)

pub one_accepting : (t : Network) (a : AsId) (g : ℕ) (p : Contents) (j : ℕ) → field_fits t a p j g ≡ true → has_link t (hop_name a g p j) p j ≡ true → accepting t a (g ∷ []) p j ≡ Some g
unfolding accepting tags_fit
one_accepting t a g p j field link = cond-true _ _ _ (and_from _ _ field link)
