-- A hop's tags by keys that were made ready are those of the topology.
use Rattle.std.proofs.Common.{◌≡◌, ℕ, true, false, List, ap, sym, ◌∙◌}
use Rattle.std.specs.Prelude.{◌&&◌}
use Rattle.epic_num.specs.declared.hop.Body.{Body}
use Rattle.epic_num.specs.declared.hop.Field.{Field}
use Rattle.epic_num.specs.declared.key_name.KeyName.TheVariants.{Fwd}
use Rattle.epic_num.specs.declared.name.AsId.{AsId}
use Rattle.epic_layout.specs.Contents.{Contents, as_field, field_bytes}
use Rattle.epic_topo.specs.Network.{Network}
use Rattle.epic_keys.specs.Keys.{forwarding_key, key, master_key}
use Rattle.epic_fields.specs.Formulas.{authenticator}
use Rattle.epic_fields.specs.HopChecks.{hop_name, carries_field, has_field, has_link}
use Rattle.epic_fields.specs.PacketTags.{field_over, field_of, shared_key, update_over, update_of}
use Rattle.epic_fields.specs.Tags.{hop_key, sigma}
use Rattle.epic_fields.proofs.FieldBytes.{field_read}
use Rattle.epic_router.specs.Candidates.{field_fits, tags_fit}
use Rattle.epic_router.proofs.TagLaws.{IsKeyOf}

pub ready_key : (t : Network) (a : AsId) (master : List ℕ) (g : ℕ) → master ≡ master_key t a → forwarding_key master g ≡ key t (Fwd a g)
unfolding key
ready_key t a master g e = ap (λ m. forwarding_key m g) e

ready_sigma : (t : Network) (a : AsId) (g : ℕ) (p : Contents) (j : ℕ) (k : List ℕ) (b : Body) (s : List ℕ) → IsKeyOf t a g p j k b → s ≡ authenticator k b
    → s ≡ sigma t (hop_name a g p j)
unfolding hop_name sigma hop_key
ready_sigma t a g p j k b s same is = is ∙ (λ i. authenticator (same.key_is i) (same.body_is i))

pub field_by_ready : (t : Network) (a : AsId) (g : ℕ) (p : Contents) (j : ℕ) (k : List ℕ) (b : Body) (s : List ℕ) (f : Field) → IsKeyOf t a g p j k b
    → s ≡ authenticator k b → f ≡ as_field (field_over (shared_key t a p) s p j)
    → carries_field (field_bytes f) p j ≡ field_fits t a p j g
unfolding field_fits hop_name has_field field_of
field_by_ready t a g p j k b s f same is right =
    ap (λ v. carries_field v p j) (field_read f (field_over (shared_key t a p) s p j) right)
    ∙ ap (λ v. carries_field (field_over (shared_key t a p) v p j) p j) (ready_sigma t a g p j k b s same is)

pub update_by_ready : (t : Network) (a : AsId) (g : ℕ) (p : Contents) (j : ℕ) (k : List ℕ) (b : Body) (s shared : List ℕ) (u : Field) → IsKeyOf t a g p j k b
    → s ≡ authenticator k b → shared ≡ shared_key t a p → u ≡ as_field (update_over shared s p j)
    → u ≡ as_field (update_of t (hop_name a g p j) p j)
unfolding hop_name update_of
update_by_ready t a g p j k b s shared u same is e right =
    right ∙ (λ i. as_field (update_over (e i) (ready_sigma t a g p j k b s same is i) p j))

-- ---- both tags

pub both_fit : (t : Network) (a : AsId) (g : ℕ) (p : Contents) (j : ℕ) → field_fits t a p j g ≡ true → has_link t (hop_name a g p j) p j ≡ tags_fit t a p j g
unfolding tags_fit
both_fit t a g p j e = sym (ap (λ x. x && has_link t (hop_name a g p j) p j) e)

pub neither_fits : (t : Network) (a : AsId) (g : ℕ) (p : Contents) (j : ℕ) → field_fits t a p j g ≡ false → false ≡ tags_fit t a p j g
unfolding tags_fit
neither_fits t a g p j e = sym (ap (λ x. x && has_link t (hop_name a g p j) p j) e)
