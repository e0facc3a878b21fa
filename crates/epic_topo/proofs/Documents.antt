-- The table that a text is by TOML, and a text that is none.
use Rattle.std.proofs.Common.{◌≡◌, List, ℕ, Some, None, Ok, Err, IsUtf8, refl, ap, ◌∙◌}
use Rattle.std.specs.Str.{is_utf8}
use Rattle.std.proofs.lemmas.Bool.{cond_both, cond-true}
use Rattle.std.proofs.lemmas.Str.{IsUtf8-from_is_utf8, is_utf8-from_IsUtf8}
use Rattle.toml.specs.Data.{Members}
use Rattle.toml.specs.Parse.{parse_document}
use Rattle.epic_topo.specs.Reading.{document, or_fails}
use Rattle.epic_topo.specs.declared.fault.TopoError.TheVariants.{Bad}
use Rattle.epic_topo.specs.declared.fault.TopoKey.TheVariants.{Text}
use Rattle.epic_topo.specs.declared.fault.TopoKind.TheVariants.{NotToml}

pub document_read : (text : List ℕ) (t : Members) → IsUtf8 text → parse_document text ≡ Some t → document text ≡ Ok t
unfolding document
document_read text t utf8 e =
    ap (or_fails NotToml Text 0) (cond-true (is_utf8 text) (parse_document text) None (is_utf8-from_IsUtf8 text utf8) ∙ e)

pub no_document : (text : List ℕ) → (IsUtf8 text → parse_document text ≡ None) → document text ≡ Err (Bad NotToml Text 0)
unfolding document
no_document text none =
    ap (or_fails NotToml Text 0) (cond_both (is_utf8 text) (parse_document text) None (λ o. o ≡ None)
    (λ e. none (IsUtf8-from_is_utf8 text e)) (λ e. refl))
