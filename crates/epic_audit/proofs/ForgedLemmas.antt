-- The first of the words of a forgery.
use Rattle.std.proofs.Common.{◌≡◌, true, false, cond, ◌∷◌, ◌++◌, codes, refl, sym}
use Rattle.epic_num.specs.declared.hop.Level.{Level}
use Rattle.epic_num.specs.declared.hop.Level.TheVariants.{L0, L1, L2, L3}
use Rattle.epic_num.specs.declared.verdict.ForgedKind.{ForgedKind}
use Rattle.epic_num.specs.declared.verdict.ForgedKind.TheVariants.{Issue, Field, Update, Dest}
use Rattle.epic_num.specs.declared.verdict.Forgery.{Forgery}
use Rattle.epic_num.specs.Levels.{is_tagged, level_of}
use Rattle.epic_num.specs.Messages.{field1_message}
use Rattle.epic_layout.specs.Contents.{Contents}
use Rattle.epic_topo.specs.Network.{Network}
use Rattle.epic_audit.specs.ForgedText.{words_text, over_words, static_words, shared_words, kind_words, forged_words, forged_text}

static_first : (level : Level) (p : Contents) (f : Forgery) → codes "forged " ++ words_text (static_words level p f) ≡ words_text (codes "forged" ∷ static_words level p f)
static_first L0 p f = refl
static_first L1 p f = refl
static_first L2 p f = refl
static_first L3 p f = refl

kind_first : (kind : ForgedKind) (t : Network) (p : Contents) (f : Forgery) → codes "forged " ++ words_text (kind_words kind t p f) ≡ words_text (codes "forged" ∷ kind_words kind t p f)
kind_first Issue t p f =
    let static = static_words (level_of p.first) p f in
    elim (is_tagged p.first) as (λ b. codes "forged " ++ words_text (cond b (shared_words t p f) static) ≡ words_text (codes "forged" ∷ cond b (shared_words t p f) static)) [
      | true ↦ refl
      | false ↦ static_first (level_of p.first) p f
    ]
kind_first Field t p f = refl
kind_first Update t p f = refl
kind_first Dest t p f = refl

-- `forged ` stands before the words of the kind
pub forged_first : (t : Network) (p : Contents) (f : Forgery) → forged_text t p f ≡ codes "forged " ++ words_text (kind_words f.kind t p f)
unfolding forged_text forged_words
forged_first t p f = sym (kind_first f.kind t p f)

-- at another level than 0 the authenticator is the key of the field
pub static_over : (level : Level) (p : Contents) (f : Forgery) → (level ≡ L0 → ⊥) → static_words level p f ≡ over_words (codes "sigma") (field1_message p.ts p.src f.hop) p f
static_over L0 p f other = absurd (other refl)
static_over L1 p f other = refl
static_over L2 p f other = refl
static_over L3 p f other = refl
