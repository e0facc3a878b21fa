-- Equal messages are made over the same.
use Rattle.std.proofs.Common.{◌≡◌, ℕ, [], refl, sym, ◌∙◌, ap, subst}
use Rattle.std.specs.Prelude.{Bool, true, false, ◌||◌, ◌==◌, IsTrue, if◌then◌else◌}
use Rattle.std.proofs.lemmas.Cmp.{nat_eq_equiv}
use Rattle.std.proofs.lemmas.Map.Made.{IsDistinct-from_count}
use Rattle.std.proofs.lemmas.Bool.{eqb-true}
use Rattle.epic_num.specs.declared.hop.Body.{Body}
use Rattle.epic_num.specs.Bodies.{body_bytes, IsBody}
use Rattle.epic_num.specs.Levels.{is_tagged}
use Rattle.epic_num.specs.Messages.{authenticator_message, link_message, field1_message, field_domain, field23_message, dest_domain, domains, FieldMessagesDiffer, Field1MessagesDiffer, AuthenticatorMessagesDiffer, LinkMessagesDiffer, DomainsDiffer}
use Rattle.epic_num.proofs.Reading.{read_one, read_u16, read_u32, read_u64, read_host}

-- ---- hops

pub body_bytes-same : (b c : Body) → IsBody b → IsBody c → body_bytes b ≡ body_bytes c → b ≡ c
unfolding body_bytes
body_bytes-same b c bf cf e =
    let pos = read_one b.pos c.pos _ _ e in
    let exp = read_one b.exp c.exp _ _ pos.1 in
    let ts = read_u32 b.ts_path c.ts_path _ _ bf.ts_path cf.ts_path exp.1 in
    let inn = read_u16 b.inn c.inn _ _ bf.inn cf.inn ts.1 in
    let out = read_u16 b.out c.out _ _ bf.out cf.out inn.1 in
    λ i. record { pos = pos.0 i; exp = exp.0 i; ts_path = ts.0 i; inn = inn.0 i; out = out.0 i; link = out.1 i }

pub authenticator_messages : AuthenticatorMessagesDiffer
unfolding authenticator_message
authenticator_messages b c bf cf e = body_bytes-same b c bf cf (read_one 0x01 0x01 _ _ e).1

pub link_messages : LinkMessagesDiffer
unfolding link_message
link_messages b c bf cf e = body_bytes-same b c bf cf (read_one 0x02 0x02 _ _ e).1

-- ---- fields

pub field1_messages : Field1MessagesDiffer
unfolding field1_message
field1_messages ts ts' src src' hop hop' tf tf' sf sf' e =
    let domain = read_one 0x11 0x11 _ _ e in
    let t = read_u64 ts ts' _ _ tf tf' domain.1 in
    let s = read_host src src' _ _ sf sf' t.1 in
    (t.0, s.0, (read_one hop hop' [] [] s.1).0)

-- what holds of the first bytes of levels 2 and 3
pub at_tagged : (P : ℕ → Type 0) → P 0xE2 → P 0xE3 → P 0xF2 → P 0xF3 → (first : ℕ) → IsTrue (is_tagged first) → P first
unfolding is_tagged
at_tagged P a b c d first t =
    either (first == 0xE2) _ (λ e. subst P (sym (eqb-true first 0xE2 e)) a)
    (either (first == 0xE3) _ (λ e. subst P (sym (eqb-true first 0xE3 e)) b)
    (either (first == 0xF2) _ (λ e. subst P (sym (eqb-true first 0xF2 e)) c)
    (either (first == 0xF3) false (λ e. subst P (sym (eqb-true first 0xF3 e)) d) (λ e. cc))))
    t
  where
    either : (x y : Bool) → (x ≡ true → P first) → (y ≡ true → P first) → (x || y) ≡ true → P first
    either true y f g e = f refl
    either false y f g e = g e

-- the packet's first byte, by the message's
first_of : ℕ → ℕ
first_of domain = if domain == 0x12 then 0xE2 else if domain == 0x13 then 0xE3 else if domain == 0x32 then 0xF2 else 0xF3

first_of-field_domain : (first : ℕ) → IsTrue (is_tagged first) → first_of (field_domain first) ≡ first
unfolding first_of field_domain
first_of-field_domain = at_tagged (λ f. first_of (field_domain f) ≡ f) refl refl refl refl

-- the message's first byte tells the packet's
pub field_domain-same : (first first' : ℕ) → IsTrue (is_tagged first) → IsTrue (is_tagged first') → field_domain first ≡ field_domain first' → first ≡ first'
field_domain-same first first' t t' e = sym (first_of-field_domain first t) ∙ (ap first_of e ∙ first_of-field_domain first' t')

-- the same of the message of a destination field
first_of_dest : ℕ → ℕ
first_of_dest domain = if domain == 0x22 then 0xE2 else if domain == 0x23 then 0xE3 else if domain == 0x42 then 0xF2 else 0xF3

first_of_dest-dest_domain : (first : ℕ) → IsTrue (is_tagged first) → first_of_dest (dest_domain first) ≡ first
unfolding first_of_dest dest_domain
first_of_dest-dest_domain = at_tagged (λ f. first_of_dest (dest_domain f) ≡ f) refl refl refl refl

pub dest_domain-same : (first first' : ℕ) → IsTrue (is_tagged first) → IsTrue (is_tagged first') → dest_domain first ≡ dest_domain first' → first ≡ first'
dest_domain-same first first' t t' e = sym (first_of_dest-dest_domain first t) ∙ (ap first_of_dest e ∙ first_of_dest-dest_domain first' t')

pub field_messages : FieldMessagesDiffer
unfolding field23_message
field_messages first first' ts ts' src src' hop hop' sigma sigma' f f' e =
    let domain = read_one (field_domain first) (field_domain first') _ _ e in
    let t = read_u64 ts ts' _ _ f.ts_fits f'.ts_fits domain.1 in
    let s = read_host src src' _ _ f.src_fits f'.src_fits t.1 in
    let h = read_one hop hop' sigma sigma' s.1 in
    record {
      same_first = field_domain-same first first' f.is_tagged_first f'.is_tagged_first domain.0;
      same_ts = t.0;
      same_src = s.0;
      same_hop = h.0;
      same_sigma = h.1;
    }

-- ---- kinds of messages

pub domains_differ : DomainsDiffer
unfolding field_domain dest_domain
domains_differ = IsDistinct-from_count nat_eq_equiv domains refl
