-- What the parts of a line of a hop decide together.
use Rattle.std.proofs.Common.{◌≡◌, ℕ, Bool, true, false, ◌&&◌, ◌||◌, ◌≢◌, List, Option, Some, None, refl, sym, ap, subst, ◌∙◌}
use Rattle.std.specs.Prelude.{◌==◌, bytes_eq, IsTrue}
use Rattle.std.proofs.lemmas.Bool.{and_parts}
use Rattle.std.proofs.lemmas.Bool.Decides.{Decides-eqb}
use Rattle.epic_num.specs.Levels.{is_tagged}
use Rattle.epic_num.specs.Messages.{authenticator_message}
use Rattle.epic_num.specs.Same.{same_key}
use Rattle.epic_num.specs.declared.hop.HopName.{HopName}
use Rattle.epic_num.specs.declared.key_name.KeyName.{KeyName}
use Rattle.epic_num.specs.declared.key_name.KeyName.TheVariants.{Fwd}
use Rattle.epic_num.specs.declared.verdict.ForgedKind.TheVariants as kinds
use Rattle.epic_num.specs.declared.verdict.Forgery.{Forgery}
use Rattle.epic_num.specs.Same.{same_name}
use Rattle.epic_num.specs.declared.verdict.Collision.{Collision}
use Rattle.epic_num.specs.declared.verdict.Part.{Part}
use Rattle.epic_num.specs.declared.verdict.Part.TheVariants.{Link, Sigma}
use Rattle.epic_num.specs.declared.verdict.Verdict.TheVariants.{Collided}
use Rattle.epic_num.proofs.SameLaws.{same_key-Decides, same_name-Decides}
use Rattle.epic_layout.specs.Contents.{Contents, field}
use Rattle.epic_layout.specs.Route.{body}
use Rattle.epic_topo.specs.Network.{Network, has}
use Rattle.epic_keys.specs.Keys.{owner}
use Rattle.epic_fields.specs.PacketTags.{field_name, hop_message}
use Rattle.epic_ledger.specs.Facts.{Facts}
use Rattle.epic_audit.specs.ForgedText.{forged_hop}
use Rattle.epic_text.specs.VerdictText.{common_tag}
use Rattle.epic_judging.specs.HopTests.{issue_opened, field_opened, issue_forged, field_forged, is_forged_field, collided_with_issue, collided_with_send, hop_collided}
use Rattle.epic_judging.specs.Same.{same_told, same_what}
use Rattle.epic_judging.specs.Telling.{forged_told, issue_what, told_of}
use Rattle.epic_judging.specs.Same.{same_part}
use Rattle.epic_judge.specs.Known.{AreKnown}
use Rattle.epic_judge.specs.Lines.{IsHopLine}
use Rattle.epic_judge.proofs.Breaks.{breaks_known}
use Rattle.epic_judge.proofs.Known.{named_known}
use Rattle.epic_record.specs.declared.told.Told.TheVariants as lines
use Rattle.epic_record.specs.declared.told.ToldForgery.{ToldForgery}
use Rattle.epic_record.specs.declared.told.ToldForgery.TheVariants as what

-- ---- in the other order

pub other_false : (a b : Bool) → b ≡ false → false ≡ (a && b)
other_false true b e = sym e
other_false false b e = refl

pub other_true : (a b r : Bool) → r ≡ a → b ≡ true → r ≡ (a && b)
other_true true b r is e = is ∙ sym e
other_true false b r is e = is

-- ---- reveals

pub opened_told : (t : Network) (f : Facts) (x : HopName) (p : Contents) (j step : ℕ) (r : Bool)
    → r ≡ (issue_opened f x step || field_opened t f x p j step) → IsHopLine t f x p j (lines.Opened step) r
unfolding told_of same_told
opened_told t f x p j step r is =
    is ∙ sym (ap (λ (b : Bool). b && (issue_opened f x step || field_opened t f x p j step)) ((Decides-eqb step step).1 refl))

-- ---- forgeries

and_true : (a b : Bool) → b ≡ true → (a && b) ≡ a
and_true true b e = e
and_true false b e = refl

pub same_forged : (w v : ToldForgery) (k : KeyName) (m n g h : List ℕ) → same_told (lines.Forged w k m g) (lines.Forged v k n h) ≡ (same_what w v && bytes_eq m n && bytes_eq g h)
unfolding same_told
same_forged w v k m n g h = ap (λ (b : Bool). b && bytes_eq m n && bytes_eq g h) (and_true (same_what w v) (same_key k k) ((same_key-Decides k k).1 refl))

abbrev pub issue_of : ℕ → KeyName → ℕ → Forgery
issue_of j key g = record { kind = kinds.Issue; hop = j; key = key; generation = g }

abbrev pub field_of : ℕ → KeyName → ℕ → Forgery
field_of j key g = record { kind = kinds.Field; hop = j; key = key; generation = g }

pub issue_told : (s t : Network) (p : Contents) (j : ℕ) (key : KeyName) (g : ℕ) (w : ToldForgery) (message tag : List ℕ) (tells : Bool) → s ≡ t
    → tells ≡ (same_what (issue_what s p (issue_of j key g)) w && bytes_eq (authenticator_message (body p.route j)) message && bytes_eq (field p j) tag)
    → tells ≡ same_told (forged_told t p (issue_of j key g)) (lines.Forged w key message tag)
issue_told s t p j key g w message tag tells same is =
    is
    ∙ ap (λ (n : Network). same_what (issue_what n p (issue_of j key g)) w && bytes_eq (authenticator_message (body p.route j)) message && bytes_eq (field p j) tag) same
    ∙ sym (same_forged (issue_what t p (issue_of j key g)) w key (authenticator_message (body p.route j)) message (field p j) tag)

pub field_told : (s t : Network) (p : Contents) (j : ℕ) (key : KeyName) (g : ℕ) (w : ToldForgery) (message tag : List ℕ) (tells : Bool) → s ≡ t
    → tells ≡ (same_what what.Field w && bytes_eq (hop_message s (forged_hop p (field_of j key g)) p j) message && bytes_eq (field p j) tag)
    → tells ≡ same_told (forged_told t p (field_of j key g)) (lines.Forged w key message tag)
field_told s t p j key g w message tag tells same is =
    is
    ∙ ap (λ (n : Network). same_what what.Field w && bytes_eq (hop_message n (forged_hop p (field_of j key g)) p j) message && bytes_eq (field p j) tag) same
    ∙ sym (same_forged what.Field w key (hop_message t (forged_hop p (field_of j key g)) p j) message (field p j) tag)

-- ---- the owner of the key is the hop's AS

pub issue_owner : (s t : Network) (f : Facts) (x : HopName) (p : Contents) (j : ℕ) (r : Forgery) → s ≡ t → IsTrue (has t x.asn) → issue_forged t f x p j r ≡ true → IsTrue (has s (owner r.key))
unfolding issue_forged owner
issue_owner s t f x p j r same known e =
    let key : r.key ≡ Fwd x.asn x.generation = (same_key-Decides r.key (Fwd x.asn x.generation)).0 (and_parts _ _ (and_parts _ _ e).0).1 in
    subst (λ (k : KeyName). IsTrue (has s (owner k))) (sym key) (subst (λ (n : Network). IsTrue (has n x.asn)) (sym same) known)

pub field_owner : (s t : Network) (f : Facts) (x : HopName) (p : Contents) (j : ℕ) (r : Forgery) → s ≡ t → IsTrue (has t x.asn) → field_forged t f x p j r ≡ true → IsTrue (has s (owner r.key))
unfolding field_forged owner field_name
field_owner s t f x p j r same known e =
    let key : r.key ≡ field_name t x.asn p = (same_key-Decides r.key (field_name t x.asn p)).0 (and_parts _ _ (and_parts _ _ e).0).1 in
    subst (λ (k : KeyName). IsTrue (has s (owner k))) (sym key) (subst (λ (n : Network). IsTrue (has n x.asn)) (sym same) known)

pub field_tagged : (t : Network) (f : Facts) (x : HopName) (p : Contents) (j : ℕ) (r : Forgery) → field_forged t f x p j r ≡ true → IsTrue (is_tagged p.first)
unfolding field_forged is_forged_field
field_tagged t f x p j r e =
    let forged = (and_parts _ _ (and_parts _ _ (and_parts _ _ (and_parts _ _ e).0).0).0).1 in
    (and_parts _ _ (and_parts _ _ (and_parts _ _ forged).0).0).0

-- ---- collisions

part_itself : (m : Part) → same_part m m ≡ true
part_itself Link = refl
part_itself Sigma = refl

same_collided : (m : Part) (l r : HopName) (g h : List ℕ) → same_told (lines.Collided m l r g) (lines.Collided m l r h) ≡ bytes_eq g h
unfolding same_told
same_collided m l r g h =
    λ i. part_itself m i && (same_name-Decides l l).1 refl i && (same_name-Decides r r).1 refl i && bytes_eq g h

pub collided_told : (s t : Network) (p : Contents) (c : Collision) (tag : List ℕ) (tells : Bool) → s ≡ t
    → tells ≡ bytes_eq (common_tag s c.part c.left) tag
    → tells ≡ same_told (told_of t p (Collided c)) (lines.Collided c.part c.left c.right tag)
unfolding told_of
collided_told s t p c tag tells same is =
    is
    ∙ ap (λ (n : Network). bytes_eq (common_tag n c.part c.left) tag) same
    ∙ sym (same_collided c.part c.left c.right (common_tag t c.part c.left) tag)

issue_left : (t : Network) (f : Facts) (x : HopName) (p : Contents) (c : Collision) → collided_with_issue t f x p c ≡ true → same_name c.left x ≡ true
unfolding collided_with_issue
issue_left t f x p c e = (and_parts _ _ (and_parts _ _ (and_parts _ _ e).0).0).1

send_left : (t : Network) (f : Facts) (x : HopName) (p : Contents) (j : ℕ) (c : Collision) → collided_with_send t f x p j c ≡ true → same_name c.left x ≡ true
unfolding collided_with_send
send_left t f x p j c e = (and_parts _ _ (and_parts _ _ (and_parts _ _ e).0).0).1

sigma_left : (t : Network) (f : Facts) (x : HopName) (p : Contents) (j : ℕ) (c : Collision) → (collided_with_issue t f x p c || collided_with_send t f x p j c) ≡ true → same_name c.left x ≡ true
sigma_left t f x p j c e = by (collided_with_issue t f x p c) refl e
  where
    by : (b : Bool) → collided_with_issue t f x p c ≡ b → (b || collided_with_send t f x p j c) ≡ true → same_name c.left x ≡ true
    by true is k = issue_left t f x p c is
    by false is k = send_left t f x p j c k

pub collided_left : (s t : Network) (f : Facts) (x : HopName) (p : Contents) (j : ℕ) (c : Collision) → s ≡ t → AreKnown t f → IsTrue (has t x.asn) → c.right.asn.0 ≢ 0
    → hop_collided t f x p j c c.part ≡ true → IsTrue (has s c.left.asn)
collided_left s t f x p j c same known is some e = subst (λ (n : Network). IsTrue (has n c.left.asn)) (sym same) (by c.part e)
  where
    by : (m : Part) → hop_collided t f x p j c m ≡ true → IsTrue (has t c.left.asn)
    by Sigma k = named_known t c.left x (sigma_left t f x p j c k) is
    by Link k = (breaks_known t f x p j c known is some k).0
