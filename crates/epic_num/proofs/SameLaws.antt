-- The tests of `specs/Same` decide equality.
use Rattle.std.proofs.Common.{◌≡◌, ap}
use Rattle.std.specs.Bool.{Decides}
use Rattle.std.specs.Prelude.{false}
use Rattle.std.proofs.lemmas.Bool.Decides.{Decides-eqb, Decides-and, Decides-like}
use Rattle.std.proofs.lemmas.Slice.Eq.{bytes_eq-Decides}
use Rattle.epic_num.specs.declared.name.AsId.{AsId}
use Rattle.epic_num.specs.declared.name.HostId.{HostId}
use Rattle.epic_num.specs.declared.hop.Body.{Body}
use Rattle.epic_num.specs.declared.hop.Field.{Field}
use Rattle.epic_num.specs.declared.hop.HopName.{HopName}
use Rattle.epic_num.specs.declared.key_name.Holder.{Holder}
use Rattle.epic_num.specs.declared.key_name.Holder.TheVariants.{As, Host}
use Rattle.epic_num.specs.declared.key_name.KeyName.{KeyName}
use Rattle.epic_num.specs.declared.key_name.KeyName.TheVariants.{Fwd, Field as FieldKey, Dest}
use Rattle.epic_num.specs.Same.{same_as, same_host, same_body, same_name, same_field, same_holder, same_key}

pub same_as-Decides : (a b : AsId) → Decides (same_as a b) (a ≡ b)
unfolding same_as
same_as-Decides a b = Decides-like _ (λ e i. record { 0 = e i }) (λ e. ap (λ c. c.0) e) (Decides-eqb a.0 b.0)

pub same_host-Decides : (h k : HostId) → Decides (same_host h k) (h ≡ k)
unfolding same_host
same_host-Decides h k =
    Decides-like _
    (λ e i. record { asn = e.0 i; host = e.1 i })
    (λ e. (ap (λ c. c.asn) e, ap (λ c. c.host) e))
    (Decides-and _ _ (same_as-Decides h.asn k.asn) (Decides-eqb h.host k.host))

pub same_body-Decides : (b c : Body) → Decides (same_body b c) (b ≡ c)
unfolding same_body
same_body-Decides b c =
    Decides-like _
    (λ e i. record { pos = e.0.0.0.0.0 i; exp = e.0.0.0.0.1 i; ts_path = e.0.0.0.1 i; inn = e.0.0.1 i; out = e.0.1 i; link = e.1 i })
    (λ e. (((((ap (λ d. d.pos) e, ap (λ d. d.exp) e), ap (λ d. d.ts_path) e), ap (λ d. d.inn) e), ap (λ d. d.out) e), ap (λ d. d.link) e))
    (Decides-and _ _
    (Decides-and _ _
    (Decides-and _ _
    (Decides-and _ _
    (Decides-and _ _ (Decides-eqb b.pos c.pos) (Decides-eqb b.exp c.exp))
    (Decides-eqb b.ts_path c.ts_path))
    (Decides-eqb b.inn c.inn))
    (Decides-eqb b.out c.out))
    (bytes_eq-Decides b.link c.link))

pub same_name-Decides : (x y : HopName) → Decides (same_name x y) (x ≡ y)
unfolding same_name
same_name-Decides x y =
    Decides-like _
    (λ e i. record { asn = e.0.0 i; generation = e.0.1 i; body = e.1 i })
    (λ e. ((ap (λ z. z.asn) e, ap (λ z. z.generation) e), ap (λ z. z.body) e))
    (Decides-and _ _ (Decides-and _ _ (same_as-Decides x.asn y.asn) (Decides-eqb x.generation y.generation)) (same_body-Decides x.body y.body))

pub same_field-Decides : (v w : Field) → Decides (same_field v w) (v ≡ w)
unfolding same_field
same_field-Decides v w =
    Decides-like _
    (λ e i. record { bytes = e.0 i; width = e.1 i })
    (λ e. (ap (λ z. z.bytes) e, ap (λ z. z.width) e))
    (Decides-and _ _ (bytes_eq-Decides v.bytes w.bytes) (Decides-eqb v.width w.width))

-- two different constructors
differ : {P : Type 0} → (P → ⊥) → Decides false P
differ apart = (λ e. cc, λ p. absurd (apart p))

pub same_holder-Decides : (h k : Holder) → Decides (same_holder h k) (h ≡ k)
unfolding same_holder
same_holder-Decides (As a) (As b) = Decides-like _ (λ e. ap As e) (λ e. cc) (same_as-Decides a b)
same_holder-Decides (Host h) (Host k) = Decides-like _ (λ e. ap Host e) (λ e. cc) (same_host-Decides h k)
same_holder-Decides (As a) (Host k) = differ (λ e. cc)
same_holder-Decides (Host h) (As b) = differ (λ e. cc)

pub same_key-Decides : (m n : KeyName) → Decides (same_key m n) (m ≡ n)
unfolding same_key
same_key-Decides (Fwd a g) (Fwd b h) =
    Decides-like _ (λ e i. Fwd (e.0 i) (e.1 i)) (λ e. (cc, cc)) (Decides-and _ _ (same_as-Decides a b) (Decides-eqb g h))
same_key-Decides (FieldKey a src e) (FieldKey b src' e') =
    Decides-like _
    (λ same i. FieldKey (same.0.0 i) (same.0.1 i) (same.1 i))
    (λ same. ((cc, cc), cc))
    (Decides-and _ _ (Decides-and _ _ (same_as-Decides a b) (same_host-Decides src src')) (Decides-eqb e e'))
same_key-Decides (Dest dst src e) (Dest dst' src' e') =
    Decides-like _
    (λ same i. Dest (same.0.0 i) (same.0.1 i) (same.1 i))
    (λ same. ((cc, cc), cc))
    (Decides-and _ _ (Decides-and _ _ (same_host-Decides dst dst') (same_host-Decides src src')) (Decides-eqb e e'))
same_key-Decides (Fwd a g) (FieldKey b src' e') = differ (λ e. cc)
same_key-Decides (Fwd a g) (Dest dst' src' e') = differ (λ e. cc)
same_key-Decides (FieldKey a src e) (Fwd b h) = differ (λ e. cc)
same_key-Decides (FieldKey a src e) (Dest dst' src' e') = differ (λ e. cc)
same_key-Decides (Dest dst src e) (Fwd b h) = differ (λ e. cc)
same_key-Decides (Dest dst src e) (FieldKey b src' e') = differ (λ e. cc)
