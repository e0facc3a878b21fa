-- What the parts of a line of a destination decide together.
use Rattle.std.proofs.Common.{◌≡◌, ℕ, Bool, true, false, ◌&&◌, ◌||◌, not, List, Option, Some, None, find, refl, sym, ap, subst, ◌∙◌}
use Rattle.std.specs.Prelude.{◌==◌, bytes_eq, is_none, is_some, option_map, option_and_then, IsTrue, if◌then◌else◌}
use Rattle.std.specs.Option.{option_map_or}
use Rattle.std.proofs.lemmas.Bool.{and_parts}
use Rattle.std.proofs.lemmas.Bool.Decides.{Decides-eqb}
use Rattle.std.proofs.lemmas.Slice.Eq.{bytes_eq-Decides}
use Rattle.epic_num.specs.Holders.{holders}
use Rattle.epic_num.specs.Levels.{is_tagged, is_updated}
use Rattle.epic_num.specs.Moments.{epoch_of}
use Rattle.epic_num.specs.Same.{same_key, same_name}
use Rattle.epic_num.specs.declared.hop.HopName.{HopName}
use Rattle.epic_num.specs.declared.key_name.KeyName.{KeyName}
use Rattle.epic_num.specs.declared.verdict.Collision.{Collision}
use Rattle.epic_num.specs.declared.verdict.ForgedKind.TheVariants as kinds
use Rattle.epic_num.specs.declared.verdict.Forgery.{Forgery}
use Rattle.epic_num.specs.declared.verdict.Part.{Part}
use Rattle.epic_num.specs.declared.verdict.Part.TheVariants.{Link, Sigma}
use Rattle.epic_num.proofs.SameLaws.{same_name-Decides}
use Rattle.epic_layout.specs.Contents.{Contents, field}
use Rattle.epic_layout.specs.Spelling.{dest_message}
use Rattle.epic_layout.specs.Updates.{own_updates}
use Rattle.epic_ledger.specs.Queries.{same_path}
use Rattle.epic_topo.specs.Network.{Network, has}
use Rattle.epic_keys.specs.Keys.{owner}
use Rattle.epic_fields.specs.HopChecks.{hop_name}
use Rattle.epic_fields.specs.PacketTags.{field_name, hop_message, update_of}
use Rattle.epic_ledger.specs.History.{History}
use Rattle.epic_ledger.specs.Facts.{Facts, Pass, Sent, facts_of, pass_name, sent_name}
use Rattle.epic_audit.specs.Clauses.{sent_as}
use Rattle.epic_audit.specs.ForgedText.{forged_hop}
use Rattle.epic_audit.specs.Verdicts.{has_update, is_named, is_twin_pass, twin_pass, uncovered, uncovered_in}
use Rattle.epic_audit.specs.declared.uncovered.Uncovered.{Uncovered}
use Rattle.epic_judging.specs.DestTests.{arrival_collided, collided_with_pass, dest_forged, dest_opened, dest_proved, is_forged_dest, is_forged_update, is_sent_over, update_forged}
use Rattle.epic_judging.specs.Given.{dest_ok, given_out, none_revealed, one_sigma, only_send}
use Rattle.epic_judging.specs.HopTests.{is_number}
use Rattle.epic_judging.specs.Judging.{generation_of}
use Rattle.epic_judging.specs.Same.{same_told, same_what}
use Rattle.epic_judging.specs.Telling.{forged_told, told_of}
use Rattle.epic_judge.specs.Known.{AreKnown}
use Rattle.epic_judge.specs.Lines.{IsDestLine}
use Rattle.epic_judge.specs.Sendings.{over, sent_over, IsSending}
use Rattle.epic_judge.specs.declared.dest_sent.Sending.{Sending}
use Rattle.epic_judge.proofs.Breaks.{IsOf, all_found}
use Rattle.epic_judge.proofs.HopLines.{same_forged}
use Rattle.epic_judge.proofs.SentAs.{hop_of}
use Rattle.epic_record.specs.declared.told.Told.TheVariants as lines
use Rattle.epic_record.specs.declared.told.ToldForgery.{ToldForgery}
use Rattle.epic_record.specs.declared.told.ToldForgery.TheVariants as what

-- ---- provenance

none_of : {X Y : Type 0} (g : X → Y) (o : Option X) → is_none (option_map g o) ≡ is_none o
none_of g None = refl
none_of g (Some x) = refl

pub absent : {X : Type 0} (o : Option X) (b : Bool) → is_some o ≡ not b → b ≡ is_none o
absent None true e = refl
absent None false e = absurd (cc)
absent (Some x) true e = absurd (cc)
absent (Some x) false e = refl

pub none_uncovered : (f : Facts) (p : Contents) → sent_as f.sends p ≡ None → None ≡ option_map hop_of (uncovered f p)
unfolding uncovered
none_uncovered f p e = ap (λ (o : Option Sent). option_map hop_of (option_and_then (uncovered_in f p) o)) (sym e)

pub ok_not_sent : (f : Facts) (p : Contents) → sent_as f.sends p ≡ None → false ≡ dest_ok f p
unfolding dest_ok
ok_not_sent f p e = ap (λ (o : Option Sent). is_some o && is_none (uncovered f p)) (sym e)

pub ok_sent : (h : History) (p : Contents) (v : Sending) (o : Option (ℕ × HopName)) (result : Bool) → IsSending h p v → o ≡ option_map hop_of (uncovered (facts_of h) p) → result ≡ is_none o
    → result ≡ dest_ok (facts_of h) p
unfolding dest_ok
ok_sent h p v o result is e r =
    r ∙ (ap is_none e ∙ (none_of hop_of (uncovered (facts_of h) p) ∙ ap (λ (s : Option Sent). is_some s && is_none (uncovered (facts_of h) p)) (sym is.found)))

pub proved_not_sent : (f : Facts) (p : Contents) (send : ℕ) → sent_as f.sends p ≡ None → false ≡ dest_proved f p 0 send
unfolding dest_proved dest_ok
proved_not_sent f p send e =
    by (is_tagged p.first) ∙ ap (λ (o : Option Sent). is_tagged p.first && (is_some o && is_none (uncovered f p)) && 0 == 0 && is_number send (option_map (λ s. s.emission) o)) (sym e)
  where
    by : (a : Bool) → false ≡ (a && (false && is_none (uncovered f p)) && 0 == 0 && false)
    by true = refl
    by false = refl

pub proved_sent : (h : History) (p : Contents) (v : Sending) (send : ℕ) (result : Bool) → IsSending h p v
    → result ≡ (is_tagged p.first && is_none (option_map hop_of (uncovered (facts_of h) p)) && v.emission == send) → result ≡ dest_proved (facts_of h) p 0 send
unfolding dest_proved dest_ok
proved_sent h p v send result is e =
    e
    ∙ ((λ i. is_tagged p.first && none_of hop_of (uncovered (facts_of h) p) i && is.emission_is i == send)
    ∙ (by (is_tagged p.first) (is_none (uncovered (facts_of h) p)) (is.send.emission == send)
    ∙ ap (λ (o : Option Sent). is_tagged p.first && (is_some o && is_none (uncovered (facts_of h) p)) && 0 == 0 && is_number send (option_map (λ s. s.emission) o)) (sym is.found)))
  where
    by : (a b c : Bool) → (a && b && c) ≡ (a && (true && b) && true && c)
    by true true c = refl
    by true false c = refl
    by false b c = refl

-- ---- updates

-- the generation of the hop is the one of the name
pub over_generation : (f : Facts) (p : Contents) (j : ℕ) (x : HopName) → sent_over f p j ≡ Some x → generation_of f p j ≡ x.generation
unfolding sent_over generation_of
over_generation f p j x e = by (only_send f.sends p) e
  where
    passed : (s : Sent) (b : Bool) → (if b then sent_name f.issues s j else None) ≡ Some x → option_map_or (λ y. y.generation) (sent_name f.issues s j) 0 ≡ x.generation
    passed s true k = ap (λ (o : Option HopName). option_map_or (λ y. y.generation) o 0) k
    passed s false k = absurd (cc)

    by : (o : Option Sent) → option_and_then (over f p j) o ≡ Some x → option_map_or (λ y. y.generation) (option_and_then (λ s. sent_name f.issues s j) o) 0 ≡ x.generation
    by None k = absurd (cc)
    by (Some s) k = passed s (s.packet.first == p.first && same_path s.packet.route p.route) k

named_over : (f : Facts) (x : HopName) (p : Contents) (j : ℕ) → option_map_or (is_sent_over f x p j) (only_send f.sends p) false ≡ is_named x (sent_over f p j)
unfolding is_sent_over sent_over
named_over f x p j = by (only_send f.sends p)
  where
    passed : (s : Sent) (a b : Bool) → (a && b && is_named x (sent_name f.issues s j)) ≡ is_named x (if a && b then sent_name f.issues s j else None)
    passed s true true = refl
    passed s true false = refl
    passed s false b = refl

    by : (o : Option Sent) → option_map_or (λ s. s.packet.first == p.first && same_path s.packet.route p.route && is_named x (sent_name f.issues s j)) o false ≡ is_named x (option_and_then (over f p j) o)
    by None = refl
    by (Some s) = passed s (s.packet.first == p.first) (same_path s.packet.route p.route)

unfoldable with_name : Network → Facts → Contents → Forgery → HopName → Bool → Bool
with_name t f p r x named =
    not (dest_ok f p)
    && (is_updated p.first
    && named
    && bytes_eq (field p r.hop) (update_of t x p r.hop)
    && not (given_out t f.passes x.asn p.src (epoch_of t.profile p.ts) (hop_message t x p r.hop))
    && none_revealed f.reveals (holders (field_name t x.asn p)))
    && same_key r.key (field_name t x.asn p)

update_is : (t : Network) (f : Facts) (p : Contents) (r : Forgery) (x : HopName) (o : Option HopName) → x ≡ hop_name (owner r.key) r.generation p r.hop → sent_over f p r.hop ≡ o
    → with_name t f p r x (is_named x o) ≡ update_forged t f p r
unfolding with_name update_forged is_forged_update hop_name
update_is t f p r x o same e =
    ap (λ (n : Option HopName). with_name t f p r x (is_named x n)) (sym e)
    ∙ (ap (with_name t f p r x) (sym (named_over f x p r.hop))
    ∙ ap (λ (y : HopName). with_name t f p r y (option_map_or (is_sent_over f y p r.hop) (only_send f.sends p) false)) same)

no_update : (a u n b g v k : Bool) → (u && n) ≡ false → (a && (u && n && b && g && v) && k) ≡ false
no_update false u n b g v k e = refl
no_update true false n b g v k e = refl
no_update true true false b g v k e = refl
no_update true true true b g v k e = absurd (cc)

some_update : (a u n b g v k : Bool) → u ≡ true → n ≡ true → (a && (b && g && v) && k) ≡ (a && (u && n && b && g && v) && k)
some_update a true true b g v k e m = refl
some_update a false n b g v k e m = absurd (cc)
some_update a true false b g v k e m = absurd (cc)

and_no : (u n : Bool) → n ≡ false → (u && n) ≡ false
and_no true n e = e
and_no false n e = refl

none_without : (t : Network) (f : Facts) (p : Contents) (r : Forgery) (x : HopName) (n : Bool) → (is_updated p.first && n) ≡ false → with_name t f p r x n ≡ false
unfolding with_name
none_without t f p r x n e = no_update _ (is_updated p.first) n _ _ _ _ e

no_level : (u n : Bool) → u ≡ false → (u && n) ≡ false
no_level true n e = absurd (cc)
no_level false n e = refl

-- no packet was sent over the hop
pub no_update_sent : (t : Network) (f : Facts) (p : Contents) (r : Forgery) → sent_over f p r.hop ≡ None → update_forged t f p r ≡ false
no_update_sent t f p r e =
    let x = hop_name (owner r.key) r.generation p r.hop in
    sym (update_is t f p r x None refl e) ∙ none_without t f p r x false (and_no (is_updated p.first) false refl)

-- it isn't of level 3
pub no_update_level : (t : Network) (f : Facts) (p : Contents) (r : Forgery) → is_updated p.first ≡ false → update_forged t f p r ≡ false
no_update_level t f p r e =
    let x = hop_name (owner r.key) r.generation p r.hop in
    sym (update_is t f p r x (sent_over f p r.hop) refl refl) ∙ none_without t f p r x (is_named x (sent_over f p r.hop)) (no_level (is_updated p.first) _ e)

-- it was sent over another hop
pub no_update_named : (t : Network) (f : Facts) (p : Contents) (r : Forgery) (x y : HopName) → x ≡ hop_name (owner r.key) r.generation p r.hop → sent_over f p r.hop ≡ Some y → same_name y x ≡ false
    → update_forged t f p r ≡ false
no_update_named t f p r x y same e other =
    sym (update_is t f p r x (Some y) same e) ∙ none_without t f p r x (same_name y x) (and_no (is_updated p.first) (same_name y x) other)

pub update_by : (t : Network) (f : Facts) (p : Contents) (r : Forgery) (x y : HopName) (result : Bool) → x ≡ hop_name (owner r.key) r.generation p r.hop → sent_over f p r.hop ≡ Some y
    → is_updated p.first ≡ true → same_name y x ≡ true
    → result
    ≡ (not (dest_ok f p)
    && (bytes_eq (field p r.hop) (update_of t x p r.hop)
    && not (given_out t f.passes x.asn p.src (epoch_of t.profile p.ts) (hop_message t x p r.hop))
    && none_revealed f.reveals (holders (field_name t x.asn p)))
    && same_key r.key (field_name t x.asn p))
    → result ≡ update_forged t f p r
unfolding with_name
update_by t f p r x y result same e level named is =
    is ∙ (some_update _ (is_updated p.first) (same_name y x) _ _ _ _ level named ∙ update_is t f p r x (Some y) same e)

pub update_owner : (s t : Network) (key : KeyName) (g : ℕ) (p : Contents) (j : ℕ) (x y : HopName) → s ≡ t → x ≡ hop_name (owner key) g p j → same_name y x ≡ true → IsOf t y → IsTrue (has s (owner key))
unfolding hop_name
update_owner s t key g p j x y net same e known =
    let is : y ≡ x = (same_name-Decides y x).0 e in
    let asn : x.asn ≡ owner key = ap (λ (z : HopName). z.asn) same in
    subst (λ (n : Network). IsTrue (has n (owner key))) (sym net) (subst (λ a. IsTrue (has t a)) asn (subst (IsOf t) is known))

abbrev pub update_of_key : ℕ → KeyName → ℕ → Forgery
update_of_key j key g = record { kind = kinds.Update; hop = j; key = key; generation = g }

abbrev pub dest_of_key : KeyName → Forgery
dest_of_key key = record { kind = kinds.Dest; hop = 0; key = key; generation = 0 }

update_itself : (j : ℕ) → same_what (what.Update j) (what.Update j) ≡ true
unfolding same_what
update_itself j = (Decides-eqb j j).1 refl

first_true : (a b c : Bool) → a ≡ true → (b && c) ≡ (a && b && c)
first_true true b c e = refl
first_true false b c e = absurd (cc)

pub update_told : (s t : Network) (p : Contents) (j : ℕ) (key : KeyName) (g : ℕ) (message tag : List ℕ) (tells : Bool) → s ≡ t
    → tells ≡ (bytes_eq (hop_message s (forged_hop p (update_of_key j key g)) p j) message && bytes_eq (field p j) tag)
    → tells ≡ same_told (forged_told t p (update_of_key j key g)) (lines.Forged (what.Update j) key message tag)
update_told s t p j key g message tag tells same is =
    is
    ∙ (ap (λ (n : Network). bytes_eq (hop_message n (forged_hop p (update_of_key j key g)) p j) message && bytes_eq (field p j) tag) same
    ∙ (first_true (same_what (what.Update j) (what.Update j)) _ _ (update_itself j)
    ∙ sym (same_forged (what.Update j) (what.Update j) key (hop_message t (forged_hop p (update_of_key j key g)) p j) message (field p j) tag)))

-- ---- destination fields

pub dest_told : (t : Network) (p : Contents) (key : KeyName) (w : ToldForgery) (message tag : List ℕ)
    → (same_what what.Dest w && bytes_eq (dest_message p (own_updates p)) message && bytes_eq p.dest_field tag) ≡ same_told (forged_told t p (dest_of_key key)) (lines.Forged w key message tag)
dest_told t p key w message tag = sym (same_forged what.Dest w key (dest_message p (own_updates p)) message p.dest_field tag)

pub untagged_dest : (t : Network) (f : Facts) (p : Contents) (r : Forgery) → is_tagged p.first ≡ false → dest_forged t f p r ≡ false
unfolding dest_forged is_forged_dest
untagged_dest t f p r e = by (not (dest_ok f p)) (is_tagged p.first) _ _ _ _ _ _ e
  where
    by : (a u b c d g k m : Bool) → u ≡ false → (a && (u && b && c && d) && g && k && m) ≡ false
    by false u b c d g k m s = refl
    by true false b c d g k m s = refl
    by true true b c d g k m s = absurd (cc)

pub told_message : (p : Contents) (w : ToldForgery) (message tag : List ℕ) → (same_what what.Dest w && bytes_eq (dest_message p (own_updates p)) message && bytes_eq p.dest_field tag) ≡ true
    → message ≡ dest_message p (own_updates p)
told_message p w message tag e = sym ((bytes_eq-Decides (dest_message p (own_updates p)) message).0 (and_parts _ _ (and_parts _ _ e).0).1)

pub only_then : (a b r : Bool) → a ≡ true → r ≡ b → r ≡ (a && b)
only_then true b r e is = is
only_then false b r e is = absurd (cc)

pub never : (a b : Bool) → a ≡ false → false ≡ (a && b)
never true b e = absurd (cc)
never false b e = refl

-- ---- reveals

pub dest_opened_told : (t : Network) (f : Facts) (p : Contents) (step : ℕ) (r : Bool) → r ≡ dest_opened t f p step → IsDestLine t f p (lines.Opened step) r
unfolding told_of same_told
dest_opened_told t f p step r is = is ∙ sym (ap (λ (b : Bool). b && dest_opened t f p step) ((Decides-eqb step step).1 refl))

-- ---- collisions

twin_known : (t : Network) (f : Facts) (p : Contents) (u : Uncovered) (x : HopName) → AreKnown t f → is_named x (twin_pass t f p u) ≡ true → IsOf t x
unfolding twin_pass pass_name
twin_known t f p u x known e = by (find (is_twin_pass t p u) f.passes) refl e
  where
    by : (o : Option Pass) → find (is_twin_pass t p u) f.passes ≡ o → is_named x (option_map pass_name o) ≡ true → IsOf t x
    by None k m = absurd (cc)
    by (Some w) k m = subst (IsOf t) ((same_name-Decides (pass_name w) x).0 m) (all_found (λ v. IsTrue (has t v.asn)) (is_twin_pass t p u) f.passes w known.passed k)

pub twin_left : (s t : Network) (f : Facts) (p : Contents) (u : Uncovered) (x : HopName) → s ≡ t → AreKnown t f → is_named x (twin_pass t f p u) ≡ true → IsOf s x
twin_left s t f p u x same known e = subst (λ (n : Network). IsOf n x) (sym same) (twin_known t f p u x known e)

pub pass_untagged : (t : Network) (f : Facts) (p : Contents) (c : Collision) → is_tagged p.first ≡ false → false ≡ collided_with_pass t f p c
unfolding collided_with_pass
pass_untagged t f p c e = by (is_tagged p.first) _ _ e
  where
    by : (a b d : Bool) → a ≡ false → false ≡ (a && b && d)
    by false b d s = refl
    by true b d s = absurd (cc)

pub pass_none : (t : Network) (f : Facts) (p : Contents) (c : Collision) → None ≡ option_map hop_of (uncovered f p) → false ≡ collided_with_pass t f p c
unfolding collided_with_pass
pass_none t f p c e = by (uncovered f p) (is_tagged p.first) e
  where
    by : (o : Option Uncovered) (a : Bool) → None ≡ option_map hop_of o
        → false ≡ (a && option_map_or (λ u. has_update t p u && is_named c.left (twin_pass t f p u) && same_name c.right u.name) o false && one_sigma t c.left c.right)
    by None true s = refl
    by None false s = refl
    by (Some u) a s = absurd (cc)

pub pass_some : (t : Network) (f : Facts) (p : Contents) (c : Collision) (r : ℕ × HopName) (result : Bool) → is_tagged p.first ≡ true → Some r ≡ option_map hop_of (uncovered f p)
    → result
    ≡ (bytes_eq (field p r.0) (update_of t r.1 p r.0)
    && (is_named c.left (twin_pass t f p (record { hop = r.0; name = r.1 })) && one_sigma t c.left c.right)
    && same_name c.right r.1)
    → result ≡ collided_with_pass t f p c
unfolding collided_with_pass has_update
pass_some t f p c r result tagged e is =
    by (uncovered f p) e
    ∙ ap (λ (b : Bool). b && option_map_or (λ u. bytes_eq (field p u.hop) (update_of t u.name p u.hop) && is_named c.left (twin_pass t f p u) && same_name c.right u.name) (uncovered f p) false && one_sigma t c.left c.right) (sym tagged)
  where
    again : (a b d g : Bool) → (a && (b && d) && g) ≡ (true && (a && b && g) && d)
    again false b d g = refl
    again true false d g = refl
    again true true true true = refl
    again true true true false = refl
    again true true false true = refl
    again true true false false = refl

    by : (o : Option Uncovered) → Some r ≡ option_map hop_of o
        → result ≡ (true && option_map_or (λ u. bytes_eq (field p u.hop) (update_of t u.name p u.hop) && is_named c.left (twin_pass t f p u) && same_name c.right u.name) o false && one_sigma t c.left c.right)
    by None s = absurd (cc)
    by (Some u) s =
        let same : r ≡ hop_of u = ap (λ (o : Option (ℕ × HopName)). option_map_or (λ k. k) o r) s in
        is
        ∙ (ap (λ (k : ℕ × HopName).
        bytes_eq (field p k.0) (update_of t k.1 p k.0)
        && (is_named c.left (twin_pass t f p (record { hop = k.0; name = k.1 })) && one_sigma t c.left c.right)
        && same_name c.right k.1) same
        ∙ again (bytes_eq (field p u.hop) (update_of t u.name p u.hop)) (is_named c.left (twin_pass t f p u)) (one_sigma t c.left c.right) (same_name c.right u.name))

opened : (t : Network) (f : Facts) (p : Contents) (c : Collision) → collided_with_pass t f p c ≡ true
    → option_map_or (λ u. has_update t p u && is_named c.left (twin_pass t f p u) && same_name c.right u.name) (uncovered f p) false ≡ true
unfolding collided_with_pass
opened t f p c e = (and_parts _ _ (and_parts _ _ e).0).1

pub collided_known : (s t : Network) (f : Facts) (p : Contents) (c : Collision) → s ≡ t → AreKnown t f → arrival_collided t f p c c.part ≡ true → IsTrue (has s c.left.asn)
collided_known s t f p c same known e = subst (λ (n : Network). IsTrue (has n c.left.asn)) (sym same) (part c.part e)
  where
    at_hop : (o : Option Uncovered) → option_map_or (λ u. has_update t p u && is_named c.left (twin_pass t f p u) && same_name c.right u.name) o false ≡ true → IsTrue (has t c.left.asn)
    at_hop None k = absurd (cc)
    at_hop (Some u) k = twin_known t f p u c.left known (and_parts _ _ (and_parts _ _ k).0).1

    part : (m : Part) → arrival_collided t f p c m ≡ true → IsTrue (has t c.left.asn)
    part Link k = absurd (cc)
    part Sigma k = at_hop (uncovered f p) (opened t f p c k)
