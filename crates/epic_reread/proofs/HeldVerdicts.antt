-- The parts of a verdict that holds fit their types, where those of the ledger do.
use Rattle.std.proofs.Common.{◌≡◌, ℕ, zero, suc, ◌-◌, ◌<◌, ◌^◌, ◌==◌, Bool, true, false, cond, List, [], ◌∷◌, find, replicate, slice_get, refl, sym, subst, arith, Option, Some, None, nat_lt, inl, inr, not, ◌||◌}
use Rattle.std.specs.Prelude.{⊤, All, option_and_then, option_map, unwrap_or}
use Rattle.std.specs.Bool.{MatchBool}
use Rattle.std.specs.List.{list_any, position, range_with_len}
use Rattle.std.proofs.lemmas.Bool.{cond_both}
use Rattle.std.proofs.lemmas.List.Elements.{All-head, All-tail}
use Rattle.std.proofs.lemmas.Option.{same_Some}
use Rattle.std.proofs.lemmas.List.Quantifiers.{position-Some}
use Rattle.epic_num.specs.declared.hop.HopName.{HopName}
use Rattle.epic_num.specs.declared.name.AsId.{AsId}
use Rattle.epic_num.specs.declared.verdict.Collision.{Collision}
use Rattle.epic_num.specs.declared.verdict.ForgedKind.{ForgedKind}
use Rattle.epic_num.specs.declared.verdict.ForgedKind.TheVariants.{Issue as IssueKind, Field, Update, Dest}
use Rattle.epic_num.specs.declared.verdict.Forgery.{Forgery}
use Rattle.epic_num.specs.declared.verdict.Part.{Part}
use Rattle.epic_num.specs.declared.verdict.Part.TheVariants.{Link, Sigma}
use Rattle.epic_num.specs.declared.verdict.Verdict.{Verdict}
use Rattle.epic_num.specs.declared.verdict.Verdict.TheVariants.{Proved, Unclaimed, Opened, Forged, Collided}
use Rattle.epic_num.specs.Chains.{issue_at, name_of, no_name}
use Rattle.epic_num.specs.Levels.{is_tagged, is_timed, is_updated}
use Rattle.epic_num.specs.Same.{same_name}
use Rattle.epic_layout.specs.Contents.{Contents, HoldsBytes, IsPacket, hop_count}
use Rattle.epic_layout.specs.Route.{is_first, place}
use Rattle.epic_topo.specs.Lawful.{IsTopology}
use Rattle.epic_topo.specs.Network.{Network}
use Rattle.epic_fields.specs.HopChecks.{hop_name}
use Rattle.epic_fields.specs.PacketTags.{dest_name, field_name}
use Rattle.epic_ledger.specs.Facts.{Facts, Pass, Sent, pass_name, sent_issue, sent_name}
use Rattle.epic_ledger.specs.Queries.{chain_pass, issue_of}
use Rattle.epic_audit.specs.declared.uncovered.Uncovered.{Uncovered}
use Rattle.epic_audit.specs.Clauses.{higher, is_sent_as, is_sent_like, lower, sent_as}
use Rattle.epic_audit.specs.Holds.{ArrivalCollided, ArrivalForged, HopCollided, HopForged, HoldsOfDest, HoldsOfHop, AtDest, AtHop}
use Rattle.epic_audit.specs.Reveals.{IsRevealedAt, is_revealed}
use Rattle.epic_audit.specs.Verdicts.{broken, broken_between, broken_chain, is_child, is_twin, is_twin_pass, is_uncovered, parent_name, sent_hop, source_of, twin_issue, twin_pass, twin_sent, uncovered, uncovered_in}
use Rattle.epic_num.specs.declared.key_name.Holder.{Holder}
use Rattle.epic_num.specs.declared.key_name.Holder.TheVariants.{As, Host}
use Rattle.epic_reread.specs.Fitting.{Fits, HeldVerdictsFit, HopFits, KeyFits, LedgerFits}
use Rattle.epic_reread.proofs.PacketBytes.{hop_fits, is_bytes}
use Rattle.epic_reread.proofs.RunVerdicts.{epoch_fits}
use Rattle.epic_reread.proofs.TagsAreBytes.{zeros}

-- ---- what is there, if anything, is so

abbrev IfThere : {X : Type 0} → (X → Type 0) → Option X → Type 0
IfThere P None = ⊤
IfThere P (Some x) = P x

there : {X : Type 0} (P : X → Type 0) (o : Option X) (x : X) → o ≡ Some x → IfThere P o → P x
there P o x e h = subst (IfThere P) e h

of_find : {X : Type 0} (P : X → Type 0) (test : X → Bool) (xs : List X) → All P xs → IfThere P (find test xs)
of_find P test [] h = tt
of_find P test (x ∷ xs) h =
    cond_both (test x) (Some x) (find test xs) (IfThere P) (λ e. All-head P x xs h) (λ e. of_find P test xs (All-tail P x xs h))

of_get : {X : Type 0} (P : X → Type 0) (xs : List X) (n : ℕ) → All P xs → IfThere P (slice_get xs n)
of_get P [] n h = tt
of_get P (x ∷ xs) zero h = All-head P x xs h
of_get P (x ∷ xs) (suc n) h = of_get P xs n (All-tail P x xs h)

of_map : {X Y : Type 0} (P : X → Type 0) (Q : Y → Type 0) (f : X → Y) → ((x : X) → P x → Q (f x)) → (o : Option X) → IfThere P o → IfThere Q (option_map f o)
of_map P Q f each None h = tt
of_map P Q f each (Some x) h = each x h

of_then : {X Y : Type 0} (P : X → Type 0) (Q : Y → Type 0) (f : X → Option Y) → ((x : X) → P x → IfThere Q (f x)) → (o : Option X) → IfThere P o → IfThere Q (option_and_then f o)
of_then P Q f each None h = tt
of_then P Q f each (Some x) h = each x h

of_if : {X : Type 0} (P : X → Type 0) (b : Bool) (o q : Option X) → IfThere P o → IfThere P q → IfThere P (cond b o q)
of_if P b o q h k = cond_both b o q (IfThere P) (λ e. h) (λ e. k)

or_else : {X : Type 0} (P : X → Type 0) (o : Option X) (d : X) → IfThere P o → P d → P (unwrap_or o d)
or_else P None d h k = k
or_else P (Some x) d h k = h

-- ---- names

abbrev BothFit : HopName × HopName → Type 0
BothFit c = HopFits c.0 × HopFits c.1

no_name_fits : HopFits no_name
no_name_fits = record {
  generation = omega arith;
  body = record { pos = omega arith; exp = omega arith; ts_path = omega arith; inn = omega arith; out = omega arith; link = refl };
  link = is_bytes (replicate 8 0) (zeros 8);
}

module _ (t : Network) (f : Facts) (p : Contents) (ok : IsTopology t) (is : IsPacket p) (bytes : HoldsBytes p) (l : LedgerFits f) where
  issue_fits : (number : ℕ) → IfThere (λ i. HopFits i.name) (issue_at f.issues number)
  unfolding issue_at
  issue_fits number = of_if (λ i. HopFits i.name) (number == 0) None (slice_get f.issues (number - 1)) tt (of_get (λ i. HopFits i.name) f.issues (number - 1) l.issues)

  name_fits : (number : ℕ) → IfThere HopFits (name_of f.issues number)
  unfolding name_of
  name_fits number = of_map (λ i. HopFits i.name) HopFits (λ i. i.name) (λ i h. h) (issue_at f.issues number) (issue_fits number)

  sent_fits : (s : Sent) (j : ℕ) → IfThere HopFits (sent_name f.issues s j)
  unfolding sent_name
  sent_fits s j = of_if HopFits (nat_lt j (hop_count s.packet)) (name_of f.issues (sent_issue f.issues s j)) None (name_fits (sent_issue f.issues s j)) tt

  parent_fits : (number : ℕ) → HopFits (parent_name f.issues number)
  unfolding parent_name
  parent_fits number =
      or_else HopFits (option_and_then (λ i. name_of f.issues i.parent) (issue_at f.issues number)) no_name
      (of_then (λ i. HopFits i.name) HopFits (λ i. name_of f.issues i.parent) (λ i h. name_fits i.parent) (issue_at f.issues number) (issue_fits number))
      no_name_fits

  -- ---- collisions of a hop

  module _ (x : HopName) (j : ℕ) (here : HopFits x) where
    twin_issue_fits : IfThere HopFits (twin_issue t f x p)
    unfolding twin_issue
    twin_issue_fits =
        of_if HopFits (is_timed p.first) (option_map (λ i. i.name) (find (λ i. is_twin t x i.name) f.issues)) None
        (of_map (λ i. HopFits i.name) HopFits (λ i. i.name) (λ i h. h) (find (λ i. is_twin t x i.name) f.issues) (of_find (λ i. HopFits i.name) (λ i. is_twin t x i.name) f.issues l.issues))
        tt

    twin_sent_fits : IfThere HopFits (twin_sent t f x p j)
    unfolding twin_sent
    twin_sent_fits =
        of_then HopFits HopFits (λ y. cond (is_twin t x y) (Some y) None) (λ y h. of_if HopFits (is_twin t x y) (Some y) None h tt)
        (option_and_then (λ s. sent_name f.issues s j) (find (is_sent_like p) f.sends))
        (of_then (λ s. s.emission < 2 ^ 32) HopFits (λ s. sent_name f.issues s j) (λ s h. sent_fits s j) (find (is_sent_like p) f.sends)
        (of_find (λ s. s.emission < 2 ^ 32) (is_sent_like p) f.sends l.sends))

    lower_fits : (w : HopName) → HopFits w → HopFits (lower w x)
    unfolding lower
    lower_fits w h = cond_both (nat_lt w.body.pos x.body.pos) w x HopFits (λ e. h) (λ e. here)

    broken_fits : (z : HopName) (o : Option ℕ) (linked : Bool) → HopFits z → IfThere BothFit (broken f.issues z o linked)
    broken_fits z None linked h = tt
    broken_fits z (Some number) true h = tt
    broken_fits z (Some number) false h = (h, parent_fits number)

    between_fits : (y z : HopName) → HopFits z → IfThere BothFit (broken_between f.issues y z)
    unfolding broken_between
    between_fits y z h = broken_fits z (issue_of f.issues y) (list_any (is_child f.issues y z) f.issues) h

    chain_fits : IfThere BothFit (broken_chain f x p j)
    unfolding broken_chain chain_pass
    chain_fits =
        of_if BothFit (is_first (place p.route.segments j)) None (option_and_then step (chain_pass f.passes p.route (j - 1))) tt
        (of_then (λ w. HopFits (pass_name w)) BothFit step (λ w h. between_fits (higher (pass_name w) x) (lower (pass_name w) x) (lower_fits (pass_name w) h))
        (chain_pass f.passes p.route (j - 1)) (of_find (λ w. HopFits (pass_name w)) _ f.passes l.passes))
      where
        step : Pass → Option (HopName × HopName)
        step w = broken_between f.issues (higher (pass_name w) x) (lower (pass_name w) x)

    collision_fits : (c : Collision) (part : Part) → HopCollided t f x p j c part → HopFits c.left × HopFits c.right
    collision_fits c Sigma (inl h) = (subst HopFits (sym h.left_is) here, there HopFits (twin_issue t f x p) c.right h.right_is twin_issue_fits)
    collision_fits c Sigma (inr h) = (subst HopFits (sym h.left_is) here, there HopFits (twin_sent t f x p j) c.right h.right_is twin_sent_fits)
    collision_fits c Link h = there BothFit (broken_chain f x p j) (c.left, c.right) h.pair_is chain_fits

  -- ---- and of a destination

  uncovered_in_fits : (s : Sent) → IfThere (λ u. HopFits u.name) (uncovered_in f p s)
  unfolding uncovered_in
  uncovered_in_fits s =
      of_if (λ u. HopFits u.name) (not (is_updated p.first) || (is_revealed f.reveals (Host p.src) || is_revealed f.reveals (As p.src.asn))) None
      (option_map (sent_hop f s) (find (is_uncovered f p s) (range_with_len 0 (hop_count s.packet)))) tt
      (of_map (λ i. ⊤) (λ u. HopFits u.name) (sent_hop f s) (λ i h. or_else HopFits (sent_name f.issues s i) no_name (sent_fits s i) no_name_fits)
      (find (is_uncovered f p s) (range_with_len 0 (hop_count s.packet)))
      (of_find (λ i. ⊤) (is_uncovered f p s) (range_with_len 0 (hop_count s.packet)) (λ k d h. tt)))

  uncovered_fits : IfThere (λ u. HopFits u.name) (uncovered f p)
  unfolding uncovered sent_as
  uncovered_fits =
      of_then (λ s. s.emission < 2 ^ 32) (λ u. HopFits u.name) (uncovered_in f p) (λ s h. uncovered_in_fits s) (sent_as f.sends p)
      (of_find (λ s. s.emission < 2 ^ 32) (is_sent_as p) f.sends l.sends)

  twin_pass_fits : (u : Uncovered) → IfThere HopFits (twin_pass t f p u)
  unfolding twin_pass
  twin_pass_fits u =
      of_map (λ w. HopFits (pass_name w)) HopFits pass_name (λ w h. h) (find (is_twin_pass t p u) f.passes)
      (of_find (λ w. HopFits (pass_name w)) (is_twin_pass t p u) f.passes l.passes)

  arrival_collision_fits : (c : Collision) (part : Part) → ArrivalCollided t f p c part → HopFits c.left × HopFits c.right
  arrival_collision_fits c Sigma h = (
    there HopFits (twin_pass t f p h.hop) c.left h.left_is (twin_pass_fits h.hop),
    subst HopFits (sym h.right_is) (there (λ u. HopFits u.name) (uncovered f p) h.hop h.first_hop uncovered_fits),
  )
  arrival_collision_fits c Link h = absurd h

  -- ---- forgeries

  field_name_fits : (a : AsId) → KeyFits (field_name t a p)
  unfolding field_name
  field_name_fits a = (is.src, epoch_fits t p ok is)

  dest_name_fits : KeyFits (dest_name t p)
  unfolding dest_name
  dest_name_fits = (is.dst, is.src, epoch_fits t p ok is)

  hop_forgery_fits : (x : HopName) (j : ℕ) (r : Forgery) (kind : ForgedKind) → HopFits x → HopForged t f x p j r kind → KeyFits r.key
  hop_forgery_fits x j r IssueKind here h = subst KeyFits (sym h.key_is) here.generation
  hop_forgery_fits x j r Field here h = subst KeyFits (sym h.key_is) (field_name_fits x.asn)
  hop_forgery_fits x j r Update here h = absurd h
  hop_forgery_fits x j r Dest here h = absurd h

  arrival_forgery_fits : (r : Forgery) (kind : ForgedKind) → ArrivalForged t f p r kind → KeyFits r.key
  arrival_forgery_fits r Update h = subst KeyFits (sym h.key_is) (field_name_fits h.asn)
  arrival_forgery_fits r Dest h = subst KeyFits (sym h.key_is) dest_name_fits
  arrival_forgery_fits r IssueKind h = absurd h
  arrival_forgery_fits r Field h = absurd h

  -- ---- numbers

  issue_number_fits : (x : HopName) (number : ℕ) → issue_of f.issues x ≡ Some number → number < 2 ^ 32
  unfolding issue_of
  issue_number_fits x number e = by (position (λ i. same_name i.name x) f.issues) refl e
    where
      by : (o : Option ℕ) → position (λ i. same_name i.name x) f.issues ≡ o → option_map suc o ≡ Some number → number < 2 ^ 32
      by None at s = absurd (cc)
      by (Some k) at s =
          let low = position-Some (λ i. same_name i.name x) f.issues k (record { name = no_name; parent = 0 }) at in
          let same = same_Some (suc k) number s in
          omega (arith, low.0, l.few_issues, same)

  emission_fits : (test : Sent → Bool) (number : ℕ) → option_map (λ s. s.emission) (find test f.sends) ≡ Some number → number < 2 ^ 32
  emission_fits test number e =
      there (λ n. n < 2 ^ 32) (option_map (λ s. s.emission) (find test f.sends)) number e
      (of_map (λ s. s.emission < 2 ^ 32) (λ n. n < 2 ^ 32) (λ s. s.emission) (λ s h. h) (find test f.sends) (of_find (λ s. s.emission < 2 ^ 32) test f.sends l.sends))

  step_fits : (hs : List Holder) (step : ℕ) → IsRevealedAt f.reveals hs step → step < 2 ^ 32
  step_fits hs step h =
      subst (λ n. n < 2 ^ 32) h.step_is
      (there (λ r. r.step < 2 ^ 32) (slice_get f.reveals h.index) h.reveal h.there (of_get (λ r. r.step < 2 ^ 32) f.reveals h.index l.reveals))

  -- ---- verdicts

  hop_verdict_fits : (x : HopName) (j : ℕ) (v : Verdict) → HopFits x → HoldsOfHop t f x p j v → Fits v
  unfolding Fits source_of
  hop_verdict_fits x j (Proved issue send) here h = (issue_number_fits x issue h.issue_is, by (is_tagged p.first) h.send_is)
    where
      by : (b : Bool) → MatchBool b (option_map (λ s. s.emission) (source_of f x p j) ≡ Some send) (send ≡ 0) → send < 2 ^ 32
      by true e = emission_fits _ send e
      by false e = omega (arith, e)
  hop_verdict_fits x j Unclaimed here h = tt
  hop_verdict_fits x j (Opened step) here (inl h) = step_fits _ step h.revealed
  hop_verdict_fits x j (Opened step) here (inr h) = step_fits _ step h.revealed
  hop_verdict_fits x j (Forged r) here h = hop_forgery_fits x j r r.kind here h
  hop_verdict_fits x j (Collided c) here h = collision_fits x j here c c.part h

  dest_verdict_fits : (v : Verdict) → HoldsOfDest t f p v → Fits v
  unfolding Fits sent_as
  dest_verdict_fits (Proved issue send) h = (omega (arith, h.issue_is), emission_fits (is_sent_as p) send h.send_is)
  dest_verdict_fits Unclaimed h = tt
  dest_verdict_fits (Opened step) h = step_fits _ step h.revealed
  dest_verdict_fits (Forged r) h = arrival_forgery_fits r r.kind h
  dest_verdict_fits (Collided c) h = arrival_collision_fits c c.part h

  named_hop_fits : (a : AsId) (generation j : ℕ) → generation < 2 ^ 32 → j < hop_count p → HopFits (hop_name a generation p j)
  unfolding hop_name
  named_hop_fits a generation j small inside =
      let fits = hop_fits p j is bytes inside in
      record { generation = small; body = fits.0; link = fits.1 }

pub held_verdicts_fit : HeldVerdictsFit
held_verdicts_fit t f p (AtHop a generation j) v ok is bytes l of h =
    hop_verdict_fits t f p ok is bytes l (hop_name a generation p j) j v (named_hop_fits t f p ok is bytes l a generation j of.0 of.1) h
held_verdicts_fit t f p AtDest v ok is bytes l of h = dest_verdict_fits t f p ok is bytes l v h
