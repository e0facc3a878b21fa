-- A true verdict is the one that its line means, and so a line is true exactly where that verdict is.
use Rattle.std.proofs.Common.{◌≡◌, ℕ, zero, suc, Bool, true, false, cond, List, refl, ap, sym, ◌∙◌, subst}
use Rattle.std.specs.Bool.{Decides}
use Rattle.std.specs.Prelude.{Option, Some, None, ◌==◌, option_map, option_and_then, position}
use Rattle.std.specs.Option.{option_map_or}
use Rattle.std.proofs.lemmas.Bool.{eqb-true}
use Rattle.std.proofs.lemmas.Bool.Decides.{Decides-and}
use Rattle.epic_num.specs.declared.hop.HopName.{HopName}
use Rattle.epic_num.specs.declared.hop.Level.{Level}
use Rattle.epic_num.specs.declared.hop.Level.TheVariants.{L0, L1, L2, L3}
use Rattle.epic_num.specs.declared.key_name.KeyName.{KeyName}
use Rattle.epic_num.specs.declared.name.AsId.{AsId}
use Rattle.epic_num.specs.declared.verdict.Forgery.{Forgery}
use Rattle.epic_num.specs.declared.verdict.ForgedKind.{ForgedKind}
use Rattle.epic_num.specs.declared.verdict.ForgedKind.TheVariants as kind
use Rattle.epic_num.specs.declared.verdict.Verdict.{Verdict}
use Rattle.epic_num.specs.declared.verdict.Verdict.TheVariants.{Proved, Unclaimed, Opened, Forged, Collided}
use Rattle.epic_num.specs.Chains.{Issue}
use Rattle.epic_num.specs.Levels.{is_tagged, level_of}
use Rattle.epic_num.specs.Same.{same_name}
use Rattle.epic_layout.specs.Contents.{Contents}
use Rattle.epic_topo.specs.Network.{Network}
use Rattle.epic_keys.specs.Keys.{owner}
use Rattle.epic_fields.specs.HopChecks.{hop_name}
use Rattle.epic_fields.specs.PacketTags.{field_name, hop_message}
use Rattle.epic_ledger.specs.Facts.{Facts, Sent, sent_name}
use Rattle.epic_ledger.specs.Queries.{issue_of}
use Rattle.epic_audit.specs.Forged.{IsForgedUpdate}
use Rattle.epic_audit.specs.ForgedText.{forged_hop}
use Rattle.epic_audit.specs.Holds.{Holds, HoldsOfHop, HoldsOfDest, HopForged, ArrivalForged, Subject, AtHop, AtDest}
use Rattle.epic_record.specs.declared.told.Told.{Told}
use Rattle.epic_record.specs.declared.told.Told.TheVariants as told
use Rattle.epic_record.specs.declared.told.ToldForgery.TheVariants as what
use Rattle.epic_judging.specs.Judging.{IsTrueOf, generation_of, forged_at_hop, forged_at_dest, meant_at_hop, meant_at_dest, meant, holds, is_told_true, told_true}
use Rattle.epic_judging.specs.Laws.{JudgmentsAreDecided}
use Rattle.epic_judging.specs.Telling.{proved_told, static_what, issue_what, told_what, told_of}
use Rattle.epic_judging.proofs.DestDecided.{holds_of_dest-Decides}
use Rattle.epic_judging.proofs.HopDecided.{holds_of_hop-Decides}
use Rattle.epic_judging.proofs.Making.{only_send-is}
use Rattle.epic_judging.proofs.SameTold.{same_told-Decides}

-- ---- hops

-- issues are numbered from 1
numbered : (issues : List Issue) (x : HopName) → issue_of issues x ≡ Some 0 → ⊥
unfolding issue_of
numbered issues x e = by (position (λ i. same_name i.name x) issues) e
  where
    by : (o : Option ℕ) → option_map suc o ≡ Some 0 → ⊥
    by None k = cc
    by (Some n) k = cc

proved_again : (generation j issue send : ℕ) → (issue ≡ 0 → ⊥) → meant_at_hop generation j (proved_told issue send) ≡ Proved issue send
proved_again generation j issue send some = by (issue == 0) (send == 0) refl refl
  where
    by : (a b : Bool) → (issue == 0) ≡ a → (send == 0) ≡ b
        → meant_at_hop generation j (cond a (told.Proved send None) (cond b (told.Proved issue None) (told.Proved issue (Some send)))) ≡ Proved issue send
    by true b ea eb = absurd (some (eqb-true issue 0 ea))
    by false true ea eb = λ i. Proved issue (sym (eqb-true send 0 eb) i)
    by false false ea eb = refl

-- what stands for a forged issue isn't a field
static_again : (generation j : ℕ) (key : KeyName) (level : Level) (p : Contents) (r : Forgery)
    → forged_at_hop generation j (static_what level p r) key ≡ Forged (record { kind = kind.Issue; hop = j; key = key; generation = generation })
static_again generation j key L0 p r = refl
static_again generation j key L1 p r = refl
static_again generation j key L2 p r = refl
static_again generation j key L3 p r = refl

issue_again : (generation j : ℕ) (key : KeyName) (t : Network) (p : Contents) (r : Forgery)
    → forged_at_hop generation j (issue_what t p r) key ≡ Forged (record { kind = kind.Issue; hop = j; key = key; generation = generation })
issue_again generation j key t p r =
    by (is_tagged p.first) (Some (field_name t (owner r.key) p)) (hop_message t (forged_hop p r) p r.hop)
  where
    by : (b : Bool) (k : Option KeyName) (m : List ℕ) → forged_at_hop generation j (cond b (what.Over k m) (static_what (level_of p.first) p r)) key
        ≡ Forged (record { kind = kind.Issue; hop = j; key = key; generation = generation })
    by true k m = refl
    by false k m = static_again generation j key (level_of p.first) p r

forged_hop_again : (t : Network) (f : Facts) (a : AsId) (generation : ℕ) (p : Contents) (j : ℕ) (key : KeyName) (k : ForgedKind) (hop g : ℕ)
    → HopForged t f (hop_name a generation p j) p j (record { kind = k; hop = hop; key = key; generation = g }) k
    → forged_at_hop generation j (told_what k t p (record { kind = k; hop = hop; key = key; generation = g })) key
    ≡ Forged (record { kind = k; hop = hop; key = key; generation = g })
unfolding hop_name
forged_hop_again t f a generation p j key kind.Issue hop g v =
    issue_again generation j key t p (record { kind = kind.Issue; hop = hop; key = key; generation = g })
    ∙ (λ i. Forged (record { kind = kind.Issue; hop = sym v.hop_is i; key = key; generation = sym v.generation_is i }))
forged_hop_again t f a generation p j key kind.Field hop g v =
    λ i. Forged (record { kind = kind.Field; hop = sym v.hop_is i; key = key; generation = sym v.generation_is i })
forged_hop_again t f a generation p j key kind.Update hop g v = absurd v
forged_hop_again t f a generation p j key kind.Dest hop g v = absurd v

hop_again : (t : Network) (f : Facts) (a : AsId) (generation : ℕ) (p : Contents) (j : ℕ) (v : Verdict) → HoldsOfHop t f (hop_name a generation p j) p j v
    → meant_at_hop generation j (told_of t p v) ≡ v
unfolding told_of
hop_again t f a generation p j (Proved issue send) h =
    proved_again generation j issue send (λ e. numbered f.issues (hop_name a generation p j) (h.issue_is ∙ ap Some e))
hop_again t f a generation p j Unclaimed h = refl
hop_again t f a generation p j (Opened step) h = refl
hop_again t f a generation p j (Forged r) h = forged_hop_again t f a generation p j r.key r.kind r.hop r.generation h
hop_again t f a generation p j (Collided c) h = refl

-- ---- destinations

-- the one packet that was sent tells the generation
generation_is : (t : Network) (f : Facts) (a : AsId) (generation : ℕ) (p : Contents) (hop : ℕ)
    → IsForgedUpdate t f (hop_name a generation p hop) p hop → generation_of f p hop ≡ generation
unfolding generation_of hop_name
generation_is t f a generation p hop u =
    ap (λ (o : Option HopName). option_map_or (λ x. x.generation) o 0)
    (ap (option_and_then (λ (s : Sent). sent_name f.issues s hop)) (only_send-is f.sends p u.send u.only) ∙ u.named)

forged_dest_again : (t : Network) (f : Facts) (p : Contents) (key : KeyName) (k : ForgedKind) (hop g : ℕ)
    → ArrivalForged t f p (record { kind = k; hop = hop; key = key; generation = g }) k
    → forged_at_dest f p (told_what k t p (record { kind = k; hop = hop; key = key; generation = g })) key
    ≡ Forged (record { kind = k; hop = hop; key = key; generation = g })
forged_dest_again t f p key kind.Update hop g v =
    let same = generation_is t f v.asn g p hop v.forged in
    λ i. Forged (record { kind = kind.Update; hop = hop; key = key; generation = same i })
forged_dest_again t f p key kind.Dest hop g v =
    λ i. Forged (record { kind = kind.Dest; hop = sym v.hop_is i; key = key; generation = sym v.generation_is i })
forged_dest_again t f p key kind.Issue hop g v = absurd v
forged_dest_again t f p key kind.Field hop g v = absurd v

proved_there : (f : Facts) (p : Contents) (issue send : ℕ) → issue ≡ 0 → meant_at_dest f p (proved_told issue send) ≡ Proved issue send
proved_there f p zero send e = refl
proved_there f p (suc n) send e = absurd (cc)

dest_again : (t : Network) (f : Facts) (p : Contents) (v : Verdict) → HoldsOfDest t f p v → meant_at_dest f p (told_of t p v) ≡ v
unfolding told_of
dest_again t f p (Proved issue send) h = proved_there f p issue send h.issue_is
dest_again t f p Unclaimed h = refl
dest_again t f p (Opened step) h = refl
dest_again t f p (Forged r) h = forged_dest_again t f p r.key r.kind r.hop r.generation h
dest_again t f p (Collided c) h = refl

-- ---- both

again : (t : Network) (f : Facts) (p : Contents) (s : Subject) (v : Verdict) → Holds t f p s v → meant f p s (told_of t p v) ≡ v
unfolding meant
again t f p (AtHop a generation j) v h = hop_again t f a generation p j v h
again t f p AtDest v h = dest_again t f p v h

holds-Decides : (t : Network) (f : Facts) (p : Contents) (s : Subject) (v : Verdict) → Decides (holds t f p s v) (Holds t f p s v)
holds-Decides t f p (AtHop a generation j) v = holds_of_hop-Decides t f (hop_name a generation p j) p j v
holds-Decides t f p AtDest v = holds_of_dest-Decides t f p v

is_told_true-Decides : (t : Network) (f : Facts) (p : Contents) (s : Subject) (line : Told) (v : Verdict)
    → Decides (is_told_true t f p s line v) ((told_of t p v ≡ line) × Holds t f p s v)
unfolding is_told_true
is_told_true-Decides t f p s line v = Decides-and _ _ (same_told-Decides (told_of t p v) line) (holds-Decides t f p s v)

pub judgments_are_decided : JudgmentsAreDecided
unfolding told_true
judgments_are_decided t f a line = (true_of, told)
  where
    true_of : is_told_true t f a.packet a.subject line (meant f a.packet a.subject line) ≡ true → IsTrueOf t f a line
    true_of e =
        let both = (is_told_true-Decides t f a.packet a.subject line (meant f a.packet a.subject line)).0 e in
        record { verdict = meant f a.packet a.subject line; holds = both.1; told_is = both.0 }

    told : IsTrueOf t f a line → is_told_true t f a.packet a.subject line (meant f a.packet a.subject line) ≡ true
    told is =
        let same : is.verdict ≡ meant f a.packet a.subject line =
        sym (again t f a.packet a.subject is.verdict is.holds) ∙ ap (meant f a.packet a.subject) is.told_is in
        subst (λ v. is_told_true t f a.packet a.subject line v ≡ true) same
        ((is_told_true-Decides t f a.packet a.subject line is.verdict).1 (is.told_is, is.holds))
