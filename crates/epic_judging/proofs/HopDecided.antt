-- The test of a verdict of a hop decides whether it is true.
use Rattle.std.proofs.Common.{◌≡◌, ℕ, Bool, true, false, ◌∷◌, [], refl, ap, sym, ◌∙◌}
use Rattle.std.specs.Bool.{Decides, MatchBool}
use Rattle.std.specs.Prelude.{Some, option_map, is_none, if◌then◌else◌}
use Rattle.std.proofs.lemmas.Bool.Decides.{Decides-eqb, Decides-and, Decides-or, Decides-like, Decides-not}
use Rattle.std.proofs.lemmas.Slice.Eq.{bytes_eq-Decides}
use Rattle.epic_num.specs.declared.hop.HopName.{HopName}
use Rattle.epic_num.specs.declared.key_name.Holder.TheVariants.{As}
use Rattle.epic_num.specs.declared.key_name.KeyName.TheVariants.{Fwd}
use Rattle.epic_num.specs.declared.verdict.Collision.{Collision}
use Rattle.epic_num.specs.declared.verdict.Forgery.{Forgery}
use Rattle.epic_num.specs.declared.verdict.ForgedKind.{ForgedKind}
use Rattle.epic_num.specs.declared.verdict.ForgedKind.TheVariants as kind
use Rattle.epic_num.specs.declared.verdict.Part.{Part}
use Rattle.epic_num.specs.declared.verdict.Part.TheVariants.{Link, Sigma}
use Rattle.epic_num.specs.declared.verdict.Verdict.{Verdict}
use Rattle.epic_num.specs.declared.verdict.Verdict.TheVariants.{Proved, Unclaimed, Opened, Forged, Collided}
use Rattle.epic_num.specs.Chains.{Issue, issue_at}
use Rattle.epic_num.specs.Holders.{holders}
use Rattle.epic_num.specs.Levels.{is_tagged, is_timed}
use Rattle.epic_num.specs.Moments.{epoch_of}
use Rattle.epic_num.proofs.SameLaws.{same_key-Decides, same_name-Decides}
use Rattle.epic_layout.specs.Contents.{Contents, field}
use Rattle.epic_topo.specs.Network.{Network}
use Rattle.epic_fields.specs.Formulas.{field_part}
use Rattle.epic_fields.specs.Tags.{sigma}
use Rattle.epic_fields.specs.PacketTags.{field_name, field_of, hop_message, hop_tag}
use Rattle.epic_ledger.specs.Facts.{Facts}
use Rattle.epic_ledger.specs.Queries.{issue_of}
use Rattle.epic_audit.specs.Collided.{HaveOneLink}
use Rattle.epic_audit.specs.Forged.{IsForgedIssue, IsForgedField}
use Rattle.epic_audit.specs.Holds.{HopProved, IssueOpened, FieldOpened, IssueForged, FieldForged, HopForged, CollidedWithIssue, CollidedInChain, CollidedWithSend, HopCollided, HoldsOfHop}
use Rattle.epic_audit.specs.Verdicts.{twin_issue, broken_chain, source_of, twin_sent}
use Rattle.epic_audit.proofs.Alike.{twin_issued, no_twin_issued}
use Rattle.epic_audit.proofs.Chained.{not_chained}
use Rattle.epic_audit.proofs.Decided.{is_named-Decides, is_twin-Decides}
use Rattle.epic_audit.proofs.Queries.{name_there}
use Rattle.epic_judging.specs.HopTests.{hop_proved, issue_opened, field_opened, is_forged_issue, is_forged_field, issue_forged, field_forged, hop_forged, collided_with_issue, collided_in_chain, collided_with_send, hop_collided, holds_of_hop}
use Rattle.epic_judging.proofs.Listing.{is_number-Decides, missing-Decides, Passes, passes-Decides}
use Rattle.epic_judging.proofs.Making.{true-Decides, made_field-Decides, one_link-Decides, one_sigma-Decides}
use Rattle.epic_judging.proofs.Provenance.{is_issued-Decides, is_chained-Decides, is_sourced-Decides, hop_ok-Decides, is_revealed-Decides, any_revealed_at-Decides, none_revealed-Decides}

nothing-Decides : Decides false ⊥
nothing-Decides = (λ e. absurd (cc), λ h. absurd h)

-- ---- proved, and opened

-- a test by cases decides what is asked by cases
cases-Decides : {P Q : Type 0} (b r s : Bool) → Decides r P → Decides s Q → Decides (if b then r else s) (MatchBool b P Q)
cases-Decides true r s d e = d
cases-Decides false r s d e = e

hop_proved-Decides : (f : Facts) (x : HopName) (p : Contents) (j issue send : ℕ) → Decides (hop_proved f x p j issue send) (HopProved f x p j issue send)
unfolding hop_proved
hop_proved-Decides f x p j issue send =
    Decides-like _
    (λ h. record { provenance = h.0.0; issue_is = h.0.1; send_is = h.1 })
    (λ v. ((v.provenance, v.issue_is), v.send_is))
    (Decides-and _ _
    (Decides-and _ _ (hop_ok-Decides f x p j) (is_number-Decides issue (issue_of f.issues x)))
    (cases-Decides (is_tagged p.first) _ _
    (is_number-Decides send (option_map (λ s. s.emission) (source_of f x p j)))
    (Decides-eqb send 0)))

issue_opened-Decides : (f : Facts) (x : HopName) (step : ℕ) → Decides (issue_opened f x step) (IssueOpened f x step)
unfolding issue_opened
issue_opened-Decides f x step =
    Decides-like _
    (λ h. record { not_issued = h.0; revealed = h.1 })
    (λ v. (v.not_issued, v.revealed))
    (Decides-and _ _ (Decides-not _ (is_issued-Decides f.issues x)) (any_revealed_at-Decides f.reveals (As x.asn ∷ []) step))

field_opened-Decides : (t : Network) (f : Facts) (x : HopName) (p : Contents) (j step : ℕ) → Decides (field_opened t f x p j step) (FieldOpened t f x p j step)
unfolding field_opened
field_opened-Decides t f x p j step =
    Decides-like _
    (λ h. record { issued = h.0.0.0.0; chained = h.0.0.0.1; tagged = h.0.0.1; not_sourced = h.0.1; revealed = h.1 })
    (λ v. ((((v.issued, v.chained), v.tagged), v.not_sourced), v.revealed))
    (Decides-and _ _
    (Decides-and _ _
    (Decides-and _ _
    (Decides-and _ _ (is_issued-Decides f.issues x) (is_chained-Decides f x p j))
    (true-Decides (is_tagged p.first)))
    (Decides-not _ (is_sourced-Decides f x p j)))
    (any_revealed_at-Decides f.reveals (holders (field_name t x.asn p)) step))

-- ---- forged

-- nobody was given the authenticator
abbrev NotGiven : Network → Facts → HopName → Contents → Type 0
NotGiven t f x p =
    is_timed p.first ≡ true → (number : ℕ) (i : Issue) → issue_at f.issues number ≡ Some i → i.name.asn ≡ x.asn → sigma t i.name ≡ sigma t x → ⊥

not_given-Decides : (t : Network) (f : Facts) (x : HopName) (p : Contents) → Decides (is_none (twin_issue t f x p)) (NotGiven t f x p)
not_given-Decides t f x p = missing-Decides (twin_issue t f x p) given (no_twin_issued t f x p)
  where
    given : (y : HopName) → twin_issue t f x p ≡ Some y → NotGiven t f x p → ⊥
    given y e free =
        let is = twin_issued t f x p y e in
        let there = name_there f.issues is.issued.number y is.issued.named in
        let same = (is_twin-Decides t x y).0 is.twin in
        free is.level is.issued.number there.0 there.1
        (ap (λ (z : HopName). z.asn) there.2 ∙ same.0)
        (ap (sigma t) there.2 ∙ same.1)

is_forged_issue-Decides : (t : Network) (f : Facts) (x : HopName) (p : Contents) (j : ℕ) → Decides (is_forged_issue t f x p j) (IsForgedIssue t f x p j)
unfolding is_forged_issue
is_forged_issue-Decides t f x p j =
    Decides-like _
    (λ h. record { not_issued = h.0.0.0; not_revealed = h.0.0.1; field_is = h.0.1; not_given = h.1 })
    (λ v. (((v.not_issued, v.not_revealed), v.field_is), v.not_given))
    (Decides-and _ _
    (Decides-and _ _
    (Decides-and _ _ (Decides-not _ (is_issued-Decides f.issues x)) (Decides-not _ (is_revealed-Decides f.reveals (As x.asn))))
    (bytes_eq-Decides (field p j) (field_of t x p j)))
    (not_given-Decides t f x p))

is_forged_field-Decides : (t : Network) (f : Facts) (x : HopName) (p : Contents) (j : ℕ) → Decides (is_forged_field t f x p j) (IsForgedField t f x p j)
unfolding is_forged_field
is_forged_field-Decides t f x p j =
    Decides-like _
    (λ h. record { tagged = h.0.0.0; field_is = h.0.0.1; not_made = h.0.1; not_revealed = h.1 })
    (λ v. (((v.tagged, v.field_is), v.not_made), v.not_revealed))
    (Decides-and _ _
    (Decides-and _ _
    (Decides-and _ _ (true-Decides (is_tagged p.first)) (bytes_eq-Decides (field p j) (field_part p.first (hop_tag t x p j))))
    (Decides-not _ (made_field-Decides t f x.asn p.src (epoch_of t.profile p.ts) (hop_message t x p j))))
    (none_revealed-Decides f.reveals (holders (field_name t x.asn p))))

issue_forged-Decides : (t : Network) (f : Facts) (x : HopName) (p : Contents) (j : ℕ) (r : Forgery) → Decides (issue_forged t f x p j r) (IssueForged t f x p j r)
unfolding issue_forged
issue_forged-Decides t f x p j r =
    Decides-like _
    (λ h. let forged = h.0.0.0 in
    record { no_provenance = λ ok. forged.not_issued ok.issued; forged = forged; hop_is = h.0.0.1; key_is = h.0.1; generation_is = h.1 })
    (λ v. (((v.forged, v.hop_is), v.key_is), v.generation_is))
    (Decides-and _ _
    (Decides-and _ _
    (Decides-and _ _ (is_forged_issue-Decides t f x p j) (Decides-eqb r.hop j))
    (same_key-Decides r.key (Fwd x.asn x.generation)))
    (Decides-eqb r.generation x.generation))

field_forged-Decides : (t : Network) (f : Facts) (x : HopName) (p : Contents) (j : ℕ) (r : Forgery) → Decides (field_forged t f x p j r) (FieldForged t f x p j r)
unfolding field_forged
field_forged-Decides t f x p j r =
    Decides-like _
    (λ h. record { no_provenance = h.0.0.0.0; forged = h.0.0.0.1; hop_is = h.0.0.1; key_is = h.0.1; generation_is = h.1 })
    (λ v. ((((v.no_provenance, v.forged), v.hop_is), v.key_is), v.generation_is))
    (Decides-and _ _
    (Decides-and _ _
    (Decides-and _ _
    (Decides-and _ _ (Decides-not _ (hop_ok-Decides f x p j)) (is_forged_field-Decides t f x p j))
    (Decides-eqb r.hop j))
    (same_key-Decides r.key (field_name t x.asn p)))
    (Decides-eqb r.generation x.generation))

hop_forged-Decides : (t : Network) (f : Facts) (x : HopName) (p : Contents) (j : ℕ) (r : Forgery) (k : ForgedKind)
    → Decides (hop_forged t f x p j r k) (HopForged t f x p j r k)
hop_forged-Decides t f x p j r kind.Issue = issue_forged-Decides t f x p j r
hop_forged-Decides t f x p j r kind.Field = field_forged-Decides t f x p j r
hop_forged-Decides t f x p j r kind.Update = nothing-Decides
hop_forged-Decides t f x p j r kind.Dest = nothing-Decides

-- ---- collided

collided_with_issue-Decides : (t : Network) (f : Facts) (x : HopName) (p : Contents) (c : Collision)
    → Decides (collided_with_issue t f x p c) (CollidedWithIssue t f x p c)
unfolding collided_with_issue
collided_with_issue-Decides t f x p c =
    Decides-like _
    (λ h. record { not_issued = h.0.0.0.0; level = h.0.0.0.1; left_is = h.0.0.1; right_is = h.0.1; collided = h.1 })
    (λ v. ((((v.not_issued, v.level), v.left_is), v.right_is), v.collided))
    (Decides-and _ _
    (Decides-and _ _
    (Decides-and _ _
    (Decides-and _ _ (Decides-not _ (is_issued-Decides f.issues x)) (true-Decides (is_timed p.first)))
    (same_name-Decides c.left x))
    (is_named-Decides c.right (twin_issue t f x p)))
    (one_sigma-Decides t c.left c.right))

-- the chain breaks at these two, which have one link tag
abbrev BrokenAt : Network → Facts → HopName → Contents → ℕ → Collision → Type 0
BrokenAt t f x p j c =
    Passes (λ (pair : HopName × HopName). (c.left ≡ pair.0) × (c.right ≡ pair.1)) (broken_chain f x p j) × HaveOneLink t c.left c.right

collided_in_chain-Decides : (t : Network) (f : Facts) (x : HopName) (p : Contents) (j : ℕ) (c : Collision)
    → Decides (collided_in_chain t f x p j c) (CollidedInChain t f x p j c)
unfolding collided_in_chain
collided_in_chain-Decides t f x p j c =
    Decides-like _ collided chain
    (Decides-and _ _
    (passes-Decides _ _
    (λ (pair : HopName × HopName). Decides-and _ _ (same_name-Decides c.left pair.0) (same_name-Decides c.right pair.1))
    (broken_chain f x p j))
    (one_link-Decides t c.left c.right))
  where
    collided : BrokenAt t f x p j c → CollidedInChain t f x p j c
    collided h =
        let pair = h.0 in
        let is : broken_chain f x p j ≡ Some (c.left, c.right) = pair.is ∙ ap Some (λ i. (sym pair.passes.0 i, sym pair.passes.1 i)) in
        record { not_chained = not_chained f x p j (c.left, c.right) is; pair_is = is; collided = h.1 }

    chain : CollidedInChain t f x p j c → BrokenAt t f x p j c
    chain v = (record { value = (c.left, c.right); is = v.pair_is; passes = (refl, refl) }, v.collided)

collided_with_send-Decides : (t : Network) (f : Facts) (x : HopName) (p : Contents) (j : ℕ) (c : Collision)
    → Decides (collided_with_send t f x p j c) (CollidedWithSend t f x p j c)
unfolding collided_with_send
collided_with_send-Decides t f x p j c =
    Decides-like _
    (λ h. record { tagged = h.0.0.0.0; not_sourced = h.0.0.0.1; left_is = h.0.0.1; right_is = h.0.1; collided = h.1 })
    (λ v. ((((v.tagged, v.not_sourced), v.left_is), v.right_is), v.collided))
    (Decides-and _ _
    (Decides-and _ _
    (Decides-and _ _
    (Decides-and _ _ (true-Decides (is_tagged p.first)) (Decides-not _ (is_sourced-Decides f x p j)))
    (same_name-Decides c.left x))
    (is_named-Decides c.right (twin_sent t f x p j)))
    (one_sigma-Decides t c.left c.right))

hop_collided-Decides : (t : Network) (f : Facts) (x : HopName) (p : Contents) (j : ℕ) (c : Collision) (part : Part)
    → Decides (hop_collided t f x p j c part) (HopCollided t f x p j c part)
hop_collided-Decides t f x p j c Sigma = Decides-or _ _ (collided_with_issue-Decides t f x p c) (collided_with_send-Decides t f x p j c)
hop_collided-Decides t f x p j c Link = collided_in_chain-Decides t f x p j c

-- ---- all

pub holds_of_hop-Decides : (t : Network) (f : Facts) (x : HopName) (p : Contents) (j : ℕ) (v : Verdict)
    → Decides (holds_of_hop t f x p j v) (HoldsOfHop t f x p j v)
holds_of_hop-Decides t f x p j (Proved issue send) = hop_proved-Decides f x p j issue send
holds_of_hop-Decides t f x p j Unclaimed = nothing-Decides
holds_of_hop-Decides t f x p j (Opened step) = Decides-or _ _ (issue_opened-Decides f x step) (field_opened-Decides t f x p j step)
holds_of_hop-Decides t f x p j (Forged r) = hop_forged-Decides t f x p j r r.kind
holds_of_hop-Decides t f x p j (Collided c) = hop_collided-Decides t f x p j c c.part
