-- The verdict on the maker of a field is always true, and rests on issues, sent packets and reveals alone.
use Rattle.std.proofs.Common.{◌≡◌, ◌↔◌, ℕ, Bool, true, ◌&&◌, Option, Some, None, List, [], ◌∷◌, find, refl, ap, sym, ◌∙◌, subst}
use Rattle.std.specs.Prelude.{option_map, option_and_then, bytes_eq, if◌then◌else◌}
use Rattle.std.proofs.lemmas.Bool.{and_parts}
use Rattle.std.proofs.lemmas.Option.{cond_some}
use Rattle.std.proofs.lemmas.Slice.Eq.{bytes_eq-Decides}
use Rattle.epic_num.specs.declared.hop.HopName.{HopName}
use Rattle.epic_num.specs.declared.hop.Level.{Level}
use Rattle.epic_num.specs.declared.hop.Level.TheVariants.{L1}
use Rattle.epic_num.specs.declared.name.AsId.{AsId}
use Rattle.epic_num.specs.declared.hop.Body.{Body}
use Rattle.epic_num.specs.Levels.{is_first_byte, level_of}
use Rattle.epic_num.specs.Messages.{field1_message}
use Rattle.epic_num.proofs.LevelLaws.{at_first}
use Rattle.epic_num.proofs.MessageLaws.{field1_messages}
use Rattle.epic_layout.specs.Contents.{Contents, IsPacket, field}
use Rattle.epic_layout.specs.Route.{body}
use Rattle.epic_topo.specs.Network.{Network}
use Rattle.epic_fields.specs.Formulas.{field1}
use Rattle.epic_fields.specs.HopChecks.{hop_name, carries_field, has_field}
use Rattle.epic_fields.specs.PacketTags.{field_by, field_over, field_of, shared_key}
use Rattle.epic_fields.specs.Tags.{sigma}
use Rattle.epic_ledger.specs.History.{History}
use Rattle.epic_ledger.specs.Facts.{Facts, Sent, Pass, Reveal, as_issue, as_send, as_reveal, facts_of, sent_name}
use Rattle.epic_ledger.specs.Lawful.{IsLawful}
use Rattle.epic_ledger.specs.OneMore.{with_event}
use Rattle.epic_ledger.specs.Queries.{issue_of}
use Rattle.epic_audit.specs.Clauses.{IsIssued, IsSourced, is_sent_like}
use Rattle.epic_audit.specs.Kept.{Kept, ArePackets, AreApart}
use Rattle.epic_audit.specs.Laws.{IsAccepted}
use Rattle.epic_audit.specs.Verdicts.{is_named, source_of}
use Rattle.epic_audit.proofs.Alike.{sent_alone}
use Rattle.epic_audit.proofs.Decided.{is_sent_like-Decides, is_named-Decides}
use Rattle.epic_audit.proofs.Finds.{found}
use Rattle.epic_audit.proofs.Growth.{lawful_packets}
use Rattle.epic_audit.proofs.Lists.{none_more}
use Rattle.epic_audit.proofs.Queries.{issued, unissued, sourced, unsourced}
use Rattle.epic_holders.specs.declared.maker.Maker.{Maker}
use Rattle.epic_holders.specs.Found.{maker_found}
use Rattle.epic_holders.specs.Laws.{MakersHold, MakersAgree, MakersStay}
use Rattle.epic_holders.specs.MakerHolds.{IsMadeBy, IsComputed, MakerHolds}
use Rattle.epic_audit.specs.Reveals.{lesser}
use Rattle.epic_holders.specs.Holders.{is_holder}
use Rattle.epic_holders.specs.Makers.{opened_by, least_opened, other_sent, maker_lines, maker_verdict, IsMade}
use Rattle.epic_holders.proofs.Sends.{sent_there, found_is}
use Rattle.epic_holders.proofs.Steps.{least_is, none_opened}

-- ---- level 1

-- it has one first byte
one_first : (first : ℕ) → is_first_byte first ≡ true → level_of first ≡ L1 → first ≡ 0xE1
unfolding level_of
one_first = at_first (λ b. level_of b ≡ L1 → b ≡ 0xE1) (λ e. absurd (cc)) (λ e. refl) (λ e. absurd (cc)) (λ e. absurd (cc)) (λ e. absurd (cc)) (λ e. absurd (cc))

right_field : (t : Network) (x : HopName) (p : Contents) (j : ℕ) → level_of p.first ≡ L1 → has_field t x p j ≡ true → field p j ≡ field1 (sigma t x) p.ts p.src j
unfolding has_field carries_field field_of field_over field_by
right_field t x p j level e =
    (bytes_eq-Decides (field p j) (field_of t x p j)).0 e
    ∙ ap (λ (l : Level). field_by l (shared_key t x.asn p) (sigma t x) p j) level

-- ---- what was sent

sourced_issued : (f : Facts) (x : HopName) (p : Contents) (j : ℕ) → IsSourced f x p j → IsIssued f.issues x
sourced_issued f x p j s = let n = sent_there f s.send j x s.named in record { number = n.0; named = n.1 }

made_by_send : (f : Facts) (x : HopName) (p : Contents) (j : ℕ) (s : Sent) → source_of f x p j ≡ Some s → IsMadeBy f x p j s.emission
unfolding source_of
made_by_send f x p j s e =
    let is = found (λ (r : Sent). is_sent_like p r && is_named x (sent_name f.issues r j)) f.sends s e in
    let both = and_parts (is_sent_like p s) (is_named x (sent_name f.issues s j)) is.passes in
    record { index = is.index; send = s; there = is.there; alike = both.0; named = (is_named-Decides x (sent_name f.issues s j)).0 both.1; emission_is = refl }

-- the other hop of the packet that was sent
record OtherSent (t : Network) (f : Facts) (x : HopName) (p : Contents) (j : ℕ) (y : HopName) : Type 0 where
  pub sent : IsSourced f y p j
  pub sigma_is : sigma t x ≡ sigma t y

other_there : (t : Network) (f : Facts) (x : HopName) (p : Contents) (j : ℕ) (y : HopName) → other_sent t f x p j ≡ Some y → OtherSent t f x p j y
unfolding other_sent
other_there t f x p j y e = by (find (is_sent_like p) f.sends) refl e
  where
    named : (s : Sent) (o : Option HopName) → find (is_sent_like p) f.sends ≡ Some s → sent_name f.issues s j ≡ o
        → option_and_then (λ z. if bytes_eq (sigma t z) (sigma t x) then Some z else None) o ≡ Some y → OtherSent t f x p j y
    named s None k n h = absurd (cc)
    named s (Some z) k n h =
        let is = found (is_sent_like p) f.sends s k in
        let c = cond_some (bytes_eq (sigma t z) (sigma t x)) z y h in
        record {
          sent = record { index = is.index; send = s; there = is.there; alike = is.passes; named = n ∙ ap Some c.1 };
          sigma_is = sym ((bytes_eq-Decides (sigma t z) (sigma t x)).0 c.0) ∙ ap (sigma t) c.1;
        }

    by : (o : Option Sent) → find (is_sent_like p) f.sends ≡ o
        → option_and_then (λ z. if bytes_eq (sigma t z) (sigma t x) then Some z else None) (option_and_then (λ s. sent_name f.issues s j) o) ≡ Some y
        → OtherSent t f x p j y
    by None k h = absurd (cc)
    by (Some s) k h = named s (sent_name f.issues s j) k refl h

-- where there is none, no source made the field
not_computed : (t : Network) (f : Facts) (x : HopName) (p : Contents) (j : ℕ) → ArePackets f → AreApart f.sends → IsPacket p → level_of p.first ≡ L1
    → other_sent t f x p j ≡ None → IsComputed t f (sigma t x) (field1_message p.ts p.src j) → ⊥
unfolding other_sent
not_computed t f x p j packets apart packet level none c =
    let is = packets.sent c.index c.send c.there in
    let same = field1_messages c.send.packet.ts p.ts c.send.packet.src p.src c.hop j is.ts packet.ts is.src packet.src c.message_is in
    let first = one_first c.send.packet.first is.exists c.level ∙ sym (one_first p.first packet.exists level) in
    let alike = (is_sent_like-Decides p c.send).1 ((same.1, same.0), first) in
    let only = sent_alone f p c.index c.send apart c.there alike in
    let named : sent_name f.issues c.send j ≡ Some c.name = subst (λ i. sent_name f.issues c.send i ≡ Some c.name) same.2 c.named in
    let tag = (bytes_eq-Decides (sigma t c.name) (sigma t x)).1 c.sigma_is in
    let some : Some c.name ≡ None =
    sym (ap (λ (b : Bool). if b then Some c.name else None) tag)
    ∙ (sym (ap (option_and_then (λ z. if bytes_eq (sigma t z) (sigma t x) then Some z else None)) (ap (option_and_then (λ r. sent_name f.issues r j)) only ∙ named)) ∙ none) in
    cc

-- ---- the verdict

module _ (t : Network) (f : Facts) (x : HopName) (p : Contents) (j : ℕ) (packets : ArePackets f) (kept : Kept t f) (packet : IsPacket p)
    (level : level_of p.first ≡ L1) (right : has_field t x p j ≡ true) where
  abbrev Reduced : Maker → Type 0
  Reduced m = (IsMade m ↔ IsSourced f x p j) × MakerHolds t f x p j m

  lines : (issue : Option ℕ) (send : Option Sent) (step : Option ℕ) (other : Option HopName)
      → issue_of f.issues x ≡ issue → source_of f x p j ≡ send → least_opened f x f.reveals ≡ step → other_sent t f x p j ≡ other
      → Reduced (maker_lines x issue (option_map (λ s. s.emission) send) step other)
  lines None send step other ei es eo en =
      ((λ h. absurd h, λ s. absurd (unissued f.issues x ei (sourced_issued f x p j s))), unissued f.issues x ei)
  lines (Some issue) (Some send) step other ei es eo en =
      ((λ h. sourced f x p j send es, λ s. tt), made_by_send f x p j send es)
  lines (Some issue) None (Some step) other ei es eo en =
      let least = least_is f x f.reveals step eo in (
        (λ h. absurd h, λ s. absurd (unsourced f x p j es s)),
        record {
          issued = record { number = issue; named = issued f.issues x issue ei };
          not_made = unsourced f x p j es;
          opened = record {
            index = least.index;
            reveal = least.reveal;
            there = least.there;
            holds = least.holds;
            step_is = least.step_is;
            least = least.least;
          };
        },
      )
  lines (Some issue) None None (Some other) ei es eo en =
      let is = other_there t f x p j other en in (
        (λ h. absurd h, λ s. absurd (unsourced f x p j es s)),
        record {
          issued = record { number = issue; named = issued f.issues x issue ei };
          not_made = unsourced f x p j es;
          not_opened = none_opened f x f.reveals eo;
          left_is = refl;
          sent = is.sent;
          differ = λ same. unsourced f x p j es (subst (λ y. IsSourced f y p j) (sym same) is.sent);
          sigma_is = is.sigma_is;
        },
      )
  lines (Some issue) None None None ei es eo en = (
    (λ h. absurd h, λ s. absurd (unsourced f x p j es s)),
    record {
      issued = record { number = issue; named = issued f.issues x issue ei };
      not_made = unsourced f x p j es;
      not_opened = none_opened f x f.reveals eo;
      field_is = right_field t x p j level right;
      not_computed = not_computed t f x p j packets kept.sends.apart packet level en;
    },
  )

  reduced : Reduced (maker_verdict t f x p j)
  unfolding maker_verdict
  reduced = lines (issue_of f.issues x) (source_of f x p j) (least_opened f x f.reveals) (other_sent t f x p j) refl refl refl refl

pub makers_hold : MakersHold
makers_hold t f a g p j packets kept accepted level =
    reduced t f (hop_name a g p j) p j packets kept accepted.packet level accepted.field_right

-- ---- what leaves it as it is

same_facts : (f g : Facts) → f.issues ≡ g.issues → f.sends ≡ g.sends → f.reveals ≡ g.reveals
    → f ≡ record g { passes = f.passes }
same_facts f g a b c i = record { issues = a i; sends = b i; passes = f.passes; reveals = c i }

-- it looks at no accepted hop
module _ (t : Network) (g : Facts) (ps : List Pass) (x : HopName) (p : Contents) (j : ℕ) where
  opened_same : (r : Reveal) → opened_by (record g { passes = ps }) x r ≡ opened_by g x r
  unfolding opened_by is_holder
  opened_same r = refl

  least_same : (rs : List Reveal) → least_opened (record g { passes = ps }) x rs ≡ least_opened g x rs
  least_same [] = refl
  least_same (r ∷ rs) = λ i. lesser (opened_same r i) (least_same rs i)

  pub no_passes : maker_verdict t (record g { passes = ps }) x p j ≡ maker_verdict t g x p j
  unfolding maker_verdict source_of other_sent
  no_passes =
      ap (λ (o : Option ℕ). maker_lines x (issue_of g.issues x) (option_map (λ s. s.emission) (source_of g x p j)) o (other_sent t g x p j))
      (least_same g.reveals)

pub makers_agree : MakersAgree
makers_agree t f g x p j a b c =
    ap (λ (h : Facts). maker_verdict t h x p j) (same_facts f g a b c) ∙ no_passes t g f.passes x p j

pub makers_stay : MakersStay
unfolding facts_of
makers_stay t h e x p j issue send reveal =
    makers_agree t (facts_of (with_event h e)) (facts_of h) x p j
    (none_more as_issue h.events e issue)
    (none_more (as_send h.emissions) h.events e send)
    (none_more as_reveal h.events e reveal)

-- ---- the call

-- a name whose body was read from the packet
pub read_name : (a : AsId) (g : ℕ) (p : Contents) (k : ℕ) (b : Body) → b ≡ body p.route k → record { asn = a; generation = g; body = b } ≡ hop_name a g p k
unfolding hop_name
read_name a g p k b e i = record { asn = a; generation = g; body = e i }

module _ (t : Network) (h : History) (a : AsId) (g : ℕ) (p : Contents) (j : ℕ) (m : Maker) (b : Body)
    (lawful : IsLawful h) (kept : Kept t (facts_of h)) (read : b ≡ body p.route j)
    (found : m ≡ maker_found t (facts_of h) (record { asn = a; generation = g; body = b }) p j) where
  pub answer : m ≡ maker_verdict t (facts_of h) (hop_name a g p j) p j
  answer =
      found
      ∙ (ap (λ x. maker_found t (facts_of h) x p j) (read_name a g p j b read)
      ∙ found_is (facts_of h) p j kept.sends.apart t (hop_name a g p j))

  pub answer_holds : IsAccepted t a g p j → level_of p.first ≡ L1
      → (IsMade m ↔ IsSourced (facts_of h) (hop_name a g p j) p j) × MakerHolds t (facts_of h) (hop_name a g p j) p j m
  answer_holds accepted level =
      subst (λ w. (IsMade w ↔ IsSourced (facts_of h) (hop_name a g p j) p j) × MakerHolds t (facts_of h) (hop_name a g p j) p j w) (sym answer)
      (makers_hold t (facts_of h) a g p j (lawful_packets h lawful) kept accepted level)
