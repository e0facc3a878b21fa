-- What it means of any verdict, whoever gave it, that it is true of a hop or of a destination.
use Rattle.std.specs.Prelude.{◌≡◌, ◌⊎◌, ℕ, true, false, [], ◌∷◌, Some, option_map}
use Rattle.std.specs.Bool.{MatchBool}
use Rattle.epic_num.specs.declared.hop.HopName.{HopName}
use Rattle.epic_num.specs.declared.name.AsId.{AsId}
use Rattle.epic_num.specs.declared.key_name.Holder.TheVariants.{As}
use Rattle.epic_num.specs.declared.key_name.KeyName.TheVariants.{Fwd}
use Rattle.epic_num.specs.declared.verdict.Collision.{Collision}
use Rattle.epic_num.specs.declared.verdict.Forgery.{Forgery}
use Rattle.epic_num.specs.declared.verdict.ForgedKind.{ForgedKind}
use Rattle.epic_num.specs.declared.verdict.ForgedKind.TheVariants as kind
use Rattle.epic_num.specs.declared.verdict.Part.{Part}
use Rattle.epic_num.specs.declared.verdict.Part.TheVariants.{Link, Sigma}
use Rattle.epic_num.specs.declared.verdict.Verdict.{Verdict}
use Rattle.epic_num.specs.declared.verdict.Verdict.TheVariants.{Proved, Unclaimed, Opened, Forged, Collided}
use Rattle.epic_num.specs.Holders.{holders}
use Rattle.epic_num.specs.Levels.{is_tagged}
use Rattle.epic_layout.specs.Contents.{Contents}
use Rattle.epic_topo.specs.Network.{Network}
use Rattle.epic_fields.specs.HopChecks.{hop_name}
use Rattle.epic_fields.specs.PacketTags.{field_name, dest_name}
use Rattle.epic_ledger.specs.Facts.{Facts}
use Rattle.epic_ledger.specs.Queries.{issue_of}
use Rattle.epic_num.specs.Levels.{is_timed}
use Rattle.epic_audit.specs.Clauses.{IsIssued, IsChained, IsSourced, HopOk, sent_as, DestOk}
use Rattle.epic_audit.specs.Collided.{HaveOneLink, HaveOneSigma}
use Rattle.epic_audit.specs.Forged.{IsForgedIssue, IsForgedField, IsForgedUpdate, IsForgedDest}
use Rattle.epic_audit.specs.Reveals.{IsRevealedAt}
use Rattle.epic_audit.specs.declared.uncovered.Uncovered.{Uncovered}
use Rattle.epic_audit.specs.Verdicts.{twin_issue, broken_chain, source_of, twin_sent, uncovered, has_update, twin_pass}

-- ---- hops

-- the provenance is there; the issue is the first of the name, and at levels 2 and 3 the packet the first that was so sent
pub record HopProved (f : Facts) (x : HopName) (p : Contents) (j issue send : ℕ) : Type 0 where
  pub provenance : HopOk f x p j
  pub issue_is : issue_of f.issues x ≡ Some issue
  pub send_is : MatchBool (is_tagged p.first) (option_map (λ s. s.emission) (source_of f x p j) ≡ Some send) (send ≡ 0)

-- the hop wasn't issued, and its AS was revealed at this step
pub record IssueOpened (f : Facts) (x : HopName) (step : ℕ) : Type 0 where
  pub not_issued : IsIssued f.issues x → ⊥
  pub revealed : IsRevealedAt f.reveals (As x.asn ∷ []) step

-- the hop was issued and is chained, its field wasn't made by the source, and a holder of its key was revealed at this step
pub record FieldOpened (t : Network) (f : Facts) (x : HopName) (p : Contents) (j step : ℕ) : Type 0 where
  pub issued : IsIssued f.issues x
  pub chained : IsChained f x p j
  pub tagged : is_tagged p.first ≡ true
  pub not_sourced : IsSourced f x p j → ⊥
  pub revealed : IsRevealedAt f.reveals (holders (field_name t x.asn p)) step

pub record IssueForged (t : Network) (f : Facts) (x : HopName) (p : Contents) (j : ℕ) (r : Forgery) : Type 0 where
  pub no_provenance : HopOk f x p j → ⊥
  pub forged : IsForgedIssue t f x p j
  pub hop_is : r.hop ≡ j
  pub key_is : r.key ≡ Fwd x.asn x.generation
  pub generation_is : r.generation ≡ x.generation

pub record FieldForged (t : Network) (f : Facts) (x : HopName) (p : Contents) (j : ℕ) (r : Forgery) : Type 0 where
  pub no_provenance : HopOk f x p j → ⊥
  pub forged : IsForgedField t f x p j
  pub hop_is : r.hop ≡ j
  pub key_is : r.key ≡ field_name t x.asn p
  pub generation_is : r.generation ≡ x.generation

abbrev pub HopForged : Network → Facts → HopName → Contents → ℕ → Forgery → ForgedKind → Type 0
HopForged t f x p j r kind.Issue = IssueForged t f x p j r
HopForged t f x p j r kind.Field = FieldForged t f x p j r
HopForged t f x p j r kind.Update = ⊥
HopForged t f x p j r kind.Dest = ⊥

-- the hop wasn't issued, and the first issue with its authenticator, at levels 1 to 3, is that of the right name
pub record CollidedWithIssue (t : Network) (f : Facts) (x : HopName) (p : Contents) (c : Collision) : Type 0 where
  pub not_issued : IsIssued f.issues x → ⊥
  pub level : is_timed p.first ≡ true
  pub left_is : c.left ≡ x
  pub right_is : twin_issue t f x p ≡ Some c.right
  pub collided : HaveOneSigma t c.left c.right

-- the hop isn't chained, and these are the two names at which the chain breaks
pub record CollidedInChain (t : Network) (f : Facts) (x : HopName) (p : Contents) (j : ℕ) (c : Collision) : Type 0 where
  pub not_chained : IsChained f x p j → ⊥
  pub pair_is : broken_chain f x p j ≡ Some (c.left, c.right)
  pub collided : HaveOneLink t c.left c.right

-- the field wasn't made by the source, and the packet that was sent has the right name in the hop's place
pub record CollidedWithSend (t : Network) (f : Facts) (x : HopName) (p : Contents) (j : ℕ) (c : Collision) : Type 0 where
  pub tagged : is_tagged p.first ≡ true
  pub not_sourced : IsSourced f x p j → ⊥
  pub left_is : c.left ≡ x
  pub right_is : twin_sent t f x p j ≡ Some c.right
  pub collided : HaveOneSigma t c.left c.right

abbrev pub HopCollided : Network → Facts → HopName → Contents → ℕ → Collision → Part → Type 0
HopCollided t f x p j c Sigma = CollidedWithIssue t f x p c ⊎ CollidedWithSend t f x p j c
HopCollided t f x p j c Link = CollidedInChain t f x p j c

-- the verdict is true of hop j, whose name is x
abbrev pub HoldsOfHop : Network → Facts → HopName → Contents → ℕ → Verdict → Type 0
HoldsOfHop t f x p j (Proved issue send) = HopProved f x p j issue send
HoldsOfHop t f x p j Unclaimed = ⊥
HoldsOfHop t f x p j (Opened step) = IssueOpened f x step ⊎ FieldOpened t f x p j step
HoldsOfHop t f x p j (Forged r) = HopForged t f x p j r r.kind
HoldsOfHop t f x p j (Collided c) = HopCollided t f x p j c c.part

-- ---- destinations

-- the provenance is there, and the packet is the first that was so sent
pub record DestProved (f : Facts) (p : Contents) (issue send : ℕ) : Type 0 where
  pub tagged : is_tagged p.first ≡ true
  pub provenance : DestOk f p
  pub issue_is : issue ≡ 0
  pub send_is : option_map (λ s. s.emission) (sent_as f.sends p) ≡ Some send

pub record DestOpened (t : Network) (f : Facts) (p : Contents) (step : ℕ) : Type 0 where
  pub tagged : is_tagged p.first ≡ true
  pub no_provenance : DestOk f p → ⊥
  pub revealed : IsRevealedAt f.reveals (holders (dest_name t p)) step

-- the key is that of a hop of this AS, whose name is of the generation
pub record UpdateForged (t : Network) (f : Facts) (p : Contents) (r : Forgery) : Type 0 where
  pub asn : AsId
  pub no_provenance : DestOk f p → ⊥
  pub forged : IsForgedUpdate t f (hop_name asn r.generation p r.hop) p r.hop
  pub key_is : r.key ≡ field_name t asn p

pub record DestForged (t : Network) (f : Facts) (p : Contents) (r : Forgery) : Type 0 where
  pub no_provenance : DestOk f p → ⊥
  pub forged : IsForgedDest t f p
  pub hop_is : r.hop ≡ 0
  pub key_is : r.key ≡ dest_name t p
  pub generation_is : r.generation ≡ 0

abbrev pub ArrivalForged : Network → Facts → Contents → Forgery → ForgedKind → Type 0
ArrivalForged t f p r kind.Update = UpdateForged t f p r
ArrivalForged t f p r kind.Dest = DestForged t f p r
ArrivalForged t f p r kind.Issue = ⊥
ArrivalForged t f p r kind.Field = ⊥

-- The packet was sent so; at the first hop that isn't covered it has the update, and the first hop of the same AS and
-- authenticator that was accepted there is that of the left name.
pub record CollidedWithPass (t : Network) (f : Facts) (p : Contents) (c : Collision) : Type 0 where
  pub tagged : is_tagged p.first ≡ true
  pub hop : Uncovered
  pub first_hop : uncovered f p ≡ Some hop
  pub updated : has_update t p hop ≡ true
  pub left_is : twin_pass t f p hop ≡ Some c.left
  pub right_is : c.right ≡ hop.name
  pub collided : HaveOneSigma t c.left c.right

abbrev pub ArrivalCollided : Network → Facts → Contents → Collision → Part → Type 0
ArrivalCollided t f p c Sigma = CollidedWithPass t f p c
ArrivalCollided t f p c Link = ⊥

-- the verdict is true of the packet at its destination
abbrev pub HoldsOfDest : Network → Facts → Contents → Verdict → Type 0
HoldsOfDest t f p (Proved issue send) = DestProved f p issue send
HoldsOfDest t f p Unclaimed = is_tagged p.first ≡ false
HoldsOfDest t f p (Opened step) = DestOpened t f p step
HoldsOfDest t f p (Forged r) = ArrivalForged t f p r r.kind
HoldsOfDest t f p (Collided c) = ArrivalCollided t f p c c.part

-- ---- both

-- what a verdict is of: a hop, at a router of an AS that accepted it under a generation of its key; or the destination
pub data Subject : Type 0 where
  AtHop : AsId → ℕ → ℕ → Subject
  AtDest : Subject

-- the verdict is true
abbrev pub Holds : Network → Facts → Contents → Subject → Verdict → Type 0
Holds t f p (AtHop a generation j) v = HoldsOfHop t f (hop_name a generation p j) p j v
Holds t f p AtDest v = HoldsOfDest t f p v
