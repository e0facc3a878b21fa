-- The bytes that a source has used, and the bytes of all its packets.
use Rattle.std.proofs.Common.{◌≡◌, ℕ, ◌+◌, ◌≤◌, refl, ◌∙◌, ap, List, [], ◌∷◌, ◌++◌, Bool, true, false, cond, ◌&&◌, arith}
use Rattle.std.specs.Prelude.{filter, sum_by, nat_lt}
use Rattle.std.proofs.lemmas.Bool.{ltb-false, false_from_ne_true, ltb-true}
use Rattle.std.proofs.lemmas.List.Sums.{sum_by-cons, sum_by_push}
use Rattle.epic_num.specs.declared.name.AsId.{AsId}
use Rattle.epic_num.specs.Same.{same_as}
use Rattle.epic_policer.specs.Kept.{total}
use Rattle.epic_policer.specs.Offers.{Same, is_live, used, after}
use Rattle.epic_policer.specs.Queue.{AllLive}
use Rattle.epic_policer.specs.declared.packet.Packet.{Packet}
use Rattle.epic_policer.specs.declared.policed.Policed.{Policed}
use Rattle.epic_policer.specs.declared.policed.Policed.TheVariants.{Pass, Over, Unknown}

-- the bytes of a packet that pass a test
abbrev pub worth : Bool → Packet → ℕ
worth b p = cond {A = ℕ} b p.bytes 0

abbrev pub counts : ℕ → ℕ → AsId → Packet → Bool
counts span now source p = same_as p.source source && is_live span now p

filter_worth : (b : Bool) (p : Packet) (ps : List Packet) → sum_by (λ (q : Packet). q.bytes) (cond b (p ∷ ps) ps) ≡ worth b p + sum_by (λ (q : Packet). q.bytes) ps
filter_worth true p ps = sum_by-cons (λ (q : Packet). q.bytes) p ps
filter_worth false p ps = omega arith

pub used-none : (span now : ℕ) (source : AsId) → used span [] now source ≡ 0
unfolding used
used-none span now source = refl

pub used-cons : (span now : ℕ) (source : AsId) (p : Packet) (ps : List Packet) → used span (p ∷ ps) now source ≡ worth (counts span now source p) p + used span ps now source
unfolding used
used-cons span now source p ps = filter_worth (counts span now source p) p (filter (counts span now source) ps)

pub used-push : (span now : ℕ) (source : AsId) (p : Packet) (ps : List Packet) → used span (ps ++ p ∷ []) now source ≡ used span ps now source + worth (counts span now source p) p
used-push span now source p [] = omega (arith, used-cons span now source p [], used-none span now source)
used-push span now source p (q ∷ ps) =
    omega (arith, used-cons span now source q (ps ++ p ∷ []), used-cons span now source q ps, used-push span now source p ps)

pub total-none : (source : AsId) → total [] source ≡ 0
unfolding total
total-none source = refl

pub total-cons : (source : AsId) (p : Packet) (ps : List Packet) → total (p ∷ ps) source ≡ worth (same_as p.source source) p + total ps source
unfolding total
total-cons source p ps = sum_by-cons (λ (q : Packet). worth (same_as q.source source) q) p ps

pub total-push : (source : AsId) (p : Packet) (ps : List Packet) → total (ps ++ p ∷ []) source ≡ total ps source + worth (same_as p.source source) p
unfolding total
total-push source p ps = sum_by_push (λ (q : Packet). worth (same_as q.source source) q) ps p

and_yes : (a b : Bool) → b ≡ true → (a && b) ≡ a
and_yes true b e = e
and_yes false b e = refl

and_never : (a b : Bool) → b ≡ false → (a && b) ≡ false
and_never true b e = e
and_never false b e = refl

-- where all are live, a source has used the bytes of all its packets
pub used_all : (span now : ℕ) (source : AsId) (ps : List Packet) → AllLive span now ps → used span ps now source ≡ total ps source
used_all span now source [] live = omega (arith, used-none span now source, total-none source)
used_all span now source (p ∷ ps) live =
    let e : worth (counts span now source p) p ≡ worth (same_as p.source source) p = ap (λ b. worth b p) (and_yes (same_as p.source source) (is_live span now p) live.0) in
    omega (arith, used-cons span now source p ps, total-cons source p ps, used_all span now source ps live.1, e)

pub Same-refl : (span from : ℕ) (ps : List Packet) → Same span from ps ps
Same-refl span from ps = record { used_is = λ now source le. refl }

pub Same-trans : (span from : ℕ) (ps qs rs : List Packet) → Same span from ps qs → Same span from qs rs → Same span from ps rs
Same-trans span from ps qs rs a b = record { used_is = λ now source le. a.used_is now source le ∙ b.used_is now source le }

pub Same-later : (span from later : ℕ) (ps qs : List Packet) → from ≤ later → Same span from ps qs → Same span later ps qs
Same-later span from later ps qs le a = record { used_is = λ now source l. a.used_is now source (omega (arith, le, l)) }

stays_dead : (span from now : ℕ) (p : Packet) → from ≤ now → is_live span from p ≡ false → is_live span now p ≡ false
unfolding is_live
stays_dead span from now p le dead =
    let over = ltb-false from (p.moment + span) dead in
    false_from_ne_true (nat_lt now (p.moment + span)) (λ e. let lt = ltb-true now (p.moment + span) e in absurd (omega (arith, le, over, lt)))

-- a packet that is over uses nothing any more
pub Same-dead : (span from : ℕ) (p : Packet) (ps : List Packet) → is_live span from p ≡ false → Same span from ps (p ∷ ps)
Same-dead span from p ps dead = record {
  used_is = λ now source le.
      let e : worth (counts span now source p) p ≡ 0 = ap (λ b. worth b p) (and_never (same_as p.source source) (is_live span now p) (stays_dead span from now p le dead)) in
      omega (arith, used-cons span now source p ps, e);
}

-- one more packet at the end of a list, and at the front of another
pub Same-put : (span from : ℕ) (p : Packet) (ps qs : List Packet) → Same span from ps qs → Same span from (ps ++ p ∷ []) (p ∷ qs)
Same-put span from p ps qs same = record {
  used_is = λ now source le. omega (arith, used-push span now source p ps, used-cons span now source p qs, same.used_is now source le);
}

pub Same-after : (span from : ℕ) (p : Packet) (given : Policed) (ps qs : List Packet) → Same span from ps qs → Same span from (after ps p given) (after qs p given)
Same-after span from p (Pass n) ps qs same = record {
  used_is = λ now source le. omega (arith, used-cons span now source p ps, used-cons span now source p qs, same.used_is now source le);
}
Same-after span from p (Over n) ps qs same = same
Same-after span from p Unknown ps qs same = same
