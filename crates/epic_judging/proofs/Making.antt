-- The tests of what was made, and of collisions, decide what they ask.
use Rattle.std.proofs.Common.{◌≡◌, ℕ, zero, suc, ◌<◌, Bool, true, false, List, [], ◌∷◌, refl, ap, sym, ◌∙◌}
use Rattle.std.specs.Bool.{Decides}
use Rattle.std.specs.Prelude.{Some, None, if◌then◌else◌, slice_get, nat_lt}
use Rattle.std.specs.List.{list_any, range_with_len}
use Rattle.std.proofs.lemmas.Bool.{ltb-true, cond-true, cond-false}
use Rattle.std.proofs.lemmas.Bool.Decides.{Decides-eqb, Decides-and, Decides-like, Decides-not}
use Rattle.std.proofs.lemmas.Option.{same_Some}
use Rattle.std.proofs.lemmas.Slice.Eq.{bytes_eq-Decides}
use Rattle.epic_num.specs.declared.hop.HopName.{HopName}
use Rattle.epic_num.specs.declared.name.AsId.{AsId}
use Rattle.epic_num.specs.declared.name.HostId.{HostId}
use Rattle.epic_num.specs.Chains.{Issue, name_of}
use Rattle.epic_num.specs.Levels.{is_tagged, is_updated}
use Rattle.epic_num.specs.Moments.{epoch_of}
use Rattle.epic_num.proofs.SameLaws.{same_as-Decides, same_host-Decides, same_name-Decides}
use Rattle.epic_layout.specs.Contents.{Contents, hop_count}
use Rattle.epic_layout.specs.Spelling.{dest_message}
use Rattle.epic_topo.specs.Network.{Network}
use Rattle.epic_fields.specs.PacketTags.{hop_message}
use Rattle.epic_fields.specs.Tags.{sigma, link}
use Rattle.epic_ledger.specs.Facts.{Facts, Sent, Pass, pass_name, sent_issue, sent_name}
use Rattle.epic_ledger.specs.Queries.{is_send_of}
use Rattle.epic_audit.specs.Collided.{HaveOneLink, HaveOneSigma}
use Rattle.epic_audit.specs.Forged.{IsOnlySend}
use Rattle.epic_audit.specs.Made.{IsMadeField, IsMadeDest, IsGivenOut, sent_updates}
use Rattle.epic_audit.proofs.Decided.{is_send_of-Decides}
use Rattle.epic_audit.proofs.Finds.{any_there, none_there}
use Rattle.epic_audit.proofs.Walked.{range_at}
use Rattle.epic_judging.specs.Given.{makes_at, makes_field, made_field, makes_dest, made_dest, gives_out, given_out, the_only, only_send, one_link, one_sigma}
use Rattle.epic_judging.proofs.Listing.{Passes, passes-Decides, any-Decides}

-- a test that is true, and what a true test is
pub true-Decides : (b : Bool) → Decides b (b ≡ true)
true-Decides b = (λ e. e, λ e. e)

-- ---- fields

-- what it means that a hop's field is made over a message
abbrev MakesAt : Network → List Issue → AsId → List ℕ → Sent → ℕ → Type 0
MakesAt t issues asn message s hop =
    Passes (λ (x : HopName). (x.asn ≡ asn) × (hop_message t x s.packet hop ≡ message)) (sent_name issues s hop)

makes_at-Decides : (t : Network) (issues : List Issue) (asn : AsId) (message : List ℕ) (s : Sent) (hop : ℕ)
    → Decides (makes_at t issues asn message s hop) (MakesAt t issues asn message s hop)
unfolding makes_at
makes_at-Decides t issues asn message s hop =
    passes-Decides _ _
    (λ x. Decides-and _ _ (same_as-Decides x.asn asn) (bytes_eq-Decides (hop_message t x s.packet hop) message))
    (sent_name issues s hop)

-- a packet has names at its hops alone
within : (issues : List Issue) (s : Sent) (hop : ℕ) (x : HopName) → sent_name issues s hop ≡ Some x → hop < hop_count s.packet
unfolding sent_name
within issues s hop x e = by (nat_lt hop (hop_count s.packet)) refl e
  where
    by : (b : Bool) → nat_lt hop (hop_count s.packet) ≡ b → (if b then name_of issues (sent_issue issues s hop) else None) ≡ Some x → hop < hop_count s.packet
    by true h k = ltb-true _ _ h
    by false h k = absurd (cc)

-- what it means of a packet
record MakesField (t : Network) (issues : List Issue) (asn : AsId) (src : HostId) (epoch : ℕ) (message : List ℕ) (s : Sent) : Type 0 where
  src_is : s.packet.src ≡ src
  tagged : is_tagged s.packet.first ≡ true
  epoch_is : epoch_of t.profile s.packet.ts ≡ epoch
  hop : ℕ
  makes : MakesAt t issues asn message s hop

makes_field-Decides : (t : Network) (issues : List Issue) (asn : AsId) (src : HostId) (epoch : ℕ) (message : List ℕ) (s : Sent)
    → Decides (makes_field t issues asn src epoch message s) (MakesField t issues asn src epoch message s)
unfolding makes_field
makes_field-Decides t issues asn src epoch message s =
    Decides-like _
    (λ h. record { src_is = h.0.0.0; tagged = h.0.0.1; epoch_is = h.0.1; hop = h.1.element; makes = h.1.is })
    (λ m. (
      ((m.src_is, m.tagged), m.epoch_is),
      record {
        index = m.hop;
        element = m.hop;
        there = range_at (hop_count s.packet) m.hop (within issues s m.hop m.makes.value m.makes.is);
        is = m.makes;
      },
    ))
    (Decides-and _ _
    (Decides-and _ _
    (Decides-and _ _ (same_host-Decides s.packet.src src) (true-Decides (is_tagged s.packet.first)))
    (Decides-eqb (epoch_of t.profile s.packet.ts) epoch))
    (any-Decides (makes_at t issues asn message s) (MakesAt t issues asn message s) (makes_at-Decides t issues asn message s)
    (range_with_len 0 (hop_count s.packet))))

pub made_field-Decides : (t : Network) (f : Facts) (asn : AsId) (src : HostId) (epoch : ℕ) (message : List ℕ)
    → Decides (made_field t f asn src epoch message) (IsMadeField t f asn src epoch message)
unfolding made_field
made_field-Decides t f asn src epoch message =
    Decides-like _
    (λ a. record {
      index = a.index;
      send = a.element;
      hop = a.is.hop;
      name = a.is.makes.value;
      there = a.there;
      src_is = a.is.src_is;
      tagged = a.is.tagged;
      epoch_is = a.is.epoch_is;
      named = a.is.makes.is;
      asn_is = a.is.makes.passes.0;
      message_is = a.is.makes.passes.1;
    })
    (λ m. record {
      index = m.index;
      element = m.send;
      there = m.there;
      is = record {
        src_is = m.src_is;
        tagged = m.tagged;
        epoch_is = m.epoch_is;
        hop = m.hop;
        makes = record { value = m.name; is = m.named; passes = (m.asn_is, m.message_is) };
      };
    })
    (any-Decides (makes_field t f.issues asn src epoch message) (MakesField t f.issues asn src epoch message)
    (makes_field-Decides t f.issues asn src epoch message) f.sends)

-- ---- destination fields

abbrev MakesDest : Network → List Issue → HostId → HostId → ℕ → List ℕ → Sent → Type 0
MakesDest t issues dst src epoch message s =
    ((((s.packet.src ≡ src) × (s.packet.dst ≡ dst)) × (is_tagged s.packet.first ≡ true)) × (epoch_of t.profile s.packet.ts ≡ epoch))
    × (dest_message s.packet (sent_updates t issues s) ≡ message)

makes_dest-Decides : (t : Network) (issues : List Issue) (dst src : HostId) (epoch : ℕ) (message : List ℕ) (s : Sent)
    → Decides (makes_dest t issues dst src epoch message s) (MakesDest t issues dst src epoch message s)
unfolding makes_dest
makes_dest-Decides t issues dst src epoch message s =
    Decides-and _ _
    (Decides-and _ _
    (Decides-and _ _
    (Decides-and _ _ (same_host-Decides s.packet.src src) (same_host-Decides s.packet.dst dst))
    (true-Decides (is_tagged s.packet.first)))
    (Decides-eqb (epoch_of t.profile s.packet.ts) epoch))
    (bytes_eq-Decides (dest_message s.packet (sent_updates t issues s)) message)

pub made_dest-Decides : (t : Network) (f : Facts) (dst src : HostId) (epoch : ℕ) (message : List ℕ)
    → Decides (made_dest t f dst src epoch message) (IsMadeDest t f dst src epoch message)
unfolding made_dest
made_dest-Decides t f dst src epoch message =
    Decides-like _
    (λ a. let m = a.is in record {
      index = a.index;
      send = a.element;
      there = a.there;
      src_is = m.0.0.0.0;
      dst_is = m.0.0.0.1;
      tagged = m.0.0.1;
      epoch_is = m.0.1;
      message_is = m.1;
    })
    (λ m. record { index = m.index; element = m.send; there = m.there; is = ((((m.src_is, m.dst_is), m.tagged), m.epoch_is), m.message_is) })
    (any-Decides (makes_dest t f.issues dst src epoch message) (MakesDest t f.issues dst src epoch message)
    (makes_dest-Decides t f.issues dst src epoch message) f.sends)

-- ---- updates

abbrev GivesOut : Network → AsId → HostId → ℕ → List ℕ → Pass → Type 0
GivesOut t asn src epoch message w =
    ((((w.asn ≡ asn) × (w.packet.src ≡ src)) × (is_updated w.packet.first ≡ true)) × (epoch_of t.profile w.packet.ts ≡ epoch))
    × (hop_message t (pass_name w) w.packet w.hop ≡ message)

gives_out-Decides : (t : Network) (asn : AsId) (src : HostId) (epoch : ℕ) (message : List ℕ) (w : Pass)
    → Decides (gives_out t asn src epoch message w) (GivesOut t asn src epoch message w)
unfolding gives_out
gives_out-Decides t asn src epoch message w =
    Decides-and _ _
    (Decides-and _ _
    (Decides-and _ _
    (Decides-and _ _ (same_as-Decides w.asn asn) (same_host-Decides w.packet.src src))
    (true-Decides (is_updated w.packet.first)))
    (Decides-eqb (epoch_of t.profile w.packet.ts) epoch))
    (bytes_eq-Decides (hop_message t (pass_name w) w.packet w.hop) message)

pub given_out-Decides : (t : Network) (passes : List Pass) (asn : AsId) (src : HostId) (epoch : ℕ) (message : List ℕ)
    → Decides (given_out t passes asn src epoch message) (IsGivenOut t passes asn src epoch message)
unfolding given_out
given_out-Decides t passes asn src epoch message =
    Decides-like _
    (λ a. let m = a.is in record {
      index = a.index;
      pass = a.element;
      there = a.there;
      asn_is = m.0.0.0.0;
      src_is = m.0.0.0.1;
      level = m.0.0.1;
      epoch_is = m.0.1;
      message_is = m.1;
    })
    (λ m. record { index = m.index; element = m.pass; there = m.there; is = ((((m.asn_is, m.src_is), m.level), m.epoch_is), m.message_is) })
    (any-Decides (gives_out t asn src epoch message) (GivesOut t asn src epoch message) (gives_out-Decides t asn src epoch message) passes)

-- ---- the one packet

-- just this element passes
record Only {X : Type 0} (p : X → Bool) (xs : List X) (x : X) : Type 0 where
  index : ℕ
  there : slice_get xs index ≡ Some x
  passes : p x ≡ true
  alone : (n : ℕ) (y : X) → slice_get xs n ≡ Some y → p y ≡ true → n ≡ index

only_there : {X : Type 0} (p : X → Bool) (xs : List X) (x : X) → the_only p xs ≡ Some x → Only p xs x
unfolding the_only
only_there p [] x e = absurd (cc)
only_there {X} p (y ∷ ys) x e = by (p y) (list_any p ys) refl refl (λ k. only_there p ys x k) e
  where
    lone : (b : p y ≡ true) → list_any p ys ≡ false → (n : ℕ) (z : X) → slice_get (y ∷ ys) n ≡ Some z → p z ≡ true → n ≡ 0
    lone b none zero z there passes = refl
    lone b none (suc n) z there passes = let fails = none_there p ys none n z there in absurd (cc)

    later : Only p ys x → p y ≡ false → (n : ℕ) (z : X) → (o : Only p ys x) → slice_get (y ∷ ys) n ≡ Some z → p z ≡ true → n ≡ suc o.index
    later o b zero z q there passes = let same : y ≡ z = same_Some y z there in let is : p y ≡ true = ap p same ∙ passes in absurd (cc)
    later o b (suc n) z q there passes = ap suc (q.alone n z there passes)

    by : (a b : Bool) → p y ≡ a → list_any p ys ≡ b → (the_only p ys ≡ Some x → Only p ys x)
        → (if a then (if b then None else Some y) else the_only p ys) ≡ Some x → Only p (y ∷ ys) x
    by true true ea eb rest s = absurd (cc)
    by true false ea eb rest s = record { index = 0; there = s; passes = ap p (sym (same_Some y x s)) ∙ ea; alone = lone ea eb }
    by false b ea eb rest s =
        let o = rest s in
        record { index = suc o.index; there = o.there; passes = o.passes; alone = λ n z there passes. later o ea n z o there passes }

only_is : {X : Type 0} (p : X → Bool) (xs : List X) (x : X) → Only p xs x → the_only p xs ≡ Some x
unfolding the_only
only_is p [] x o = let there = o.there in absurd (cc)
only_is {X} p (y ∷ ys) x o = by o.index o.there o.alone (λ q. only_is p ys x q)
  where
    none_more : (n : ℕ) → n ≡ 0 → ((m : ℕ) (z : X) → slice_get (y ∷ ys) m ≡ Some z → p z ≡ true → m ≡ n) → (b : Bool) → list_any p ys ≡ b → b ≡ false
    none_more n e alone false h = refl
    none_more n e alone true h =
        let a = any-of h in
        let is = alone (suc a.0) a.1 a.2 a.3 in
        absurd (cc)
      where
        any-of : list_any p ys ≡ true → (k : ℕ) × (z : X) × (slice_get ys k ≡ Some z) × (p z ≡ true)
        any-of k = any_there p ys k

    by : (n : ℕ) → slice_get (y ∷ ys) n ≡ Some x → ((m : ℕ) (z : X) → slice_get (y ∷ ys) m ≡ Some z → p z ≡ true → m ≡ n)
        → (Only p ys x → the_only p ys ≡ Some x) → the_only p (y ∷ ys) ≡ Some x
    by zero there alone rest =
        let same : y ≡ x = same_Some y x there in
        let first : p y ≡ true = ap p same ∙ o.passes in
        let more : list_any p ys ≡ false = none_more 0 refl alone (list_any p ys) refl in
        cond-true (p y) (if list_any p ys then None else Some y) (the_only p ys) first
        ∙ (cond-false (list_any p ys) None (Some y) more ∙ ap Some same)
    by (suc n) there alone rest =
        cond-false (p y) (if list_any p ys then None else Some y) (the_only p ys) (first (p y) refl)
        ∙ rest (record { index = n; there = there; passes = o.passes; alone = λ m z at passes. down m n (alone (suc m) z at passes) })
      where
        down : (m k : ℕ) → suc m ≡ suc k → m ≡ k
        down m k e = cc

        first : (b : Bool) → p y ≡ b → b ≡ false
        first false e = refl
        first true e = let is = alone 0 y refl e in absurd (cc)

pub only_send-there : (sends : List Sent) (p : Contents) (s : Sent) → only_send sends p ≡ Some s → IsOnlySend sends p s
unfolding only_send
only_send-there sends p s e =
    let o = only_there (is_send_of p.src p.ts) sends s e in
    let is = (is_send_of-Decides p s).0 o.passes in
    record {
      index = o.index;
      there = o.there;
      src_is = is.0;
      ts_is = is.1;
      alone = λ n other at src ts. o.alone n other at ((is_send_of-Decides p other).1 (src, ts));
    }

pub only_send-is : (sends : List Sent) (p : Contents) (s : Sent) → IsOnlySend sends p s → only_send sends p ≡ Some s
unfolding only_send
only_send-is sends p s o =
    only_is (is_send_of p.src p.ts) sends s
    (record {
      index = o.index;
      there = o.there;
      passes = (is_send_of-Decides p s).1 (o.src_is, o.ts_is);
      alone = λ n y at passes. let is = (is_send_of-Decides p y).0 passes in o.alone n y at is.0 is.1;
    })

-- ---- collisions

pub one_link-Decides : (t : Network) (x y : HopName) → Decides (one_link t x y) (HaveOneLink t x y)
unfolding one_link
one_link-Decides t x y =
    Decides-like _
    (λ h. record { differ = h.0; link_is = h.1 })
    (λ c. (c.differ, c.link_is))
    (Decides-and _ _ (Decides-not _ (same_name-Decides x y)) (bytes_eq-Decides (link t x) (link t y)))

pub one_sigma-Decides : (t : Network) (x y : HopName) → Decides (one_sigma t x y) (HaveOneSigma t x y)
unfolding one_sigma
one_sigma-Decides t x y =
    Decides-like _
    (λ h. record { differ = h.0.0; asn_is = h.0.1; sigma_is = h.1 })
    (λ c. ((c.differ, c.asn_is), c.sigma_is))
    (Decides-and _ _
    (Decides-and _ _ (Decides-not _ (same_name-Decides x y)) (same_as-Decides x.asn y.asn))
    (bytes_eq-Decides (sigma t x) (sigma t y)))
