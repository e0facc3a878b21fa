-- A reader goes on by a record or by a piece of a file, and ends.
use Rattle.std.proofs.Common.{◌≡◌, ℕ, ◌+◌, ◌-◌, ◌<◌, ◌≤◌, Bool, min, List, [], ◌∷◌, ◌++◌, length, take, Option, Some, None, Result, Ok, Err, refl, sym, ap, subst, ◌∙◌, inr, append_assoc, append-nil, length-append, take_all, arith}
use Rattle.epic_capture.specs.Records.{Captured, Records, damaged}
use Rattle.epic_capture.specs.Streams.{Follows, Stream, first_of, first as first_in, next as next_in}
use Rattle.epic_capture.specs.Seen.{seen}
use Rattle.epic_capture.specs.declared.record.Record.{Record}
use Rattle.epic_ports.specs.Faults.{CountsOnly, Rose}
use Rattle.epic_ports.specs.Files.{Files}
use Rattle.epic_ports.specs.declared.error.PortError.{PortError}
use Rattle.epic_feed.specs.declared.damage.Damage.{Damage}
use Rattle.epic_feed.specs.declared.feeding.FeedError.{FeedError}
use Rattle.epic_feed.specs.declared.feeding.FeedError.TheVariants.{Damaged, Failed, Stopped, OutOfMemory}
use Rattle.epic_feed.specs.Feeding.{Source, OfFile, TookAll, Feeds}
use Rattle.epic_feed.specs.Files.{Holds, SameFile}
use Rattle.epic_feed.specs.Taking.{captured_of}
use Rattle.epic_feed.specs.Going.{Going, FedMore, EndsSo, with_records}
use Rattle.epic_feed.proofs.Fronts.{Behind, behind_piece, begins_so}

-- ---- the beginning

pub going_start : {R E : Type 0} (stream : Stream R E) (contents : Option Files) (name first : List ℕ) (start now : R) (k room : ℕ) (took : List Captured → Type 0)
    → stream.held start ≡ [] → stream.fed start ≡ 0 → length first ≤ 4100 → 4100 ≤ stream.size → (rest : List ℕ) → Holds contents name (first ++ rest)
    → k ≡ min (length first) (stream.size - length (stream.held start)) → length (stream.held now) ≡ length (stream.held start) + k
    → stream.fed now ≡ stream.fed start + k → ((back : List ℕ) → stream.to_come now back ≡ stream.to_come start (take k first ++ back))
    → 262144 ≤ room → took [] → Going stream contents name first start now k room took
going_start stream contents name first start now k room took none nothing short large rest holds count held fed bytes many did =
    let empty : length (stream.held start) ≡ 0 = ap length none in
    let all : k ≡ length first = grind (arith, count, empty, short, large) in
    let whole : take k first ≡ first = take_all k first (omega (arith, all)) in
    record {
      items = [];
      more = [];
      rest = rest;
      holds = let P : List ℕ → Type 0 = λ front. Holds contents name (front ++ rest) in subst P (sym (append-nil first)) holds;
      same = λ back. ap (λ front. stream.to_come start (front ++ back)) (append-nil first ∙ sym whole) ∙ sym (bytes back);
      at_is = ap length (append-nil first) ∙ sym all;
      fed = omega (arith, fed, nothing);
      far = omega (arith, all, short);
      held = omega (arith, held, empty, all, short, large);
      left = omega (arith, many);
      did = did;
    }

no_bytes : (xs : List ℕ) → length xs ≡ 0 → xs ≡ []
no_bytes [] none = refl
no_bytes (x ∷ xs) none = absurd (omega (arith, none))

-- no record stands first where none is told
no_item : {E : Type 0} (early : E → Bool) (items : List Captured) (damage : Option E)
    → ◌≡◌ {A = Result (Option Captured) E} (first_of early items damage) (Ok None) → items ≡ []
no_item early [] damage is = refl
no_item early (x ∷ xs) damage is = absurd (cc)

module _ {R : Type 0} (stream : Stream R Damage) (contents : Option Files) (name first : List ℕ) (start now : R) (at room : ℕ)
    (took : List Captured → Type 0) (g : Going stream contents name first start now at room took) where
  -- what is read
  abbrev source : Source
  source = record { contents = contents; name = name; first = first; read = λ bytes. stream.to_come start bytes }

  -- ---- a record more

  pub going_record : (x : Captured) (next : R) (still : ℕ) (taking : List Captured → Type 0) → Follows stream now (Ok (Some x)) next
      → room ≤ still + 1 → taking (g.items ++ x ∷ []) → Going stream contents name first start next at still taking
  going_record x next still taking follows rooms did = record {
    items = g.items ++ x ∷ [];
    more = g.more;
    rest = g.rest;
    holds = g.holds;
    same = λ back. g.same back ∙ (ap (with_records g.items) (follows.same back)
        ∙ ap (λ (xs : List Captured). record { items = xs; damage = (stream.to_come next back).damage }) (sym (append_assoc g.items (x ∷ []) (stream.to_come next back).items)));
    at_is = g.at_is;
    fed = follows.fed ∙ g.fed;
    far = g.far;
    held = omega (arith, g.held, follows.fewer x refl);
    left = omega (arith, g.left, rooms, length-append g.items (x ∷ []));
    did = did;
  }

  -- the items are those before and behind a record
  around : (x : Captured) (next : R) → Follows stream now (Ok (Some x)) next
      → (stream.to_come start ((first ++ g.more) ++ g.rest)).items ≡ g.items ++ x ∷ (stream.to_come next g.rest).items
  around x next follows = ap (λ (r : Records Damage). r.items) (g.same g.rest) ∙ ap (λ (r : Records Damage). g.items ++ r.items) (follows.same g.rest)

  -- there is room for it
  pub has_room : (x : Captured) (next : R) → ((bytes : List ℕ) → length (stream.to_come start bytes).items ≤ 262144)
      → Follows stream now (Ok (Some x)) next → 0 < room
  has_room x next few follows =
      omega (arith, g.left, few ((first ++ g.more) ++ g.rest), ap length (around x next follows), length-append g.items (x ∷ (stream.to_come next g.rest).items))

  assoc : (first ++ g.more) ++ g.rest ≡ first ++ (g.more ++ g.rest)
  assoc = append_assoc first g.more g.rest

  held_so : Holds contents name (first ++ (g.more ++ g.rest))
  held_so = let P : List ℕ → Type 0 = λ bytes. Holds contents name bytes in subst P assoc g.holds

  pub feeds_stopped : (X : Type 0) (x : Captured) (next : R) (before after : ℕ) (tooks : List Captured → Type 0) (stopped : List Captured → Captured → PortError → Type 0) (e : PortError)
      → Follows stream now (Ok (Some x)) next → stopped g.items x e → Feeds {X = X} source before after tooks stopped (Err (Stopped e))
  feeds_stopped X x next before after tooks stopped e follows stops = (
    g.more ++ g.rest,
    held_so,
    record {
      front = g.items;
      at = x;
      back = (stream.to_come next g.rest).items;
      order = ap (λ bytes. (stream.to_come start bytes).items) (sym assoc) ∙ around x next follows;
      stops = stops;
    },
  )

  -- ---- damage

  pub feeds_damaged : (X : Type 0) (e : Damage) (next : R) (before after : ℕ) (tooks : List Captured → Type 0) (stopped : List Captured → Captured → PortError → Type 0)
      → Follows stream now (Err e) next → tooks g.items → Feeds {X = X} source before after tooks stopped (Err (Damaged e))
  feeds_damaged X e next before after tooks stopped follows did =
      let is : stream.to_come start (first ++ (g.more ++ g.rest)) ≡ with_records g.items (damaged e) =
      ap (stream.to_come start) (sym assoc) ∙ (g.same g.rest ∙ ap (with_records g.items) (follows.same g.rest)) in (
        g.more ++ g.rest,
        held_so,
        record {
          whole = ap (λ (r : Records Damage). r.damage) is;
          taken = subst tooks (sym (ap (λ (r : Records Damage). r.items) is ∙ append-nil g.items)) did;
        },
      )

  -- ---- no further record

  module _ (mid : R) (follows : Follows stream now (Ok None) mid) where
    -- and none with no further byte
    done_items : (stream.to_come start (first ++ g.more)).items ≡ g.items
    done_items =
        ap (λ bytes. (stream.to_come start bytes).items) (sym (append-nil (first ++ g.more)))
        ∙ (ap (λ (r : Records Damage). r.items) (g.same [])
        ∙ (ap (λ (r : Records Damage). g.items ++ r.items) (follows.same [])
        ∙ (ap (λ xs. g.items ++ xs) (no_item stream.is_early (stream.to_come mid []).items (stream.to_come mid []).damage (follows.again refl)) ∙ append-nil g.items)))

    pub feeds_failed : (X : Type 0) (before after : ℕ) (tooks : List Captured → Type 0) (stopped : List Captured → Captured → PortError → Type 0)
        → Rose before after → tooks g.items → Feeds {X = X} source before after tooks stopped (Err Failed)
    feeds_failed X before after tooks stopped rose did = (
      (
        g.more,
        begins_so contents name (first ++ g.more) g.rest g.holds,
        subst tooks (sym done_items) did,
      ),
      rose,
    )

    pub feeds_memory : (X : Type 0) (before after : ℕ) (tooks : List Captured → Type 0) (stopped : List Captured → Captured → PortError → Type 0)
        → tooks g.items → Feeds {X = X} source before after tooks stopped (Err OutOfMemory)
    feeds_memory X before after tooks stopped did = inr (
      g.more ++ g.rest,
      held_so,
      record {
        front = g.items;
        back = (stream.to_come now g.rest).items;
        order = ap (λ bytes. (stream.to_come start bytes).items) (sym assoc) ∙ ap (λ (r : Records Damage). r.items) (g.same g.rest);
        taken = did;
      },
    )

    -- more bytes are fed
    module _ (store : Option Files) (n : ℕ) (later : R) (small : stream.size ≤ 65536) (kept : SameFile name contents store) (fed : FedMore stream store name at n mid later) where
      behind : Behind contents name (first ++ g.more) fed.piece
      behind = behind_piece contents store name (first ++ g.more) g.rest at fed.piece g.holds kept g.at_is fed.are

      pub going_more : (taking : List Captured → Type 0) → taking g.items → Going stream contents name first start later (at + n) room taking
      going_more taking did =
          let split : first ++ (g.more ++ fed.piece) ≡ (first ++ g.more) ++ fed.piece = sym (append_assoc first g.more fed.piece) in
          record {
            items = g.items;
            more = g.more ++ fed.piece;
            rest = behind.rest;
            holds = let P : List ℕ → Type 0 = λ bytes. Holds contents name bytes in
                subst P (sym (ap (λ bytes. bytes ++ behind.rest) split ∙ append_assoc (first ++ g.more) fed.piece behind.rest)) behind.holds;
            same = λ back. ap (stream.to_come start) (ap (λ bytes. bytes ++ back) split ∙ append_assoc (first ++ g.more) fed.piece back)
                ∙ (g.same (fed.piece ++ back) ∙ ap (with_records g.items) (follows.same (fed.piece ++ back) ∙ sym (fed.bytes back)));
            at_is = ap length split ∙ (length-append (first ++ g.more) fed.piece ∙ (λ k. g.at_is k + fed.count k));
            fed = fed.fed ∙ ap (λ m. m + n) (follows.fed ∙ g.fed);
            far = omega (arith, follows.limit refl, follows.fed, g.fed, fed.held, fed.room, small);
            held = fed.room;
            left = g.left;
            did = did;
          }

      -- no byte is left
      pub feeds_end : (X : Type 0) (before after : ℕ) (tooks : List Captured → Type 0) (stopped : List Captured → Captured → PortError → Type 0) (r : Result X FeedError)
          → n ≡ 0 → tooks g.items → EndsSo (stream.to_come later []) r → Feeds {X = X} source before after tooks stopped r
      feeds_end X before after tooks stopped r none did ends = by r ends
        where
          nothing : fed.piece ≡ []
          nothing = no_bytes fed.piece (fed.count ∙ none)

          whole_file : Holds contents name (first ++ g.more)
          whole_file = behind.end (fed.count ∙ none)

          is : stream.to_come start (first ++ g.more) ≡ with_records g.items (stream.to_come later [])
          is =
              ap (stream.to_come start) (sym (append-nil (first ++ g.more)))
              ∙ (g.same [] ∙ ap (with_records g.items) (follows.same [] ∙ (ap (λ piece. stream.to_come mid (piece ++ [])) (sym nothing) ∙ sym (fed.bytes []))))

          so : (damage : Option Damage) → stream.to_come later [] ≡ record { items = []; damage = damage } → OfFile source (TookAll tooks damage)
          so damage end = (
            g.more,
            whole_file,
            record {
              whole = ap (λ (r : Records Damage). r.damage) is ∙ ap (λ (r : Records Damage). r.damage) end;
              taken = subst tooks (sym (ap (λ (r : Records Damage). r.items) is ∙ (ap (λ (r : Records Damage). g.items ++ r.items) end ∙ append-nil g.items))) did;
            },
          )

          by : (r : Result X FeedError) → EndsSo (stream.to_come later []) r → Feeds {X = X} source before after tooks stopped r
          by (Ok x) end = so None end
          by (Err (Damaged e)) end = so (Some e) end
          by (Err Failed) end = absurd end
          by (Err (Stopped e)) end = absurd end
          by (Err OutOfMemory) end = absurd end

-- ---- what a reader answered

pub follows_some : {R : Type 0} (stream : Stream R Damage) (old new : R) (r : Result (Option Record) Damage) (o : Option Record) (found : Record)
    → r ≡ Ok o → o ≡ Some found → Follows stream old (seen r) new → Follows stream old (Ok (Some (captured_of found))) new
follows_some stream old new r o found is some f = subst (λ (q : Result (Option Record) Damage). Follows stream old (seen q) new) (is ∙ ap (λ (p : Option Record). Ok p) some) f

pub follows_none : {R : Type 0} (stream : Stream R Damage) (old new : R) (r : Result (Option Record) Damage) (o : Option Record)
    → r ≡ Ok o → o ≡ None → Follows stream old (seen r) new → Follows stream old (Ok None) new
follows_none stream old new r o is none f = subst (λ (q : Result (Option Record) Damage). Follows stream old (seen q) new) (is ∙ ap (λ (p : Option Record). Ok p) none) f

pub follows_err : {R : Type 0} (stream : Stream R Damage) (old new : R) (r : Result (Option Record) Damage) (e : Damage)
    → r ≡ Err e → Follows stream old (seen r) new → Follows stream old (Err e) new
follows_err stream old new r e is f = subst (λ (q : Result (Option Record) Damage). Follows stream old (seen q) new) is f

-- none is told still, where no byte was fed
pub still_none : {R : Type 0} (stream : Stream R Damage) (store : Option Files) (name : List ℕ) (at n : ℕ) (old mid later : R) → Follows stream old (Ok None) mid
    → FedMore stream store name at n mid later → n ≡ 0 → next_in stream later ≡ Ok None
still_none stream store name at n old mid later follows fed none =
    ap (first_in stream.is_early) (fed.bytes [] ∙ ap (λ piece. stream.to_come mid (piece ++ [])) (no_bytes fed.piece (fed.count ∙ none))) ∙ follows.again refl

-- ---- counts

pub counts_both : (name : List ℕ) (a b c : List ℕ → ℕ) → CountsOnly name a b → CountsOnly name b c → CountsOnly name a c
counts_both name a b c first second = record {
  later = omega (arith, first.later, second.later);
  others = λ q other. second.others q other ∙ first.others q other;
}

pub counts_same : (name : List ℕ) (a b : List ℕ → ℕ) → b ≡ a → CountsOnly name a b
counts_same name a b same = record {
  later = omega (arith, ap (λ (counts : List ℕ → ℕ). counts name) same);
  others = λ q other. ap (λ (counts : List ℕ → ℕ). counts q) same;
}

pub rose_since : (a b c : ℕ) → a ≤ b → Rose b c → Rose a c
rose_since a b c low rose = grind (arith, low, rose)
