-- What is to come, after a block or a part of one was passed.
use Rattle.std.proofs.Common.{◌≡◌, ℕ, ◌+◌, ◌-◌, ◌<◌, ◌≤◌, true, false, List, [], ◌++◌, length, take, drop, Option, Some, None, Result, Ok, Err, ◌⊎◌, inl, inr, refl, ap, sym, ◌∙◌, subst, arith, append-nil, length-append, length-drop}
use Rattle.std.proofs.lemmas.List.{drop-append-le, drop-drop}
use Rattle.std.proofs.lemmas.Bool.{true≢false}
use Rattle.epic_capture.specs.declared.numbers.Order.{Order}
use Rattle.epic_capture.specs.Records.{damaged}
use Rattle.epic_capture.specs.Streams.{first}
use Rattle.epic_pcapng.specs.declared.block.Head.{Head}
use Rattle.epic_pcapng.specs.declared.block.Kind.{Kind}
use Rattle.epic_pcapng.specs.declared.block.Kind.TheVariants as types
use Rattle.epic_pcapng.specs.declared.cursor.Skip.{Skip}
use Rattle.epic_pcapng.specs.declared.damage.NgError.{NgError}
use Rattle.epic_pcapng.specs.declared.damage.NgKind.TheVariants.{Truncated}
use Rattle.epic_pcapng.specs.declared.section.Section.{Section}
use Rattle.epic_pcapng.specs.Damage.{damage, is_truncated}
use Rattle.epic_pcapng.specs.Blocks.{heading, ends, most}
use Rattle.epic_pcapng.specs.Grammar.{Step, content, block_at, with_item, records_from}
use Rattle.epic_pcapng.specs.Reading.{Reading, ngcapture, to_come_of, after_skip}
use Rattle.epic_pcapng.specs.Steps.{passed, IsInside, IsSound, Stops}
use Rattle.epic_pcapng.proofs.Results.{end_not_error, head_not_error, same_end_error}
use Rattle.epic_pcapng.proofs.Blocks.{HeadFits, EndsEarly, heading_fits, heading_early, heading_longer, ends_fits, ends_early, ends_longer, ends_on}
use Rattle.epic_pcapng.proofs.Contents.{Says, content_says}
use Rattle.epic_pcapng.proofs.Runs.{least_12, block_of, head_fails, end_fails, content_fails, block_held, damage_held, damage_next, records_block, records_damage}

-- no block is being skipped
pub plain : (s : Reading) (bytes : List ℕ) → s.skip ≡ None → to_come_of s.section s.skip s.offset bytes ≡ records_from s.section s.offset bytes
plain s bytes is = ap (λ (o : Option Skip). to_come_of s.section o s.offset bytes) is

pub skipping : (s : Reading) (skip : Skip) (bytes : List ℕ) → s.skip ≡ Some skip
    → to_come_of s.section s.skip s.offset bytes ≡ after_skip s.section skip s.offset bytes (ends s.section.order skip.begin skip.len (s.offset - skip.begin) bytes)
skipping s skip bytes is = ap (λ (o : Option Skip). to_come_of s.section o s.offset bytes) is

pub inside_of : (s : Reading) (skip : Skip) → IsSound s → s.skip ≡ Some skip → (skip.begin ≤ s.offset) × (4 + (s.offset - skip.begin) ≤ skip.len)
inside_of s skip sound is = subst (λ (o : Option Skip). IsInside s.offset o) is sound.inside

-- What a reader did: what was to come is still to come, and some bytes were passed.
pub record Goes (old new : Reading) : Type 0 where
  pub same : (rest : List ℕ) → ngcapture.to_come old rest ≡ ngcapture.to_come new rest
  pub fed : ngcapture.fed new ≡ ngcapture.fed old
  pub fewer : length new.held < length old.held
  pub sound : IsSound new

-- The same, with the record of the block.
pub record Passes (old : Reading) (step : Step) (new : Reading) : Type 0 where
  pub same : (rest : List ℕ) → ngcapture.to_come old rest ≡ with_item step.item (ngcapture.to_come new rest)
  pub fed : ngcapture.fed new ≡ ngcapture.fed old
  pub fewer : length new.held < length old.held
  pub sound : IsSound new

other_not_section : types.Other ≡ types.Section → ⊥
other_not_section h = cc

-- some more of a skipped block's bytes were passed
after_on : (section : Section) (skip : Skip) (offset count : ℕ) (bytes : List ℕ) (r : Result (Unit {0}) NgError)
    → skip.begin ≤ offset → (offset - skip.begin) + count ≤ skip.len
    → after_skip section skip (offset + count) (drop count bytes) r ≡ after_skip section skip offset bytes r
after_on section skip offset count bytes (Err e) begun inside = refl
after_on section skip offset count bytes (Ok done) begun inside =
    let at : count + (skip.len - (offset + count - skip.begin)) ≡ skip.len - (offset - skip.begin) = omega arith in
    ap (records_from section (skip.begin + skip.len)) (drop-drop (skip.len - (offset + count - skip.begin)) count bytes ∙ ap (λ (n : ℕ). drop n bytes) at)

on_from : (section : Section) (skip : Skip) (offset count : ℕ) (held rest : List ℕ) → count ≤ length held → skip.begin ≤ offset
    → 4 + ((offset - skip.begin) + count) ≤ skip.len
    → after_skip section skip (offset + count) (drop count held ++ rest) (ends section.order skip.begin skip.len (offset + count - skip.begin) (drop count held ++ rest))
    ≡ after_skip section skip offset (held ++ rest) (ends section.order skip.begin skip.len (offset - skip.begin) (held ++ rest))
on_from section skip offset count held rest there begun inside =
    let cut : drop count (held ++ rest) ≡ drop count held ++ rest = drop-append-le count held rest there in
    let gone : offset + count - skip.begin ≡ (offset - skip.begin) + count = omega arith in
    let end_is : ends section.order skip.begin skip.len (offset + count - skip.begin) (drop count held ++ rest)
    ≡ ends section.order skip.begin skip.len (offset - skip.begin) (held ++ rest)
    = ap (λ (n : ℕ). ends section.order skip.begin skip.len n (drop count held ++ rest)) gone
    ∙ ap (λ (xs : List ℕ). ends section.order skip.begin skip.len ((offset - skip.begin) + count) xs) (sym cut)
    ∙ ends_on section.order skip.begin skip.len (offset - skip.begin) count (held ++ rest) (omega (arith, there, length-append held rest)) inside in
    ap (λ (r : Result (Unit {0}) NgError). after_skip section skip (offset + count) (drop count held ++ rest) r) end_is
    ∙ ap (λ (xs : List ℕ). after_skip section skip (offset + count) xs (ends section.order skip.begin skip.len (offset - skip.begin) (held ++ rest))) (sym cut)
    ∙ after_on section skip offset count (held ++ rest) (ends section.order skip.begin skip.len (offset - skip.begin) (held ++ rest)) begun (omega arith)

-- a block that is to be skipped, at the front
other_content : (section : Section) (begin : ℕ) (head : Head) (block : List ℕ) → head.kind ≡ types.Other → content section begin head block ≡ Ok (record { section = section; item = None })
unfolding content
other_content section begin head block is = rw is refl

skip_begins : (section : Section) (begin : ℕ) (bytes : List ℕ) (head : Head) → heading section.order begin bytes ≡ Ok head → head.kind ≡ types.Other
    → records_from section begin bytes
    ≡ after_skip section (record { begin = begin; len = head.len }) begin bytes (ends section.order begin head.len (begin - begin) bytes)
skip_begins section begin bytes head head_is kind_is =
    by (ends head.order begin head.len 0 bytes) refl
    ∙ ap (after_skip section (record { begin = begin; len = head.len }) begin bytes)
    (ap (λ (o : Order). ends o begin head.len 0 bytes) order_is ∙ ap (λ (n : ℕ). ends section.order begin head.len n bytes) (sym none))
  where
    fits : HeadFits section.order begin (length bytes) head
    fits = heading_fits section.order begin bytes head head_is

    order_is : head.order ≡ section.order
    order_is = fits.same_order (λ h. other_not_section (sym kind_is ∙ h))

    none : begin - begin ≡ 0
    none = omega arith

    by : (r : Result (Unit {0}) NgError) → ends head.order begin head.len 0 bytes ≡ r
        → records_from section begin bytes ≡ after_skip section (record { begin = begin; len = head.len }) begin bytes r
    by (Err e) is =
        records_damage section begin bytes e (λ h. omega (arith, fits.eight, h)) (end_fails section begin bytes head e head_is is)
    by (Ok done) is =
        let step : Step = record { section = section; item = None } in
        let block = block_of section begin bytes head step head_is is (other_content section begin head (take head.len bytes) kind_is) in
        let all : head.len ≡ head.len - (begin - begin) = omega arith in
        records_block section begin bytes (record { len = head.len; step = step }) block
        ∙ ap (λ (n : ℕ). records_from section (begin + head.len) (drop n bytes)) all

-- damage of a block at the front
pub block_stops : (s : Reading) (e : NgError) → s.skip ≡ None → IsSound s → block_at s.section s.offset s.held ≡ Err e
    → (is_truncated e.kind ≡ true → length s.held < 65536) → (is_truncated e.kind ≡ true → s.offset + length s.held ≤ 67108864) → Stops s e
block_stops s e none sound is room limit = record {
  next = ap (first (λ e. is_truncated e.kind)) (plain s (s.held ++ []) none) ∙ damage_next s.section s.offset s.held e sound.limit is;
  stays = λ rest other. plain s (s.held ++ rest) none ∙ damage_held s.section s.offset s.held e rest sound.limit is other;
  room = room;
  limit = limit;
}

pub head_stops : (s : Reading) (e : NgError) → s.skip ≡ None → IsSound s → heading s.section.order s.offset s.held ≡ Err e → Stops s e
head_stops s e none sound is =
    block_stops s e none sound (head_fails s.section s.offset s.held e is)
    (λ t. let early = heading_early s.section.order s.offset s.held e is t in omega (arith, early.few))
    (λ t. (heading_early s.section.order s.offset s.held e is t).limit sound.limit)

-- a block that isn't skipped has at most 65,536 bytes
pub read_most : (kind : Kind) → (kind ≡ types.Other → ⊥) → most kind ≡ 65536
read_most types.Section other = refl
read_most types.Interface other = refl
read_most types.Simple other = refl
read_most types.Enhanced other = refl
read_most types.Other other = absurd (other refl)

pub end_stops : (s : Reading) (head : Head) (e : NgError) → s.skip ≡ None → IsSound s → heading s.section.order s.offset s.held ≡ Ok head
    → (head.kind ≡ types.Other → ⊥) → ends head.order s.offset head.len 0 s.held ≡ Err e → Stops s e
end_stops s head e none sound head_is read is =
    let fits = heading_fits s.section.order s.offset s.held head head_is in
    block_stops s e none sound (end_fails s.section s.offset s.held head e head_is is)
    (λ t. let early = ends_early head.order s.offset head.len 0 s.held e is t in omega (arith, early.few, fits.most, read_most head.kind read))
    (λ t. let early = ends_early head.order s.offset head.len 0 s.held e is t in omega (arith, early.limit sound.limit))

pub content_stops : (s : Reading) (head : Head) (e : NgError) → s.skip ≡ None → IsSound s → heading s.section.order s.offset s.held ≡ Ok head
    → ends head.order s.offset head.len 0 s.held ≡ Ok tt → content s.section s.offset head (take head.len s.held) ≡ Err e → Stops s e
content_stops s head e none sound head_is end_is is =
    let fits = heading_fits s.section.order s.offset s.held head head_is in
    let says = content_says s.section s.offset head (take head.len s.held) fits.same_order in
    let late : is_truncated e.kind ≡ false = late_of (content s.section s.offset head (take head.len s.held)) is says in
    block_stops s e none sound (content_fails s.section s.offset s.held head e head_is end_is is)
    (λ t. absurd (true≢false (sym t ∙ late))) (λ t. absurd (true≢false (sym t ∙ late)))
  where
    late_of : (r : Result Step NgError) → r ≡ Err e → Says head.order r → is_truncated e.kind ≡ false
    late_of r is says = subst (Says head.order) is says

-- a whole block was passed
pub block_passes : (s : Reading) (head : Head) (step : Step) → s.skip ≡ None → IsSound s → heading s.section.order s.offset s.held ≡ Ok head
    → ends head.order s.offset head.len 0 s.held ≡ Ok tt → content s.section s.offset head (take head.len s.held) ≡ Ok step
    → Passes s step (record { section = step.section; skip = None; offset = s.offset + head.len; held = drop head.len s.held })
block_passes s head step none sound head_is end_is is =
    let fits = heading_fits s.section.order s.offset s.held head head_is in
    let ends_ = ends_fits head.order s.offset head.len 0 s.held end_is in
    let block = block_of s.section s.offset s.held head step head_is end_is is in
    let less = length-drop head.len s.held in
    record {
      same = λ rest. plain s (s.held ++ rest) none ∙ block_held s.section s.offset s.held (record { len = head.len; step = step }) rest block;
      fed = omega (arith, less, ends_.0);
      fewer = omega (arith, less, ends_.0, fits.least, least_12 head);
      sound = record { limit = ends_.1 sound.limit; inside = tt };
    }

-- a block's head was passed, which is to be skipped
pub skip_opens : (s : Reading) (head : Head) → s.skip ≡ None → IsSound s → heading s.section.order s.offset s.held ≡ Ok head → head.kind ≡ types.Other
    → Goes s (record { section = s.section; skip = Some (record { begin = s.offset; len = head.len }); offset = s.offset + 8; held = drop 8 s.held })
skip_opens s head none sound head_is kind_is =
    let fits = heading_fits s.section.order s.offset s.held head head_is in
    let low : 12 ≤ head.len = omega (arith, fits.least, least_12 head) in
    let less = length-drop 8 s.held in
    record {
      same = λ rest. plain s (s.held ++ rest) none ∙ begins rest ∙ sym (on_from s.section (record { begin = s.offset; len = head.len }) s.offset 8 s.held rest fits.eight (omega arith) (omega (arith, low)));
      fed = omega (arith, less, fits.eight);
      fewer = omega (arith, less, fits.eight);
      sound = record { limit = fits.limit sound.limit; inside = (omega arith, omega (arith, low)) };
    }
  where
    begins : (rest : List ℕ) → records_from s.section s.offset (s.held ++ rest)
        ≡ after_skip s.section (record { begin = s.offset; len = head.len }) s.offset (s.held ++ rest) (ends s.section.order s.offset head.len (s.offset - s.offset) (s.held ++ rest))
    begins rest = skip_begins s.section s.offset (s.held ++ rest) head
        (heading_longer s.section.order s.offset s.held rest (λ t. head_not_error head (damage Truncated s.offset) (sym head_is ∙ t)) ∙ head_is) kind_is

-- how far that comes
within : (s : Reading) (skip : Skip) (e : NgError) (count : ℕ) → IsSound s → skip.begin ≤ s.offset → count ≤ length s.held → EndsEarly skip.begin ((s.offset - skip.begin) + length s.held) skip.len e
    → s.offset + count ≤ 67108864
within s skip e count sound begun there ends_ = omega (arith, sound.limit, there, ends_.limit (omega (arith, sound.limit, begun)))

-- some bytes of a block that is skipped were passed, of which not all are there
pub skip_moves : (s : Reading) (skip : Skip) (e : NgError) (count : ℕ) → s.skip ≡ Some skip → IsSound s
    → ends s.section.order skip.begin skip.len (s.offset - skip.begin) s.held ≡ Err e → is_truncated e.kind ≡ true
    → 0 < count → count ≤ length s.held → 4 + (s.offset - skip.begin) + count ≤ skip.len → Goes s (passed s count)
skip_moves s skip e count is sound end_is early some there inside =
    let begun = inside_of s skip sound is in
    let ends_ = ends_early s.section.order skip.begin skip.len (s.offset - skip.begin) s.held e end_is early in
    let less = length-drop count s.held in
    record {
      same = λ rest. skipping s skip (s.held ++ rest) is
          ∙ sym (on_from s.section skip s.offset count s.held rest there begun.0 (omega (arith, inside)))
          ∙ sym (skipping (passed s count) skip (drop count s.held ++ rest) is);
      fed = omega (arith, less, there);
      fewer = omega (arith, less, there, some);
      sound = record {
        limit = within s skip e count sound begun.0 there ends_;
        inside = subst (λ (o : Option Skip). IsInside (s.offset + count) o) (sym is) (omega (arith, begun.0), omega (arith, begun.0, inside));
      };
    }

-- no more of a block that is skipped can be passed
pub skip_stops : (s : Reading) (skip : Skip) (e : NgError) → s.skip ≡ Some skip → IsSound s
    → ends s.section.order skip.begin skip.len (s.offset - skip.begin) s.held ≡ Err e
    → (is_truncated e.kind ≡ true → (length s.held ≡ 0) ⊎ (skip.len ≡ 4 + (s.offset - skip.begin))) → Stops s e
skip_stops s skip e is sound end_is stuck =
    let begun = inside_of s skip sound is in
    record {
      next = ap (first (λ e. is_truncated e.kind)) (skipping s skip (s.held ++ []) is ∙ at_end) ∙ refl;
      stays = λ rest other. skipping s skip (s.held ++ rest) is ∙ on rest begun.1 other;
      room = λ t. few t (stuck t);
      limit = λ t. let early = ends_early s.section.order skip.begin skip.len (s.offset - skip.begin) s.held e end_is t in
          omega (arith, sound.limit, begun.0, early.limit (omega (arith, sound.limit, begun.0)));
    }
  where
    at_end : after_skip s.section skip s.offset (s.held ++ []) (ends s.section.order skip.begin skip.len (s.offset - skip.begin) (s.held ++ [])) ≡ damaged e
    at_end = rw (append-nil, end_is) refl

    on : (rest : List ℕ) → 4 + (s.offset - skip.begin) ≤ skip.len → is_truncated e.kind ≡ false
        → after_skip s.section skip s.offset (s.held ++ rest) (ends s.section.order skip.begin skip.len (s.offset - skip.begin) (s.held ++ rest)) ≡ damaged e
    on rest inside other =
        let not_early : ends s.section.order skip.begin skip.len (s.offset - skip.begin) s.held ≡ Err (damage Truncated skip.begin) → ⊥ = λ t.
        true≢false (sym (ap (λ (e : NgError). is_truncated e.kind) (same_end_error e (damage Truncated skip.begin) (sym end_is ∙ t))) ∙ other) in
        let longer = ends_longer s.section.order skip.begin skip.len (s.offset - skip.begin) s.held rest inside not_early in
        rw (longer, end_is) refl

    few : is_truncated e.kind ≡ true → (length s.held ≡ 0) ⊎ (skip.len ≡ 4 + (s.offset - skip.begin)) → length s.held < 65536
    few t (inl none) = omega (arith, none)
    few t (inr last) =
        let early = ends_early s.section.order skip.begin skip.len (s.offset - skip.begin) s.held e end_is t in
        omega (arith, early.few, last)

-- the end of a block that is skipped was passed
pub skip_ends : (s : Reading) (skip : Skip) → s.skip ≡ Some skip → IsSound s
    → ends s.section.order skip.begin skip.len (s.offset - skip.begin) s.held ≡ Ok tt
    → Goes s (record { section = s.section; skip = None; offset = s.offset + (skip.len - (s.offset - skip.begin)); held = drop (skip.len - (s.offset - skip.begin)) s.held })
skip_ends s skip is sound end_is =
    let begun = inside_of s skip sound is in
    let fits = ends_fits s.section.order skip.begin skip.len (s.offset - skip.begin) s.held end_is in
    let there : skip.len - (s.offset - skip.begin) ≤ length s.held = omega (arith, fits.0) in
    let less = length-drop (skip.len - (s.offset - skip.begin)) s.held in
    let at : skip.begin + skip.len ≡ s.offset + (skip.len - (s.offset - skip.begin)) = omega (arith, begun.0, begun.1) in
    record {
      same = λ rest.
          let longer = ends_longer s.section.order skip.begin skip.len (s.offset - skip.begin) s.held rest begun.1 (λ t. end_not_error (damage Truncated skip.begin) (sym end_is ∙ t)) ∙ end_is in
          skipping s skip (s.held ++ rest) is
          ∙ ap (after_skip s.section skip s.offset (s.held ++ rest)) longer
          ∙ ap (λ (xs : List ℕ). records_from s.section (skip.begin + skip.len) xs) (drop-append-le (skip.len - (s.offset - skip.begin)) s.held rest there)
          ∙ ap (λ (n : ℕ). records_from s.section n (drop (skip.len - (s.offset - skip.begin)) s.held ++ rest)) at;
      fed = omega (arith, less, there);
      fewer = omega (arith, less, there, begun.1);
      sound = record { limit = omega (arith, at, fits.1 (omega (arith, sound.limit, begun.0))); inside = tt };
    }
