-- What a whole block says is no early end, and keeps the order that its head tells.
use Rattle.std.proofs.Common.{◌≡◌, ℕ, zero, suc, ◌+◌, Bool, true, false, cond, ltb, leb, List, [], ◌∷◌, ◌++◌, length, drop, Option, Some, None, Result, Ok, Err, refl, sym, subst}
use Rattle.std.specs.Prelude.{not, ◌==◌}
use Rattle.epic_num.specs.declared.passed.Place.{Place}
use Rattle.epic_capture.specs.declared.numbers.Order.{Order}
use Rattle.epic_capture.specs.Numbers.{number}
use Rattle.epic_capture.specs.PseudoHeader.{place_of}
use Rattle.epic_pcapng.specs.declared.block.Head.{Head}
use Rattle.epic_pcapng.specs.declared.block.Kind.{Kind}
use Rattle.epic_pcapng.specs.declared.block.Kind.TheVariants as types
use Rattle.epic_pcapng.specs.declared.damage.NgError.{NgError}
use Rattle.epic_pcapng.specs.declared.damage.NgKind.TheVariants as kinds
use Rattle.epic_pcapng.specs.declared.options.Opt.{Opt}
use Rattle.epic_pcapng.specs.declared.options.Opt.TheVariants.{Last, Other, Resolution}
use Rattle.epic_pcapng.specs.declared.options.Resolved.{Resolved}
use Rattle.epic_pcapng.specs.declared.packet.Found.{Found}
use Rattle.epic_pcapng.specs.declared.packet.Packet.{Packet}
use Rattle.epic_pcapng.specs.declared.section.Section.{Section}
use Rattle.epic_pcapng.specs.Damage.{damage, is_truncated}
use Rattle.epic_pcapng.specs.Options.{padded, option_at, after_option, options_to, units_of}
use Rattle.epic_pcapng.specs.Packets.{of_place, packet_at, simple, enhanced}
use Rattle.epic_pcapng.specs.Grammar.{Step, section_of, with_units, with_options, interface_of, without_record, with_packet, content_by, content}

-- it is no early end
abbrev pub NotEarly : {A : Type 0} → Result A NgError → Type 0
NotEarly (Ok x) = Unit {0}
NotEarly (Err e) = is_truncated e.kind ≡ false

-- a choice that gives one of two that aren't
either : {A : Type 0} (b : Bool) (x y : Result A NgError) → NotEarly x → NotEarly y → NotEarly (cond b x y)
either true x y h k = h
either false x y h k = k

option_at_late : (order : Order) (offset : ℕ) (bytes : List ℕ) → NotEarly (option_at order offset bytes)
unfolding option_at
option_at_late order offset bytes =
    either (length bytes == 0) _ _ tt (either (ltb (length bytes) 4) _ _ refl (either (number order 2 bytes == 0) _ _ tt
    (either (ltb (length bytes) (padded (number order 2 (drop 2 bytes)))) _ _ refl (either (not (number order 2 bytes == 9)) _ _ tt
    (either (not (number order 2 (drop 2 bytes) == 1)) _ _ refl tt)))))

options_late : (most : ℕ) (order : Order) (offset : ℕ) (bytes : List ℕ) (last : Option Resolved) → NotEarly (options_to most order offset bytes last)
unfolding options_to
options_late zero order offset bytes last = tt
options_late (suc most) order offset bytes last =
    by (λ offset bytes last. options_late most order offset bytes last) (option_at order offset bytes) (option_at_late order offset bytes)
  where
    by : ((offset : ℕ) (bytes : List ℕ) (last : Option Resolved) → NotEarly (options_to most order offset bytes last)) → (r : Result Opt NgError) → NotEarly r → NotEarly (after_option offset bytes last r (λ offset bytes last. options_to most order offset bytes last))
    by more (Err e) h = h
    by more (Ok Last) h = tt
    by more (Ok (Other len)) h = more (offset + len) (drop len bytes) last
    by more (Ok (Resolution resolved)) h = more (offset + 8) (drop 8 bytes) (Some resolved)

units_late : (o : Option Resolved) → NotEarly (units_of o)
unfolding units_of
units_late None = tt
units_late (Some resolved) =
    either (ltb resolved.value 128) _ _ (either (ltb 12 resolved.value) _ _ refl tt) (either (ltb 191 resolved.value) _ _ refl tt)

packet_late : (left begin : ℕ) (packet : Packet) (block : List ℕ) → NotEarly (packet_at left begin packet block)
unfolding packet_at
packet_late left begin packet block =
    either (left == 0) _ _ refl (either packet.missing _ _ refl (either (ltb 16384 packet.captured) _ _ refl
    (either (ltb (length block) (packet.bytes_at + packet.captured + 4)) _ _ refl (either (ltb packet.captured 16) _ _ refl
    (either (ltb 4294967295999999 packet.moment) _ _ refl (by (place_of (drop packet.bytes_at block))))))))
  where
    by : (place : Option Place) → NotEarly (of_place begin packet place)
    by None = refl
    by (Some place) = tt

-- What a block says: no early end, the order that is told, and no packet more than there may be.
abbrev pub Says : Order → Result Step NgError → Type 0
Says order (Ok step) = step.section.order ≡ order
Says order (Err e) = is_truncated e.kind ≡ false

abbrev SaysSection : Order → Result Section NgError → Type 0
SaysSection order (Ok section) = section.order ≡ order
SaysSection order (Err e) = is_truncated e.kind ≡ false

without_says : (order : Order) (r : Result Section NgError) → SaysSection order r → Says order (without_record r)
without_says order (Ok section) h = h
without_says order (Err e) h = h

packet_says : (section : Section) (block : List ℕ) (r : Result Found NgError) → NotEarly r → Says section.order (with_packet section block r)
packet_says section block (Ok found) h = refl
packet_says section block (Err e) h = h

section_says : (section : Section) (begin : ℕ) (head : Head) (block : List ℕ) → SaysSection head.order (section_of section begin head block)
section_says section begin head block = by (not (number head.order 2 (drop 12 block) == 1))
  where
    by : (b : Bool) → SaysSection head.order (cond b (Err (damage kinds.VersionNumber (begin + 12))) (Ok (record { order = head.order; interfaces = []; left = section.left })))
    by true = refl
    by false = refl

units_says : (section : Section) (begin : ℕ) (block : List ℕ) (r : Result ℕ NgError) → NotEarly r → SaysSection section.order (with_units section begin block r)
units_says section begin block (Err e) h = h
units_says section begin block (Ok units) h = by (leb 1024 (length section.interfaces))
  where
    by : (b : Bool) → SaysSection section.order (cond b (Err (damage kinds.TooMany begin)) (Ok (record {
      order = section.order;
      interfaces = section.interfaces ++ (record { units = units; snaplen = number section.order 4 (drop 12 block) } ∷ []);
      left = section.left;
    })))
    by true = refl
    by false = refl

options_says : (section : Section) (begin : ℕ) (block : List ℕ) (r : Result (Option Resolved) NgError) → NotEarly r → SaysSection section.order (with_options section begin block r)
options_says section begin block (Err e) h = h
options_says section begin block (Ok resolved) h = units_says section begin block (units_of resolved) (units_late resolved)

interface_says : (section : Section) (begin : ℕ) (block : List ℕ) → SaysSection section.order (interface_of section begin block)
interface_says section begin block = by (not (number section.order 2 (drop 8 block) == 147)) _ (options_says section begin block _ (options_late _ section.order (begin + 16) _ None))
  where
    by : (b : Bool) (r : Result Section NgError) → SaysSection section.order r → SaysSection section.order (cond b (Err (damage kinds.LinkType (begin + 8))) r)
    by true r h = refl
    by false r h = h

pub content_says : (section : Section) (begin : ℕ) (head : Head) (block : List ℕ) → ((head.kind ≡ types.Section → ⊥) → head.order ≡ section.order)
    → Says head.order (content section begin head block)
unfolding content
content_says section begin head block same = by head.kind same
  where
    by : (kind : Kind) → ((kind ≡ types.Section → ⊥) → head.order ≡ section.order) → Says head.order (content_by kind section begin head block)
    by types.Section same = without_says head.order (section_of section begin head block) (section_says section begin head block)
    by types.Interface same =
        subst (λ (o : Order). Says o (content_by types.Interface section begin head block)) (sym (same (λ h. cc)))
        (without_says section.order (interface_of section begin block) (interface_says section begin block))
    by types.Simple same =
        subst (λ (o : Order). Says o (content_by types.Simple section begin head block)) (sym (same (λ h. cc)))
        (packet_says section block (packet_at section.left begin (simple section block) block) (packet_late section.left begin (simple section block) block))
    by types.Enhanced same =
        subst (λ (o : Order). Says o (content_by types.Enhanced section begin head block)) (sym (same (λ h. cc)))
        (packet_says section block (packet_at section.left begin (enhanced section block) block) (packet_late section.left begin (enhanced section block) block))
    by types.Other same = sym (same (λ h. cc))
