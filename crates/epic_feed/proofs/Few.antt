-- A capture has 262,144 records at most.
use Rattle.std.proofs.Common.{◌≡◌, ℕ, zero, suc, ◌+◌, ◌-◌, ◌≤◌, Bool, true, false, cond, List, [], ◌∷◌, ◌++◌, length, take, drop, Option, Some, None, Result, Ok, Err, refl, arith}
use Rattle.std.specs.Prelude.{⊤, not, ◌==◌, nat_le}
use Rattle.std.proofs.lemmas.Bool.Decides.{nat_tests}
use Rattle.epic_capture.specs.declared.damage.CaptureError.{CaptureError}
use Rattle.epic_capture.specs.declared.format.Format.{Format}
use Rattle.epic_capture.specs.declared.found as classic
use Rattle.epic_capture.specs.Numbers.{number}
use Rattle.epic_capture.specs.Records.{Captured, Records, whole, damaged}
use Rattle.epic_capture.specs.Capture.{after_found, after_head, damage, found_at, head, most_records, records, records_from}
use Rattle.epic_capture.specs.declared.damage.CaptureKind.TheVariants.{TooMany}
use Rattle.epic_pcapng.specs.declared.block.Head.{Head}
use Rattle.epic_pcapng.specs.declared.block.Kind.{Kind}
use Rattle.epic_pcapng.specs.declared.block.Kind.TheVariants as types
use Rattle.epic_pcapng.specs.declared.damage.NgError.{NgError}
use Rattle.epic_pcapng.specs.declared.damage.NgKind.TheVariants as kinds
use Rattle.epic_pcapng.specs.declared.options.Resolved.{Resolved}
use Rattle.epic_pcapng.specs.declared.packet.Found.{Found}
use Rattle.epic_pcapng.specs.declared.packet.Packet.{Packet}
use Rattle.epic_pcapng.specs.declared.section.Section.{Section}
use Rattle.epic_pcapng.specs.Damage as ng_damage
use Rattle.epic_pcapng.specs.Blocks.{heading, ends}
use Rattle.epic_pcapng.specs.Options.{options, units_of}
use Rattle.epic_pcapng.specs.Packets.{packet_at, simple, enhanced}
use Rattle.epic_pcapng.specs.Grammar.{Step, Block, section_of, with_units, with_options, interface_of, without_record, with_packet, content_by, content, of_content, of_end, of_heading, block_at, with_item, after_block, records_to, first_section, ngrecords}
use Rattle.epic_feed.specs.declared.damage.Damage.{Damage}
use Rattle.epic_feed.specs.declared.damage.Damage.TheVariants.{Classic, Ng}
use Rattle.epic_feed.specs.Forms.{is_ng, records_in, told_as}

-- ---- the classic form

classic_from : (left : ℕ) (format : Format) (begin : ℕ) (bytes : List ℕ) → length (records_from left format begin bytes).items ≤ left
unfolding records_from
classic_from zero format begin bytes = by (length bytes == 0)
  where
    by : (b : Bool) → length (cond {A = Records CaptureError} b whole (damaged (damage TooMany begin))).items ≤ 0
    by true = omega arith
    by false = omega arith
classic_from (suc left) format begin bytes =
    by (λ next rest. classic_from left format next rest) (length bytes == 0) (found_at format (suc left) begin bytes)
  where
    by : ((next : ℕ) (rest : List ℕ) → length (records_from left format next rest).items ≤ left) → (b : Bool) (r : Result classic.Found.Found CaptureError)
        → length (cond {A = Records CaptureError} b whole (after_found begin bytes r (λ next rest. records_from left format next rest))).items ≤ suc left
    by more true r = omega arith
    by more false (Err e) = omega arith
    by more false (Ok found) = omega (arith, more (begin + found.len) (drop found.len bytes))

pub few_classic : (bytes : List ℕ) → length (records bytes).items ≤ 262144
unfolding records most_records
few_classic bytes = by (head bytes)
  where
    by : (r : Result Format CaptureError) → length (after_head bytes r).items ≤ 262144
    by (Err e) = omega arith
    by (Ok format) = classic_from most_records format 24 (drop 24 bytes)

-- ---- pcapng

abbrev one : Option Captured → ℕ
one None = 0
one (Some x) = 1

-- of the packets that may still come a step takes its own away
abbrev Lowers : Section → Result Step NgError → Type 0
Lowers section (Err e) = ⊤
Lowers section (Ok step) = one step.item + step.section.left ≤ section.left

abbrev LowersSection : Section → Result Section NgError → Type 0
LowersSection section (Err e) = ⊤
LowersSection section (Ok next) = next.left ≤ section.left

without_lowers : (section : Section) (r : Result Section NgError) → LowersSection section r → Lowers section (without_record r)
without_lowers section (Err e) h = tt
without_lowers section (Ok next) h = omega (arith, h)

-- a choice that gives one of two
either : (section : Section) (b : Bool) (x y : Result Section NgError) → LowersSection section x → LowersSection section y → LowersSection section (cond b x y)
either section true x y h k = h
either section false x y h k = k

section_lowers : (section : Section) (begin : ℕ) (head : Head) (block : List ℕ) → LowersSection section (section_of section begin head block)
section_lowers section begin head block =
    either section (not (number head.order 2 (drop 12 block) == 1)) (Err (ng_damage.damage kinds.VersionNumber (begin + 12)))
    (Ok (record { order = head.order; interfaces = []; left = section.left })) tt (omega arith)

units_lowers : (section : Section) (begin : ℕ) (block : List ℕ) (r : Result ℕ NgError) → LowersSection section (with_units section begin block r)
units_lowers section begin block (Err e) = tt
units_lowers section begin block (Ok units) =
    either section (nat_le 1024 (length section.interfaces)) (Err (ng_damage.damage kinds.TooMany begin))
    (Ok (record {
      order = section.order;
      interfaces = section.interfaces ++ (record { units = units; snaplen = number section.order 4 (drop 12 block) } ∷ []);
      left = section.left;
    })) tt (omega arith)

options_lowers : (section : Section) (begin : ℕ) (block : List ℕ) (r : Result (Option Resolved) NgError) → LowersSection section (with_options section begin block r)
options_lowers section begin block (Err e) = tt
options_lowers section begin block (Ok resolved) = units_lowers section begin block (units_of resolved)

interface_lowers : (section : Section) (begin : ℕ) (block : List ℕ) → LowersSection section (interface_of section begin block)
interface_lowers section begin block =
    let found = options section.order (begin + 16) (take (length block - 4 - 16) (drop 16 block)) in
    either section (not (number section.order 2 (drop 8 block) == 147)) (Err (ng_damage.damage kinds.LinkType (begin + 8)))
    (with_options section begin block found) tt (options_lowers section begin block found)

packet_lowers : (section : Section) (begin : ℕ) (packet : Packet) (block : List ℕ) → Lowers section (with_packet section block (packet_at section.left begin packet block))
unfolding packet_at
packet_lowers section begin packet block = by (section.left == 0) _ refl
  where
    by : (b : Bool) (r : Result Found NgError) → (section.left == 0) ≡ b → Lowers section (with_packet section block (cond b (Err (ng_damage.damage kinds.TooMany begin)) r))
    by true r is = tt
    by false (Err e) is = tt
    by false (Ok found) is = grind (arith, nat_tests, is)

content_lowers : (section : Section) (begin : ℕ) (head : Head) (block : List ℕ) → Lowers section (content section begin head block)
unfolding content
content_lowers section begin head block = by head.kind
  where
    by : (kind : Kind) → Lowers section (content_by kind section begin head block)
    by types.Section = without_lowers section _ (section_lowers section begin head block)
    by types.Interface = without_lowers section _ (interface_lowers section begin block)
    by types.Simple = packet_lowers section begin (simple section block) block
    by types.Enhanced = packet_lowers section begin (enhanced section block) block
    by types.Other = omega arith

abbrev LowersBlock : Section → Result Block NgError → Type 0
LowersBlock section (Err e) = ⊤
LowersBlock section (Ok block) = one block.step.item + block.step.section.left ≤ section.left

block_lowers : (section : Section) (begin : ℕ) (bytes : List ℕ) → LowersBlock section (block_at section begin bytes)
unfolding block_at
block_lowers section begin bytes = by (heading section.order begin bytes)
  where
    inner : (len : ℕ) (r : Result Step NgError) → Lowers section r → LowersBlock section (of_content len r)
    inner len (Err e) h = tt
    inner len (Ok step) h = h

    at_end : (head : Head) (r : Result (Unit {0}) NgError) → LowersBlock section (of_end section begin head bytes r)
    at_end head (Err e) = tt
    at_end head (Ok done) = inner head.len (content section begin head (take head.len bytes)) (content_lowers section begin head (take head.len bytes))

    by : (r : Result Head NgError) → LowersBlock section (of_heading section begin bytes r)
    by (Err e) = tt
    by (Ok head) = at_end head (ends head.order begin head.len 0 bytes)

with_one : (o : Option Captured) (r : Records NgError) → length (with_item o r).items ≡ one o + length r.items
with_one None r = omega arith
with_one (Some x) r = omega arith

ng_to : (most : ℕ) (section : Section) (begin : ℕ) (bytes : List ℕ) → length (records_to most section begin bytes).items ≤ section.left
unfolding records_to
ng_to zero section begin bytes = omega arith
ng_to (suc most) section begin bytes =
    by (λ section begin bytes. ng_to most section begin bytes) (length bytes == 0) (block_at section begin bytes) (block_lowers section begin bytes)
  where
    by : ((section : Section) (begin : ℕ) (bytes : List ℕ) → length (records_to most section begin bytes).items ≤ section.left) → (b : Bool) (r : Result Block NgError)
        → LowersBlock section r
        → length (cond {A = Records NgError} b whole (after_block begin bytes r (λ section begin bytes. records_to most section begin bytes))).items ≤ section.left
    by more true r h = omega arith
    by more false (Err e) h = omega arith
    by more false (Ok block) h =
        omega (arith, h, with_one block.step.item (records_to most block.step.section (begin + block.len) (drop block.len bytes)), more block.step.section (begin + block.len) (drop block.len bytes))

pub few_ng : (bytes : List ℕ) → length (ngrecords bytes).items ≤ 262144
unfolding ngrecords first_section
few_ng bytes = ng_to (length bytes) first_section 0 bytes

-- ---- either

pub few_records : (bytes : List ℕ) → length (records_in bytes).items ≤ 262144
unfolding records_in
few_records bytes = by (is_ng bytes)
  where
    by : (b : Bool) → length (cond {A = Records Damage} b (told_as Ng (ngrecords bytes)) (told_as Classic (records bytes))).items ≤ 262144
    by true = few_ng bytes
    by false = few_classic bytes
