-- The updates that a destination field is made over.
use Rattle.std.proofs.Common.{◌≡◌, ℕ, ◌<◌, ◌≤◌, Bool, true, List, [], length, get_or, take, drop, ap, ◌∙◌, arith, length-drop, length-take-le, get_or-take}
use Rattle.std.specs.Prelude.{Option, Some, nat_lt, map, if◌then◌else◌, ◌==◌}
use Rattle.std.specs.List.{range_with_len}
use Rattle.std.specs.Option.{option_map_or}
use Rattle.std.proofs.lemmas.Bool.{cond_both}
use Rattle.std.proofs.lemmas.List.FromFn.{length-map-range_with_len, get_or-map-range_with_len}
use Rattle.epic_cmac.proofs.CmacFacts.{length-cmac}
use Rattle.epic_num.specs.declared.hop.HopName.{HopName}
use Rattle.epic_num.specs.Chains.{Issue}
use Rattle.epic_num.specs.Levels.{level_of, level_number, width_of}
use Rattle.epic_layout.specs.Contents.{Contents, IsPacket, field, hop_count}
use Rattle.epic_layout.specs.Spelling.{AreUpdates, update_count}
use Rattle.epic_topo.specs.Network.{Network}
use Rattle.epic_fields.specs.Formulas.{field23, update_part}
use Rattle.epic_fields.specs.PacketTags.{tag_over, update_over, update_of}
use Rattle.epic_ledger.specs.Facts.{Sent, sent_name}
use Rattle.epic_num.specs.Levels.{is_updated}
use Rattle.epic_audit.specs.Kept.{IsKeptSend}
use Rattle.epic_audit.specs.Made.{sent_update, sent_updates}
use Rattle.epic_layout.specs.Updates.{own_updates}

-- ---- counts

-- at level 3 each hop has an update
pub count_at_3 : (first hops : ℕ) → is_updated first ≡ true → update_count first hops ≡ hops
unfolding is_updated update_count
count_at_3 first hops e = ap (λ (b : Bool). if b then hops else 0) e

count_within : (first hops : ℕ) → update_count first hops ≤ hops
unfolding update_count
count_within first hops = cond_both (level_number (level_of first) == 3) hops 0 (λ n. n ≤ hops) (λ e. omega arith) (λ e. omega arith)

-- ---- widths

width_small : (first : ℕ) → width_of first ≤ 6
unfolding width_of
width_small first = cond_both (nat_lt first 0xF0) 3 6 (λ n. n ≤ 6) (λ e. omega arith) (λ e. omega arith)

length-update_part : (first : ℕ) (tag : List ℕ) → length tag ≡ 16 → length (update_part first tag) ≡ width_of first
unfolding update_part
length-update_part first tag e =
    let small = width_small first in
    length-take-le (width_of first) (drop (width_of first) tag) (omega (arith, length-drop (width_of first) tag))

length-update_of : (t : Network) (x : HopName) (p : Contents) (j : ℕ) → length (update_of t x p j) ≡ width_of p.first
unfolding update_of update_over tag_over field23
length-update_of t x p j = length-update_part p.first _ (length-cmac _ _)

-- ---- those of a sent packet

pub sent_update_is : (t : Network) (issues : List Issue) (s : Sent) (j : ℕ) (x : HopName) → sent_name issues s j ≡ Some x
    → sent_update t issues s j ≡ update_of t x s.packet j
unfolding sent_update
sent_update_is t issues s j x e = ap (λ (o : Option HopName). option_map_or (λ y. update_of t y s.packet j) o []) e

pub sent_are_updates : (t : Network) (issues : List Issue) (s : Sent) → IsKeptSend t issues s
    → AreUpdates s.packet.first (hop_count s.packet) (sent_updates t issues s)
unfolding sent_updates
sent_are_updates t issues s kept =
    let n = update_count s.packet.first (hop_count s.packet) in
    let few = count_within s.packet.first (hop_count s.packet) in
    let count : length (map (sent_update t issues s) (range_with_len 0 n)) ≡ n = length-map-range_with_len (sent_update t issues s) 0 n in
    record {
      count = count;
      widths = λ k d lt.
          let inside : k < n = omega arith in
          let hop = kept.hops k (omega arith) in
          ap length (get_or-map-range_with_len (sent_update t issues s) 0 n k k d inside (omega arith) ∙ sent_update_is t issues s k hop.name hop.named)
          ∙ length-update_of t hop.name s.packet k;
    }

pub sent_update_at : (t : Network) (issues : List Issue) (s : Sent) (j : ℕ) (x : HopName) → is_updated s.packet.first ≡ true → j < hop_count s.packet
    → sent_name issues s j ≡ Some x → get_or (sent_updates t issues s) j [] ≡ update_of t x s.packet j
unfolding sent_updates
sent_update_at t issues s j x level lt named =
    let count = count_at_3 s.packet.first (hop_count s.packet) level in
    get_or-map-range_with_len (sent_update t issues s) 0 (update_count s.packet.first (hop_count s.packet)) j j [] (omega arith) (omega arith)
    ∙ sent_update_is t issues s j x named

-- ---- those of an arrived packet

pub own_are_updates : (p : Contents) → IsPacket p → AreUpdates p.first (hop_count p) (own_updates p)
unfolding own_updates
own_are_updates p is =
    let few = count_within p.first (hop_count p) in
    let fields = is.counted in
    let count : length (take (update_count p.first (hop_count p)) p.fields) ≡ update_count p.first (hop_count p) = length-take-le _ p.fields (omega arith) in
    record {
      count = count;
      widths = λ k d lt.
          let inside : k < update_count p.first (hop_count p) = omega arith in
          ap length (get_or-take (update_count p.first (hop_count p)) p.fields k d inside) ∙ is.fields k d (omega arith);
    }

pub own_update_at : (p : Contents) (j : ℕ) → is_updated p.first ≡ true → j < hop_count p → get_or (own_updates p) j [] ≡ field p j
unfolding own_updates field
own_update_at p j level lt =
    let count = count_at_3 p.first (hop_count p) level in
    get_or-take (update_count p.first (hop_count p)) p.fields j [] (omega arith)
