-- Each form of a ledger line's words is read as what it was written of.
use Rattle.std.proofs.Common.{◌≡◌, ℕ, ◌<◌, ◌^◌, Bool, true, false, cond, List, [], ◌∷◌, length, refl, ap, ◌∙◌, arith, decimal, Ok, Err, Some}
use Rattle.std.proofs.lemmas.List.{append_cancel_right}
use Rattle.hex.specs.Hex.{encode_lower}
use Rattle.epic_num.specs.declared.passed.Place.TheVariants as place
use Rattle.epic_num.specs.Bodies.{body_bytes}
use Rattle.epic_num.specs.Names.{number_within}
use Rattle.epic_ledger.specs.declared.event.Event.{Event}
use Rattle.epic_ledger.specs.declared.event.Event.TheVariants as event
use Rattle.epic_audit.specs.ForgedText.{words_text}
use Rattle.epic_text.specs.RunScript.{most8, most16, most32, most64}
use Rattle.epic_record.specs.declared.fault.FileKind.TheVariants.{NotText}
use Rattle.epic_record.specs.declared.item.Item.{Item}
use Rattle.epic_record.specs.declared.item.Item.TheVariants as items
use Rattle.epic_record.specs.LedgerLine.{item_of, told_by_words}
use Rattle.epic_record.specs.LedgerText.{checked_text, emission_words, event_words, item_line, item_words}
use Rattle.epic_record.specs.Words.{pieces}
use Rattle.epic_reread.specs.LedgerRereading.{CanBeWritten, IsNamedEvent, ItemsAreReadBack}
use Rattle.epic_reread.proofs.Bytes.{body_above, body_read}
use Rattle.epic_reread.proofs.Clean.{AreAbove, IsAbove, cut, weaker}
use Rattle.epic_reread.proofs.LedgerWords.{as_word_above, checked_read, holder_above, holder_read, host_above, host_whole, number_above, numbers_above, packet_above, packet_read, segments_read}
use Rattle.epic_reread.proofs.Readings.{as_read, number_read}
use Rattle.epic_reread.proofs.WholeLines.{words_above}

-- ---- the words have no space

small_above : (n : ℕ) → n < 2 ^ 32 → IsAbove 44 (decimal n)
small_above n small = number_above n (omega (arith, small))

flag_above : (checked : Bool) → IsAbove 44 (checked_text checked)
flag_above true = refl
flag_above false = refl

event_above : (e : Event) → IsNamedEvent e → AreAbove 44 (event_words e)
unfolding IsNamedEvent event_words
event_above (event.Issue step number name parent) ok =
    let x = ok.2 in (
      refl,
      (
        small_above step ok.0,
        (
          small_above number ok.1,
          (
            as_word_above name.asn.0 x.asn.0,
            (
              small_above name.generation x.generation,
              (weaker 44 45 (encode_lower (body_bytes name.body)) (omega arith) (body_above name.body x.body x.link), (small_above parent ok.3, tt)),
            ),
          ),
        ),
      ),
    )
event_above (event.Fetch step source owner epoch) ok =
    (refl, (small_above step ok.0, (as_word_above source.0 ok.1.0, (as_word_above owner.0 ok.2.0, (number_above epoch ok.3, tt)))))
event_above (event.Send step emission segments) ok =
    (refl, (small_above step ok.0, (small_above emission ok.1, (numbers_above segments.items ok.2, tt))))
event_above (event.Pass step a hop generation emission) ok = (
  refl,
  (
    small_above step ok.0,
    (
      as_word_above a.0 ok.1.0,
      (
        number_above hop (omega (arith, ok.2)),
        (small_above generation ok.3, (small_above emission ok.4, tt)),
      ),
    ),
  ),
)
event_above (event.Arrive step host src ts hops checked) ok = (
  refl,
  (
    small_above step ok.0,
    (
      host_above 1 host ok.1,
      (
        host_above 0 src ok.2,
        (
          number_above ts ok.3,
          (number_above hops (omega (arith, ok.4)), (flag_above checked, tt)),
        ),
      ),
    ),
  ),
)
event_above (event.Reveal step who) ok = (refl, (small_above step ok.0, (holder_above who ok.1, tt)))
event_above (event.Roll step a generation) ok =
    (refl, (small_above step ok.0, (as_word_above a.0 ok.1.0, (small_above generation ok.2, tt))))

item_above : (item : Item) → CanBeWritten item → AreAbove 44 (item_words item)
unfolding CanBeWritten emission_words
item_above (items.Event e) ok = event_above e ok
item_above (items.Emission number (place.Router a iface) bytes) ok =
    (refl, (small_above number ok.0, (refl, (as_word_above a.0 ok.1.0.0, (number_above iface (omega (arith, ok.1.1)), (packet_above bytes ok.2, tt))))))
item_above (items.Emission number (place.Host host) bytes) ok =
    (refl, (small_above number ok.0, (refl, (host_above 1 host ok.1, (packet_above bytes ok.2, tt)))))
item_above (items.AcceptHop a generation hop bytes) ok =
    (refl, (refl, (as_word_above a.0 ok.0.0, (small_above generation ok.1, (number_above hop (omega (arith, ok.2)), (packet_above bytes ok.3, tt))))))
item_above (items.AcceptDest host bytes) ok = (refl, (refl, (host_above 1 host ok.0, (packet_above bytes ok.1, tt))))

-- ---- and are read

u8_read : (n : ℕ) → n < 2 ^ 8 → number_within most8 (decimal n) ≡ Some n
u8_read n small = number_read most8 n (omega arith) (omega (arith, small))

u16_read : (n : ℕ) → n < 2 ^ 16 → number_within most16 (decimal n) ≡ Some n
u16_read n small = number_read most16 n (omega arith) (omega (arith, small))

u32_read : (n : ℕ) → n < 2 ^ 32 → number_within most32 (decimal n) ≡ Some n
u32_read n small = number_read most32 n (omega arith) (omega (arith, small))

u64_read : (n : ℕ) → n < 2 ^ 64 → number_within most64 (decimal n) ≡ Some n
u64_read n small = number_read most64 n (omega arith) (omega (arith, small))

event_read : (e : Event) → IsNamedEvent e → told_by_words (event_words e) ≡ Ok (items.Event e)
unfolding IsNamedEvent event_words
event_read (event.Issue step number name parent) ok =
    let x = ok.2 in
    rw (
      u32_read step ok.0,
      u32_read number ok.1,
      as_read name.asn x.asn,
      u32_read name.generation x.generation,
      body_read name.body x.body x.link,
      u32_read parent ok.3,
    ) refl
event_read (event.Fetch step source owner epoch) ok =
    rw (u32_read step ok.0, as_read source ok.1, as_read owner ok.2, u64_read epoch ok.3) refl
event_read (event.Send step emission segments) ok =
    rw (u32_read step ok.0, u32_read emission ok.1, segments_read segments ok.2) refl
event_read (event.Pass step a hop generation emission) ok =
    rw (u32_read step ok.0, as_read a ok.1, u8_read hop ok.2, u32_read generation ok.3, u32_read emission ok.4) refl
event_read (event.Arrive step host src ts hops true) ok =
    rw (
      u32_read step ok.0,
      host_whole 1 (omega arith) host ok.1,
      host_whole 0 (omega arith) src ok.2,
      u64_read ts ok.3,
      u8_read hops ok.4,
      checked_read true,
    ) refl
event_read (event.Arrive step host src ts hops false) ok =
    rw (
      u32_read step ok.0,
      host_whole 1 (omega arith) host ok.1,
      host_whole 0 (omega arith) src ok.2,
      u64_read ts ok.3,
      u8_read hops ok.4,
      checked_read false,
    ) refl
event_read (event.Reveal step who) ok = rw (u32_read step ok.0, holder_read who ok.1) refl
event_read (event.Roll step a generation) ok = rw (u32_read step ok.0, as_read a ok.1, u32_read generation ok.2) refl

item_read : (item : Item) → CanBeWritten item → told_by_words (item_words item) ≡ Ok item
unfolding CanBeWritten emission_words
item_read (items.Event e) ok = event_read e ok
item_read (items.Emission number (place.Router a iface) bytes) ok =
    rw (u32_read number ok.0, as_read a ok.1.0, u16_read iface ok.1.1, packet_read bytes ok.2) refl
item_read (items.Emission number (place.Host host) bytes) ok =
    rw (u32_read number ok.0, host_whole 1 (omega arith) host ok.1, packet_read bytes ok.2) refl
item_read (items.AcceptHop a generation hop bytes) ok =
    rw (as_read a ok.0, u32_read generation ok.1, u8_read hop ok.2, packet_read bytes ok.3) refl
item_read (items.AcceptDest host bytes) ok = rw (host_whole 1 (omega arith) host ok.0, packet_read bytes ok.1) refl

-- ---- the line

event_some : (e : Event) → 0 < length (event_words e)
unfolding event_words
event_some (event.Issue step number name parent) = omega arith
event_some (event.Fetch step source owner epoch) = omega arith
event_some (event.Send step emission segments) = omega arith
event_some (event.Pass step a hop generation emission) = omega arith
event_some (event.Arrive step host src ts hops checked) = omega arith
event_some (event.Reveal step who) = omega arith
event_some (event.Roll step a generation) = omega arith

item_some : (item : Item) → 0 < length (item_words item)
unfolding emission_words
item_some (items.Event e) = event_some e
item_some (items.Emission number (place.Router a iface) bytes) = omega arith
item_some (items.Emission number (place.Host host) bytes) = omega arith
item_some (items.AcceptHop a generation hop bytes) = omega arith
item_some (items.AcceptDest host bytes) = omega arith

words_read : (words : List (List ℕ)) → 0 < length words → AreAbove 44 words → item_of (words_text words) ≡ told_by_words words
unfolding item_of
words_read [] some h = absurd (omega (arith, some))
words_read (word ∷ words) some h =
    ap (λ b. cond b (told_by_words (pieces (words_text (word ∷ words)))) (Err NotText))
    (words_above (word ∷ words) h)
    ∙ ap told_by_words (cut 32 44 (omega arith) word words h)

-- the line has no line feed
pub item_line_above : (item : Item) → CanBeWritten item → IsAbove 32 (words_text (item_words item))
item_line_above item ok = words_above (item_words item) (item_above item ok)

pub item_line_read : (item : Item) → CanBeWritten item → item_of (words_text (item_words item)) ≡ Ok item
item_line_read item ok = words_read (item_words item) (item_some item) (item_above item ok) ∙ item_read item ok

pub items_read : ItemsAreReadBack
unfolding item_line
items_read item line ok is =
    ap item_of (append_cancel_right line (words_text (item_words item)) (10 ∷ []) is) ∙ item_line_read item ok
