-- Lines of ledger files, and what they tell.
use Rattle.std.proofs.Common.{◌≡◌, refl, ◌∷◌, Ok, Err, codes, true}
use Rattle.epic_num.specs.Names.{number_within, as_from, as_part_of, groups_of, low_groups_of, host_from}
use Rattle.epic_ledger.specs.declared.event.Event.TheVariants as event
use Rattle.epic_text.specs.RunScript.{as_named}
use Rattle.epic_record.specs.declared.fault.FileKind.TheVariants.{NotText, UnknownVerb, WordCount, BadWord, BadPlace}
use Rattle.epic_record.specs.declared.item.Item.TheVariants as items
use Rattle.epic_record.specs.LedgerLine.{item_of}

rolled : item_of (codes "roll 1 1-ff00:0:112 4294967295") ≡ Ok (items.Event (event.Roll 1 (record { 0 = 0x1ff0000000112 }) 4294967295))
unfolding item_of number_within as_named as_from as_part_of groups_of low_groups_of
rolled = refl

above_its_type : item_of (codes "roll 1 1-ff00:0:112 4294967296") ≡ Err (BadWord 4)
unfolding item_of number_within as_named as_from as_part_of groups_of low_groups_of
above_its_type = refl

of_no_source : item_of (codes "arrive 1 1-ff00:0:112,1 0-0,0 0 2 1") ≡ Ok (items.Event (event.Arrive 1 (record { asn = record { 0 = 0x1ff0000000112 }; host = 1 }) (record { asn = record { 0 = 0 }; host = 0 }) 0 2 true))
unfolding item_of number_within host_from as_from as_part_of groups_of low_groups_of
of_no_source = refl

checked_twice : item_of (codes "arrive 1 1-ff00:0:112,1 0-0,0 0 2 2") ≡ Err BadPlace
unfolding item_of number_within host_from as_from as_part_of groups_of low_groups_of
checked_twice = refl

form_before_number : item_of (codes "emit x forward") ≡ Err (BadWord 3)
unfolding item_of
form_before_number = refl

no_form : item_of (codes "accept") ≡ Err WordCount
unfolding item_of
no_form = refl

two_spaces : item_of (codes "reveal  1-1") ≡ Err (BadWord 2)
unfolding item_of number_within
two_spaces = refl

empty_line : item_of (codes "") ≡ Err UnknownVerb
unfolding item_of
empty_line = refl

with_a_tab : item_of (9 ∷ codes "x") ≡ Err NotText
unfolding item_of
with_a_tab = refl
