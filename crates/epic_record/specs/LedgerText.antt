-- The lines of a ledger file.
use Rattle.std.specs.Prelude.{ℕ, Bool, true, false, List, [], ◌∷◌, ◌++◌, codes, decimal, flat_map}
use Rattle.hex.specs.Hex.{encode_lower}
use Rattle.epic_num.specs.declared.key_name.Holder.{Holder}
use Rattle.epic_num.specs.declared.key_name.Holder.TheVariants as holder
use Rattle.epic_num.specs.declared.passed.Place.{Place}
use Rattle.epic_num.specs.declared.passed.Place.TheVariants as place
use Rattle.epic_num.specs.Bodies.{body_bytes}
use Rattle.epic_num.specs.Names.{as_text, host_text}
use Rattle.epic_ledger.specs.declared.event.Event.{Event}
use Rattle.epic_ledger.specs.declared.event.Event.TheVariants as event
use Rattle.epic_audit.specs.ForgedText.{words_text}
use Rattle.epic_text.specs.Line.{bytes_text}
use Rattle.epic_text.specs.Report.{numbers_text}
use Rattle.epic_record.specs.declared.item.Item.{Item}
use Rattle.epic_record.specs.declared.item.Item.TheVariants as items

-- who is revealed: an AS or a host
unfoldable pub holder_text : Holder → List ℕ
holder_text (holder.As a) = as_text a.0
holder_text (holder.Host h) = host_text h

-- `1` where the packet's destination field was checked, and else `0`
abbrev pub checked_text : Bool → List ℕ
checked_text true = codes "1"
checked_text false = codes "0"

-- an event: its verb, its step, and its parts
unfoldable pub event_words : Event → List (List ℕ)
event_words (event.Issue step number name parent) =
    codes "issue"
    ∷ decimal step
    ∷ decimal number
    ∷ as_text name.asn.0
    ∷ decimal name.generation
    ∷ encode_lower (body_bytes name.body)
    ∷ decimal parent
    ∷ []
event_words (event.Fetch step source owner epoch) =
    codes "fetch" ∷ decimal step ∷ as_text source.0 ∷ as_text owner.0 ∷ decimal epoch ∷ []
event_words (event.Send step emission segments) =
    codes "send" ∷ decimal step ∷ decimal emission ∷ numbers_text segments.items ∷ []
event_words (event.Pass step a hop generation emission) =
    codes "pass" ∷ decimal step ∷ as_text a.0 ∷ decimal hop ∷ decimal generation ∷ decimal emission ∷ []
event_words (event.Arrive step host src ts hops checked) =
    codes "arrive"
    ∷ decimal step
    ∷ host_text host
    ∷ host_text src
    ∷ decimal ts
    ∷ decimal hops
    ∷ checked_text checked
    ∷ []
event_words (event.Reveal step who) = codes "reveal" ∷ decimal step ∷ holder_text who ∷ []
event_words (event.Roll step a generation) =
    codes "roll" ∷ decimal step ∷ as_text a.0 ∷ decimal generation ∷ []

-- a packet under way: its number, at which router and interface or at which host it is due, and its bytes
unfoldable pub emission_words : ℕ → Place → List ℕ → List (List ℕ)
emission_words number (place.Router a iface) bytes =
    codes "emit" ∷ decimal number ∷ codes "turn" ∷ as_text a.0 ∷ decimal iface ∷ bytes_text bytes ∷ []
emission_words number (place.Host host) bytes =
    codes "emit" ∷ decimal number ∷ codes "arrive" ∷ host_text host ∷ bytes_text bytes ∷ []

abbrev pub item_words : Item → List (List ℕ)
item_words (items.Event e) = event_words e
item_words (items.Emission number due bytes) = emission_words number due bytes
item_words (items.AcceptHop a generation hop bytes) =
    codes "accept"
    ∷ codes "hop"
    ∷ as_text a.0
    ∷ decimal generation
    ∷ decimal hop
    ∷ bytes_text bytes
    ∷ []
item_words (items.AcceptDest host bytes) =
    codes "accept" ∷ codes "dest" ∷ host_text host ∷ bytes_text bytes ∷ []

-- words with a space between two, and a line feed
abbrev pub words_line : List (List ℕ) → List ℕ
words_line words = words_text words ++ (10 ∷ [])

unfoldable pub item_line : Item → List ℕ
item_line item = words_line (item_words item)

unfoldable pub ledger_text : List Item → List ℕ
ledger_text told = flat_map item_line told
