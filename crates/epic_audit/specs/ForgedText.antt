-- The words of a forgery: what was forged, the name of the tag's key, what the tag is made over, and the tag as it
-- stands in the packet.
use Rattle.std.specs.Prelude.{ℕ, ◌&&◌, Bool, true, false, List, [], ◌∷◌, codes, decimal, if◌then◌else◌}
use Rattle.std.specs.List.{join_with_byte}
use Rattle.hex.specs.Hex.{encode_lower}
use Rattle.epic_num.specs.declared.hop.HopName.{HopName}
use Rattle.epic_num.specs.declared.hop.Level.{Level}
use Rattle.epic_num.specs.declared.hop.Level.TheVariants.{L0}
use Rattle.epic_num.specs.declared.key_name.KeyName.{KeyName}
use Rattle.epic_num.specs.declared.key_name.KeyName.TheVariants as keys
use Rattle.epic_num.specs.declared.verdict.ForgedKind.{ForgedKind}
use Rattle.epic_num.specs.declared.verdict.ForgedKind.TheVariants.{Issue, Field, Update, Dest}
use Rattle.epic_num.specs.declared.verdict.Forgery.{Forgery}
use Rattle.epic_num.specs.Levels.{is_tagged, is_updated, level_of}
use Rattle.epic_num.specs.Messages.{authenticator_message, field1_message}
use Rattle.epic_num.specs.Names.{as_text, host_text}
use Rattle.epic_layout.specs.Contents.{Contents, field}
use Rattle.epic_layout.specs.Route.{body}
use Rattle.epic_layout.specs.Spelling.{dest_message}
use Rattle.epic_topo.specs.Network.{Network}
use Rattle.epic_keys.specs.Keys.{owner}
use Rattle.epic_fields.specs.HopChecks.{hop_name}
use Rattle.epic_fields.specs.PacketTags.{field_name}
use Rattle.epic_fields.specs.PacketTags.{hop_message}
use Rattle.epic_layout.specs.Updates.{own_updates}

-- words with a space between two
abbrev pub words_text : List (List ℕ) → List ℕ
words_text words = join_with_byte 32 words

-- the kind of a key and the parts of its name, with a comma between two
unfoldable pub key_text : KeyName → List ℕ
key_text (keys.Fwd a g) = join_with_byte 44 (codes "fwd" ∷ as_text a.0 ∷ decimal g ∷ [])
key_text (keys.Field a src epoch) =
    join_with_byte 44 (codes "field" ∷ as_text a.0 ∷ host_text src ∷ decimal epoch ∷ [])
key_text (keys.Dest dst src epoch) =
    join_with_byte 44 (codes "dest" ∷ host_text dst ∷ host_text src ∷ decimal epoch ∷ [])

-- ---- when a forgery can be one of the packet

-- the key has the form of its kind: a forwarding key, a key shared with the source, or one of source and destination
unfoldable pub has_form : ForgedKind → KeyName → Bool
has_form Issue (keys.Fwd a g) = true
has_form Field (keys.Field a src epoch) = true
has_form Update (keys.Field a src epoch) = true
has_form Dest (keys.Dest dst src epoch) = true
has_form kind key = false

-- fields are made for a source at levels 2 and 3, destination fields too, and updates at level 3
unfoldable pub fits_level : ForgedKind → ℕ → Bool
fits_level Issue first = true
fits_level Field first = is_tagged first
fits_level Dest first = is_tagged first
fits_level Update first = is_tagged first && is_updated first

-- ---- the hop

-- the hop of which the forgery speaks, as the key's owner authenticates it
unfoldable pub forged_hop : Contents → Forgery → HopName
forged_hop p f = hop_name (owner f.key) f.generation p f.hop

-- ---- the words

-- what the authenticator of hop j is made over
unfoldable pub authenticator_text : Contents → ℕ → List ℕ
authenticator_text p j = encode_lower (authenticator_message (body p.route j))

-- the field of hop j
unfoldable pub field_text : Contents → ℕ → List ℕ
field_text p j = encode_lower (field p j)

-- a hop that was never issued, whose field is made over its authenticator: the key of the field, and its message
abbrev pub over_words : List ℕ → List ℕ → Contents → Forgery → List (List ℕ)
over_words key message p f =
    codes "issue-over"
    ∷ key_text f.key
    ∷ authenticator_text p f.hop
    ∷ key
    ∷ encode_lower message
    ∷ field_text p f.hop
    ∷ []

-- at level 0 the field is a part of the authenticator, and at level 1 the authenticator is the key of the field
abbrev pub static_words : Level → Contents → Forgery → List (List ℕ)
static_words L0 p f = codes "issue" ∷ key_text f.key ∷ authenticator_text p f.hop ∷ field_text p f.hop ∷ []
static_words level p f = over_words (codes "sigma") (field1_message p.ts p.src f.hop) p f

-- at levels 2 and 3 the key of the field is the one that the AS shares with the source
abbrev pub shared_words : Network → Contents → Forgery → List (List ℕ)
shared_words t p f = over_words (key_text (field_name t (owner f.key) p)) (hop_message t (forged_hop p f) p f.hop) p f

abbrev pub issue_words : Network → Contents → Forgery → List (List ℕ)
issue_words t p f = if is_tagged p.first then shared_words t p f else static_words (level_of p.first) p f

abbrev pub field_words : Network → Contents → Forgery → List (List ℕ)
field_words t p f =
    codes "field" ∷ key_text f.key ∷ encode_lower (hop_message t (forged_hop p f) p f.hop) ∷ field_text p f.hop ∷ []

abbrev pub update_words : Network → Contents → Forgery → List (List ℕ)
update_words t p f =
    codes "update"
    ∷ decimal f.hop
    ∷ key_text f.key
    ∷ encode_lower (hop_message t (forged_hop p f) p f.hop)
    ∷ field_text p f.hop
    ∷ []

abbrev pub dest_words : Contents → Forgery → List (List ℕ)
dest_words p f =
    codes "dest" ∷ key_text f.key ∷ encode_lower (dest_message p (own_updates p)) ∷ encode_lower p.dest_field ∷ []

abbrev pub kind_words : ForgedKind → Network → Contents → Forgery → List (List ℕ)
kind_words Issue t p f = issue_words t p f
kind_words Field t p f = field_words t p f
kind_words Update t p f = update_words t p f
kind_words Dest t p f = dest_words p f

-- the words of a forgery
unfoldable pub forged_words : Network → Contents → Forgery → List (List ℕ)
forged_words t p f = codes "forged" ∷ kind_words f.kind t p f

unfoldable pub forged_text : Network → Contents → Forgery → List ℕ
forged_text t p f = words_text (forged_words t p f)
