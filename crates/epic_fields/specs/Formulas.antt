-- The tags of hops, of their fields and of destination fields, under given keys.
use Rattle.std.specs.Prelude.{ℕ, List, take, drop}
use Rattle.epic_cmac.specs.Cmac.{cmac}
use Rattle.epic_num.specs.declared.hop.Body.{Body}
use Rattle.epic_num.specs.declared.name.HostId.{HostId}
use Rattle.epic_num.specs.Levels.{width_of}
use Rattle.epic_num.specs.Messages.{authenticator_message, link_message, field1_message, field23_message}
use Rattle.epic_layout.specs.Contents.{Contents}
use Rattle.epic_layout.specs.Spelling.{dest_message}

-- a hop's authenticator, under the forwarding key of its AS
unfoldable pub authenticator : List ℕ → Body → List ℕ
authenticator forwarding_key body = cmac forwarding_key (authenticator_message body)

-- a hop's link tag, under the same key: 8 bytes
unfoldable pub link_tag : List ℕ → Body → List ℕ
link_tag forwarding_key body = take 8 (cmac forwarding_key (link_message body))

-- a field of level 0, from the hop's authenticator
unfoldable pub field0 : List ℕ → List ℕ
field0 sigma = take 3 sigma

-- a field of level 1, under the hop's authenticator
unfoldable pub field1 : List ℕ → ℕ → HostId → ℕ → List ℕ
field1 sigma ts src hop = take 3 (cmac sigma (field1_message ts src hop))

-- the tag of which a field of level 2 or 3 and its update are parts, under the key that the hop's AS shares with the source
unfoldable pub field23 : List ℕ → ℕ → ℕ → HostId → ℕ → List ℕ → List ℕ
field23 key first ts src hop sigma = cmac key (field23_message first ts src hop sigma)

-- the field, which is the tag's first bytes
unfoldable pub field_part : ℕ → List ℕ → List ℕ
field_part first tag = take (width_of first) tag

-- the update that a router of level 3 puts in its place, which is the tag's next bytes
unfoldable pub update_part : ℕ → List ℕ → List ℕ
update_part first tag = take (width_of first) (drop (width_of first) tag)

-- a destination field, under the key that the destination shares with the source
unfoldable pub dest_tag : List ℕ → Contents → List (List ℕ) → List ℕ
dest_tag key packet updates = cmac key (dest_message packet updates)
