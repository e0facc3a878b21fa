-- Who holds the authenticator of a hop, and so can make fields of level 1 for it: the AS that issued it; the ASes to which it
-- was handed on in a beacon; and those that sent packets over it, as hosts and as their ASes.
use Rattle.std.specs.Prelude.{◌-◌, ◌&&◌, ◌||◌, Bool, List}
use Rattle.std.specs.List.{list_any}
use Rattle.epic_num.specs.declared.hop.HopName.{HopName}
use Rattle.epic_num.specs.declared.key_name.Holder.{Holder}
use Rattle.epic_num.specs.declared.key_name.Holder.TheVariants.{As, Host}
use Rattle.epic_num.specs.Chains.{Issue, last_names, chain}
use Rattle.epic_num.specs.Same.{same_name, same_holder}
use Rattle.epic_ledger.specs.Facts.{Facts, Sent}

-- one of the names is x
unfoldable pub is_in : HopName → List HopName → Bool
is_in x names = list_any (λ y. same_name y x) names

-- the names that stand in an issue's chain before its own: beacons are handed on with their authenticators
unfoldable pub names_before : List Issue → Issue → List HopName
names_before issues i = last_names issues (i.name.body.pos - 1) i.parent

-- the issue's AS is the holder, and x stands in its chain before it
unfoldable pub is_handed : List Issue → HopName → Holder → Issue → Bool
is_handed issues x h i = same_holder h (As i.name.asn) && is_in x (names_before issues i)

-- x is a hop of the packet's path, whose segments are the chains of issues
unfoldable pub is_sent_over : List Issue → HopName → Sent → Bool
is_sent_over issues x s = list_any (λ number. is_in x (chain issues number)) s.segments

-- the packet's source, or the source's AS, is the holder, and the packet was sent over x
unfoldable pub is_sender : List Issue → HopName → Holder → Sent → Bool
is_sender issues x h s = (same_holder h (Host s.packet.src) || same_holder h (As s.packet.src.asn)) && is_sent_over issues x s

-- the holder is one of those of x
unfoldable pub is_holder : Facts → HopName → Holder → Bool
is_holder f x h =
    same_holder h (As x.asn) || list_any (is_handed f.issues x h) f.issues || list_any (is_sender f.issues x h) f.sends
