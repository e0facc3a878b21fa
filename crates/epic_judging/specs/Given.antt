-- What a ledger has of what verdicts ask, as tests over its lists.
use Rattle.std.specs.Prelude.{ℕ, ◌==◌, ◌&&◌, ◌||◌, not, Bool, false, List, [], ◌∷◌, Option, Some, None, is_some, is_none, bytes_eq, if◌then◌else◌}
use Rattle.std.specs.List.{list_any, range_with_len}
use Rattle.std.specs.Option.{option_map_or}
use Rattle.epic_num.specs.declared.hop.HopName.{HopName}
use Rattle.epic_num.specs.declared.key_name.Holder.{Holder}
use Rattle.epic_num.specs.declared.name.AsId.{AsId}
use Rattle.epic_num.specs.declared.name.HostId.{HostId}
use Rattle.epic_num.specs.Chains.{Issue}
use Rattle.epic_num.specs.Levels.{is_tagged, is_updated}
use Rattle.epic_num.specs.Moments.{epoch_of}
use Rattle.epic_num.specs.Same.{same_as, same_host, same_name, same_holder}
use Rattle.epic_layout.specs.Contents.{Contents, hop_count}
use Rattle.epic_layout.specs.Spelling.{dest_message}
use Rattle.epic_topo.specs.Network.{Network}
use Rattle.epic_fields.specs.PacketTags.{hop_message}
use Rattle.epic_fields.specs.Tags.{sigma, link}
use Rattle.epic_ledger.specs.Facts.{Facts, Sent, Pass, Reveal, pass_name, sent_name}
use Rattle.epic_ledger.specs.Queries.{issue_of, is_send_of}
use Rattle.epic_audit.specs.Clauses.{sent_as}
use Rattle.epic_audit.specs.Made.{sent_updates}
use Rattle.epic_audit.specs.Reveals.{is_revealed}
use Rattle.epic_audit.specs.Verdicts.{broken_chain, source_of, uncovered}

-- ---- provenance

unfoldable pub is_issued : List Issue → HopName → Bool
is_issued issues x = is_some (issue_of issues x)

unfoldable pub is_chained : Facts → HopName → Contents → ℕ → Bool
is_chained f x p j = is_none (broken_chain f x p j)

unfoldable pub is_sourced : Facts → HopName → Contents → ℕ → Bool
is_sourced f x p j = is_some (source_of f x p j)

-- the provenance of hop j, whose name is x, is there
unfoldable pub hop_ok : Facts → HopName → Contents → ℕ → Bool
hop_ok f x p j =
    is_issued f.issues x && is_chained f x p j && (not (is_tagged p.first) || is_sourced f x p j)

-- the provenance of the packet at its destination is there
unfoldable pub dest_ok : Facts → Contents → Bool
dest_ok f p = is_some (sent_as f.sends p) && is_none (uncovered f p)

-- ---- reveals

-- the holder was revealed at this step
unfoldable pub is_revealed_at : List Reveal → ℕ → Holder → Bool
is_revealed_at reveals step h = list_any (λ r. same_holder r.holder h && r.step == step) reveals

-- one of these holders was
unfoldable pub any_revealed_at : List Reveal → List Holder → ℕ → Bool
any_revealed_at reveals hs step = list_any (is_revealed_at reveals step) hs

-- none of these holders was revealed
unfoldable pub none_revealed : List Reveal → List Holder → Bool
none_revealed reveals hs = not (list_any (is_revealed reveals) hs)

-- ---- what was made

-- the sent packet's hop, which is of this AS, has a field that is made over this message
unfoldable pub makes_at : Network → List Issue → AsId → List ℕ → Sent → ℕ → Bool
makes_at t issues asn message s hop =
    option_map_or
    (λ x. same_as x.asn asn && bytes_eq (hop_message t x s.packet hop) message)
    (sent_name issues s hop)
    false

-- the packet was sent by this source in this epoch, and one of its hops has
unfoldable pub makes_field : Network → List Issue → AsId → HostId → ℕ → List ℕ → Sent → Bool
makes_field t issues asn src epoch message s =
    same_host s.packet.src src
    && is_tagged s.packet.first
    && epoch_of t.profile s.packet.ts == epoch
    && list_any (makes_at t issues asn message s) (range_with_len 0 (hop_count s.packet))

-- the source made a field for this AS over this message
unfoldable pub made_field : Network → Facts → AsId → HostId → ℕ → List ℕ → Bool
made_field t f asn src epoch message = list_any (makes_field t f.issues asn src epoch message) f.sends

-- the packet was sent by this source to this destination in this epoch, and its destination field is made over this message
unfoldable pub makes_dest : Network → List Issue → HostId → HostId → ℕ → List ℕ → Sent → Bool
makes_dest t issues dst src epoch message s =
    same_host s.packet.src src
    && same_host s.packet.dst dst
    && is_tagged s.packet.first
    && epoch_of t.profile s.packet.ts == epoch
    && bytes_eq (dest_message s.packet (sent_updates t issues s)) message

-- the source made a destination field over this message
unfoldable pub made_dest : Network → Facts → HostId → HostId → ℕ → List ℕ → Bool
made_dest t f dst src epoch message = list_any (makes_dest t f.issues dst src epoch message) f.sends

-- the hop was accepted by this AS on a packet of this source in this epoch, and its update is made over this message
unfoldable pub gives_out : Network → AsId → HostId → ℕ → List ℕ → Pass → Bool
gives_out t asn src epoch message w =
    same_as w.asn asn
    && same_host w.packet.src src
    && is_updated w.packet.first
    && epoch_of t.profile w.packet.ts == epoch
    && bytes_eq (hop_message t (pass_name w) w.packet w.hop) message

-- a router of the AS gave out an update over this message
unfoldable pub given_out : Network → List Pass → AsId → HostId → ℕ → List ℕ → Bool
given_out t passes asn src epoch message = list_any (gives_out t asn src epoch message) passes

-- ---- the one packet

-- the element that passes the test, where just one does
unfoldable pub the_only : {X : Type 0} → (X → Bool) → List X → Option X
the_only p [] = None
the_only p (x ∷ xs) = if p x then (if list_any p xs then None else Some x) else the_only p xs

-- the one packet that p's source sent with p's timestamp
unfoldable pub only_send : List Sent → Contents → Option Sent
only_send sends p = the_only (is_send_of p.src p.ts) sends

-- ---- collisions

-- two hops with one link tag
unfoldable pub one_link : Network → HopName → HopName → Bool
one_link t x y = not (same_name x y) && bytes_eq (link t x) (link t y)

-- two hops of one AS with one authenticator
unfoldable pub one_sigma : Network → HopName → HopName → Bool
one_sigma t x y = not (same_name x y) && same_as x.asn y.asn && bytes_eq (sigma t x) (sigma t y)
