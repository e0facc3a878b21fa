-- Counts and tests over the hops of all segments.
use Rattle.std.proofs.Common.{◌≡◌, ℕ, ◌+◌, ◌<◌, List, [], ◌∷◌, ◌++◌, length, take, get_or, refl, ap, ◌∙◌}
use Rattle.std.specs.Prelude.{◌&&◌}
use Rattle.std.specs.List.{list_all, flat_map}
use Rattle.std.proofs.lemmas.List.{length-append, append-nil, take_more}
use Rattle.std.proofs.lemmas.List.Concat.{flat_map-append}
use Rattle.std.proofs.lemmas.List.Folds.{list_all-append}
use Rattle.epic_layout.specs.declared.packet.PacketSegment.{PacketSegment}
use Rattle.epic_layout.specs.Packets.{all_hops, are_fields, is_field}

pub length-all_hops-more : (ss : List PacketSegment) (i : ℕ) (d : PacketSegment) → i < length ss → length (all_hops (take (i + 1) ss)) ≡ length (all_hops (take i ss)) + length (get_or ss i d).hops.items
unfolding all_hops
length-all_hops-more ss i d h =
    let s = get_or ss i d in
    ap (λ xs. length (flat_map (λ (t : PacketSegment). t.hops.items) xs)) (take_more ss i d h)
    ∙ ap length (flat_map-append (λ (t : PacketSegment). t.hops.items) (take i ss) (s ∷ []))
    ∙ length-append (all_hops (take i ss)) (s.hops.items ++ [])
    ∙ ap (λ n. length (all_hops (take i ss)) + length n) (append-nil s.hops.items)

pub are_fields-all_hops : (w : ℕ) (ss : List PacketSegment) → are_fields w (all_hops ss) ≡ list_all (λ s. are_fields w s.hops.items) ss
unfolding all_hops are_fields
are_fields-all_hops w [] = refl
are_fields-all_hops w (s ∷ ss) = list_all-append (λ h. is_field w h.field) s.hops.items (all_hops ss) ∙ ap (λ b. list_all (λ h. is_field w h.field) s.hops.items && b) (are_fields-all_hops w ss)

pub ruleset hops_steps = (length-all_hops-more)

pub ruleset fields_of_all = (are_fields-all_hops)
