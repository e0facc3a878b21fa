-- When two packets' bytes have equal path bytes.
use Rattle.std.proofs.Common.{◌≡◌, ℕ, zero, suc, ◌+◌, ◌*◌, ◌<◌, List, [], ◌∷◌, ◌++◌, length, refl, ap, sym, ◌∙◌, arith}
use Rattle.std.specs.List.{flat_map, range_with_len}
use Rattle.std.proofs.lemmas.List.Concat.{flat_map-append}
use Rattle.epic_layout.specs.Pieces.{byte, piece}
use Rattle.epic_layout.specs.Route.{hop}
use Rattle.epic_layout.specs.Contents.{IsBytes}
use Rattle.epic_layout.specs.Layout.{parse, route_in, segments_in, hops_in, hop_offset, hop_at}
use Rattle.epic_layout.specs.Sound.{IsSound}
use Rattle.epic_layout.specs.Spelling.{segment_bytes, hop_bytes, path_bytes}
use Rattle.epic_layout.proofs.Ranges.{range_more}
use Rattle.epic_layout.proofs.Shapes.{segments_parse, hop_count_parse}
use Rattle.epic_layout.proofs.Offsets.{hop_there}
use Rattle.epic_layout.proofs.Parsed.{hop_parse}
use Rattle.epic_layout.proofs.Spelled.{segments_spelled, hop_bytes-at, path_bytes-parse}
use Rattle.epic_layout.proofs.Limits.{IsRoute-parse}
use Rattle.epic_layout.proofs.Codes.{same_route}

-- the pieces of the bytes that make the path bytes are equal
pub record SamePieces (l r : List ℕ) : Type 0 where
  pub segments : byte l 6 ≡ byte r 6
  pub hops : hops_in l ≡ hops_in r
  pub heads : piece l 40 (8 * byte l 6) ≡ piece r 40 (8 * byte l 6)
  pub each : (j : ℕ) → j < hops_in l → piece l (hop_offset l j) 13 ≡ piece r (hop_offset r j) 13

flat_map-same : (f g : ℕ → List ℕ) (n : ℕ) → ((j : ℕ) → j < n → f j ≡ g j) → flat_map f (range_with_len 0 n) ≡ flat_map g (range_with_len 0 n)
flat_map-same f g zero same = refl
flat_map-same f g (suc n) same =
    let more : suc n ≡ n + 1 = omega arith in
    let unroll = λ (h : ℕ → List ℕ). ap (λ k. flat_map h (range_with_len 0 k)) more ∙ ap (flat_map h) (range_more n) ∙ flat_map-append h (range_with_len 0 n) (n ∷ []) in
    unroll f
    ∙ (λ i. flat_map-same f g n (λ j l. same j (omega arith)) i ++ (same n (omega arith) i ++ []))
    ∙ sym (unroll g)

pub path_from_pieces : (l r : List ℕ) → IsBytes l → IsBytes r → IsSound l → IsSound r → SamePieces l r → path_bytes (parse l).route ≡ path_bytes (parse r).route
unfolding parse route_in
path_from_pieces l r bl br sl sr s =
    let counts : length (segments_in l) ≡ length (segments_in r) = segments_parse l ∙ s.segments ∙ sym (segments_parse r) in
    let heads : flat_map segment_bytes (segments_in l) ≡ flat_map segment_bytes (segments_in r) = segments_spelled l bl sl ∙ s.heads ∙ ap (λ n. piece r 40 (8 * n)) s.segments ∙ sym (segments_spelled r br sr) in
    let each = λ (j : ℕ) (h : j < hops_in l). hop_bytes-at l (hop_offset l j) bl (omega (arith, hop_there l j sl h)) ∙ s.each j h ∙ sym (hop_bytes-at r (hop_offset r j) br (omega (arith, hop_there r j sr (omega (arith, s.hops))))) in
    let hops : flat_map (λ j. hop_bytes (hop_at l j)) (range_with_len 0 (hops_in l)) ≡ flat_map (λ j. hop_bytes (hop_at r j)) (range_with_len 0 (hops_in r))
    = flat_map-same (λ j. hop_bytes (hop_at l j)) (λ j. hop_bytes (hop_at r j)) (hops_in l) each ∙ ap (λ n. flat_map (λ j. hop_bytes (hop_at r j)) (range_with_len 0 n)) s.hops in
    path_bytes-parse l ∙ (λ i. counts i ∷ (heads i ++ hops i)) ∙ sym (path_bytes-parse r)

pub pieces_from_path : (l r : List ℕ) → IsBytes l → IsBytes r → IsSound l → IsSound r → path_bytes (parse l).route ≡ path_bytes (parse r).route → SamePieces l r
unfolding parse route_in
pieces_from_path l r bl br sl sr e =
    let same = same_route (parse l).route (parse r).route (IsRoute-parse l bl sl) (IsRoute-parse r br sr) e in
    let segments : byte l 6 ≡ byte r 6 = sym (segments_parse l) ∙ ap (λ x. length x.segments) same ∙ segments_parse r in
    let hops : hops_in l ≡ hops_in r = sym (hop_count_parse l) ∙ ap (λ x. length x.hops) same ∙ hop_count_parse r in
    record {
      segments = segments;
      hops = hops;
      heads = sym (segments_spelled l bl sl) ∙ ap (λ x. flat_map segment_bytes x.segments) same ∙ segments_spelled r br sr ∙ ap (λ n. piece r 40 (8 * n)) (sym segments);
      each = λ j h.
          let there : j < hops_in r = omega (arith, hops) in
          let heads : hop_at l j ≡ hop_at r j = sym (hop_parse l j h) ∙ ap (λ x. hop x j) same ∙ hop_parse r j there in
          sym (hop_bytes-at l (hop_offset l j) bl (omega (arith, hop_there l j sl h))) ∙ ap hop_bytes heads ∙ hop_bytes-at r (hop_offset r j) br (omega (arith, hop_there r j sr there));
    }
