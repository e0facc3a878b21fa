-- A packet without fields, written part by part.
use Rattle.std.proofs.Common.{◌≡◌, ℕ, ◌<◌, ◌≤◌, ◌^◌, true, List, [], ◌∷◌, ◌++◌, length, take, replicate, refl, ap, sym, ◌∙◌, arith, if◌then◌else◌}
use Rattle.std.specs.List.{All, flat_map, zip}
use Rattle.std.proofs.lemmas.List.{length-replicate, take-replicate}
use Rattle.std.proofs.lemmas.List.Elements.{All-replicate}
use Rattle.epic_num.specs.declared.name.HostId.{HostId}
use Rattle.epic_num.specs.Levels.{width_of, is_first_byte, is_tagged}
use Rattle.epic_num.specs.Messages.{IsHost}
use Rattle.epic_layout.specs.declared.head.SegmentHead.{SegmentHead}
use Rattle.epic_layout.specs.declared.head.HopHead.{HopHead}
use Rattle.epic_layout.specs.declared.wire.TheConstants.{DEST_LEN, MAX_PAYLOAD}
use Rattle.epic_layout.specs.Route.{hops_of}
use Rattle.epic_layout.specs.Contents.{IsHop, IsPacket, AreSegments, unfilled}
use Rattle.epic_layout.specs.Spelling.{segment_bytes, hop_bytes, hop_with_field, size_bytes, end_bytes, dest_bytes, spelling}
use Rattle.epic_layout.proofs.Encoded.{spelled_from}
use Rattle.epic_layout.proofs.Offsets.{width_most}

pub zeros_wide : (first : ℕ) → take {A = ℕ} (width_of first) (replicate 6 0) ≡ replicate {A = ℕ} (width_of first) 0
zeros_wide first = take-replicate (width_of first) 6 0 (width_most first)

pub ruleset widths = (width_most, zeros_wide)

-- each hop with the same field
rows_alike : (v : List ℕ) (hops : List HopHead) → flat_map hop_with_field (zip hops (replicate (length hops) v)) ≡ flat_map (λ h. hop_bytes h ++ v) hops
unfolding hop_with_field
rows_alike v [] = refl
rows_alike v (h ∷ hops) = ap (λ rest. (hop_bytes h ++ v) ++ rest) (rows_alike v hops)

-- what the types of the parts say of them
pub record FitsParts (src dst : HostId) (ts : ℕ) (segments : List SegmentHead) (hops : List HopHead) : Type 0 where
  pub source : IsHost src
  pub dest : IsHost dst
  pub time : ts < 2 ^ 64
  pub heads : All (λ s. s.ts_path < 2 ^ 32) segments
  pub rows : All IsHop hops

pub IsPacket-unfilled : (first : ℕ) (src dst : HostId) (ts : ℕ) (segments : List SegmentHead) (hops : List HopHead) (payload : List ℕ)
    → is_first_byte first ≡ true → AreSegments segments → hops_of segments ≡ length hops → length payload ≤ MAX_PAYLOAD
    → FitsParts src dst ts segments hops
    → IsPacket (unfilled first src dst ts (record { segments = segments; hops = hops }) payload)
unfolding unfilled
IsPacket-unfilled first src dst ts segments hops payload exists s counted few fits = record {
  exists = exists;
  src = fits.source;
  dst = fits.dest;
  ts = fits.time;
  route = record {
    some_segment = s.some_segment;
    few_segments = s.few_segments;
    segments = λ k d h. record { least = s.least k d h; most = s.most k d h; ts_path = fits.heads k d h };
    counted = counted;
    few_hops = omega (arith, counted, s.few_hops);
    hops = fits.rows;
  };
  current = omega arith;
  counted = length-replicate (length hops) (replicate (width_of first) 0);
  fields = All-replicate (λ v. length v ≡ width_of first) (length hops) (replicate (width_of first) 0) (length-replicate (width_of first) 0);
  dest_length = refl;
  untagged = λ _. refl;
  payload = few;
}

-- the parts put one after the other are the spelling
pub written : (first : ℕ) (src dst : HostId) (ts : ℕ) (segments : List SegmentHead) (hops : List HopHead) (payload : List ℕ) (o1 o2 o3 o4 o5 o6 : List ℕ)
    → o1 ≡ size_bytes (unfilled first src dst ts (record { segments = segments; hops = hops }) payload)
    → o2 ≡ o1 ++ end_bytes (unfilled first src dst ts (record { segments = segments; hops = hops }) payload)
    → o3 ≡ o2 ++ flat_map segment_bytes segments
    → o4 ≡ o3 ++ flat_map (λ h. hop_bytes h ++ replicate (width_of first) 0) hops
    → o5 ≡ o4 ++ (if is_tagged first then replicate DEST_LEN 0 else [])
    → o6 ≡ o5 ++ payload
    → o6 ≡ spelling (unfilled first src dst ts (record { segments = segments; hops = hops }) payload)
unfolding unfilled dest_bytes
written first src dst ts segments hops payload o1 o2 o3 o4 o5 o6 e1 e2 e3 e4 e5 e6 =
    spelled_from (unfilled first src dst ts (record { segments = segments; hops = hops }) payload) o1 o2 o3 o4 o5 o6 e1 e2 e3
    (e4 ∙ ap (λ rows. o3 ++ rows) (sym (rows_alike (replicate (width_of first) 0) hops))) e5 e6
