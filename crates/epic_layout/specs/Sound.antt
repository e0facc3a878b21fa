-- Private: serves proofs of this crate and of epic_view's views; no public contract cites it.
-- What bytes without a fault keep.
use Rattle.std.specs.Prelude.{◌≡◌, ℕ, ◌+◌, ◌≤◌, false, true, List, length}
use Rattle.std.specs.Int.{w16}
use Rattle.epic_num.specs.Levels.{is_first_byte}
use Rattle.epic_layout.specs.Pieces.{byte, number}
use Rattle.epic_layout.specs.declared.wire.TheConstants.{FLAGS_AT, HEADER_LEN_AT, PAYLOAD_LEN_AT, SEGMENTS_AT, CURRENT_AT, MAX_SEGMENTS, MAX_HOPS, MAX_PAYLOAD}
use Rattle.epic_layout.specs.Contents.{segment_offset}
use Rattle.epic_layout.specs.Layout.{any_segment, is_reserved, is_miscounted, hops_in, header_len_in}

pub record IsSound (bytes : List ℕ) : Type 0 where
  pub first : is_first_byte (byte bytes 0) ≡ true
  pub flags : byte bytes FLAGS_AT ≡ 0
  pub some_segment : 1 ≤ byte bytes SEGMENTS_AT
  pub few_segments : byte bytes SEGMENTS_AT ≤ MAX_SEGMENTS
  pub segments_there : segment_offset (byte bytes SEGMENTS_AT) ≤ length bytes
  pub reserved : any_segment (is_reserved bytes) bytes ≡ false
  pub counted : any_segment (is_miscounted bytes) bytes ≡ false
  pub few_hops : hops_in bytes ≤ MAX_HOPS
  pub header : number w16 bytes HEADER_LEN_AT ≡ header_len_in bytes
  pub header_there : header_len_in bytes ≤ length bytes
  pub payload : number w16 bytes PAYLOAD_LEN_AT ≤ MAX_PAYLOAD
  pub whole : header_len_in bytes + number w16 bytes PAYLOAD_LEN_AT ≡ length bytes
  pub current : byte bytes CURRENT_AT ≤ hops_in bytes
