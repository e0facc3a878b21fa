-- Private: serves proofs of this crate alone; no public contract cites it.
-- What a view of a packet's bytes keeps.
use Rattle.std.specs.Prelude.{◌≡◌, ℕ, List}
use Rattle.epic_layout.specs.declared.wire.TheConstants.{SEGMENTS_AT}
use Rattle.epic_layout.specs.Pieces.{byte}
use Rattle.epic_layout.specs.Contents.{segment_offset, shape}
use Rattle.epic_layout.specs.Layout.{parse, hops_in, hop_len, header_len_in}
use Rattle.epic_layout.specs.Sound.{IsSound}
use Rattle.epic_view.specs.declared.frame.Frame.{Frame}

-- the bytes have no fault, and the frame has the sizes that they tell of
pub record IsView (bytes : List ℕ) (frame : Frame) : Type 0 where
  pub sound : IsSound bytes
  pub shape_is : frame.shape ≡ shape (parse bytes)
  pub segments_is : frame.shape.segments ≡ byte bytes SEGMENTS_AT
  pub hops_is : frame.shape.hops ≡ hops_in bytes
  pub header_is : frame.shape.header ≡ header_len_in bytes
  pub hops_at_is : frame.hops_at ≡ segment_offset (byte bytes SEGMENTS_AT)
  pub hop_len_is : frame.hop_len ≡ hop_len bytes
