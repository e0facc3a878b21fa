use Rattle.std.proofs.Common.{sym}
use Rattle.epic_layout.proofs.Decoded.{start_before}
use Rattle.epic_layout.proofs.decoding.segments_from.Goals as goal

pub loop-i-init : goal.loop-i-init
loop-i-init c = record { made = c.new-segments.ensures.items; passed = sym (start_before c.args.bytes.now) }
