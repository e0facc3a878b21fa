use Rattle.std.proofs.Common.{arith}
use Rattle.epic_layout.proofs.Soundness.{sound}
use Rattle.epic_layout.proofs.checking.shape_of.Goals as goal

pub bounds-bytes-0 : goal.bounds-bytes-0
bounds-bytes-0 c = let s = sound c.args.bytes.now c.requires in omega (arith, s.segments_there)

pub bounds-bytes-6 : goal.bounds-bytes-6
bounds-bytes-6 c = let s = sound c.args.bytes.now c.requires in omega (arith, s.segments_there)

pub hops_of-requires-clause-few : goal.hops_of-requires-clause-few
hops_of-requires-clause-few c = (sound c.args.bytes.now c.requires).few_segments

pub hops_of-requires-clause-there : goal.hops_of-requires-clause-there
hops_of-requires-clause-there c = (sound c.args.bytes.now c.requires).segments_there

pub overflow_cast-result : goal.overflow_cast-result
overflow_cast-result c = let s = sound c.args.bytes.now c.requires in omega (arith, s.few_hops, c.hops_of.ensures)

pub u16_at-requires : goal.u16_at-requires
u16_at-requires c = let s = sound c.args.bytes.now c.requires in omega (arith, s.segments_there)

pub u16_at-requires-2 : goal.u16_at-requires-2
u16_at-requires-2 c = let s = sound c.args.bytes.now c.requires in omega (arith, s.segments_there)
