use Rattle.std.proofs.Common.{◌≡◌, ◌≤◌, [], length, Ok, Err, refl, arith, rules}
use Rattle.epic_topo.specs.Reading.{topology}
use Rattle.epic_topo.specs.declared.fault.TopoError.TheVariants.{Bad}
use Rattle.epic_app.specs.Doing.{by_topology, on_topology, whole}
use Rattle.epic_app.specs.Limits.{topology_limit}
use Rattle.epic_app.specs.Readings.{Whole, Failed, Unread}
use Rattle.epic_app.proofs.FileLaws.{begins_nothing, holds, holds_more, long_topology, read_topology}
use Rattle.epic_app.proofs.files.topology_in.Goals as goal

pub returns-in-Err-Failed-clause-leads : goal.returns-in-Err-Failed-clause-leads
unfolding on_topology whole
returns-in-Err-Failed-clause-leads g c =
    let rose = rw c.in-Err-Failed.field-0-is at c.in-Err-Failed.ensures.cause in
    record { reading = Failed []; is_reading = (begins_nothing _ _, rose); leads = λ next. refl; early = (refl, rose) }

pub returns-in-Err-TooLong-clause-leads : goal.returns-in-Err-TooLong-clause-leads
returns-in-Err-TooLong-clause-leads g c =
    let long = holds_more _ _ _ (rw c.in-Err-TooLong.field-0-is at c.in-Err-TooLong.ensures.file) in
    record { reading = Whole long.bytes; is_reading = long.holds; leads = λ next. long_topology _ next long.bytes long.many; early = tt }

pub returns-in-Err-OutOfMemory-clause-leads : goal.returns-in-Err-OutOfMemory-clause-leads
unfolding on_topology whole
returns-in-Err-OutOfMemory-clause-leads g c = record { reading = Unread; is_reading = tt; leads = λ next. refl; early = tt }

pub returns-in-Ok-read_topology-clause-leads : goal.returns-in-Ok-read_topology-clause-leads
unfolding by_topology
returns-in-Ok-read_topology-clause-leads g c =
    let bytes = c.in-Ok.text.items in
    let few : length bytes ≤ topology_limit = omega (arith, c.in-Ok.ensures.bound, c.in-Ok.text.ok.0) in
    let is : topology bytes ≡ Ok c.in-Ok-read_topology.topo = search rules in
    record { reading = Whole bytes; is_reading = holds _ _ _ c.in-Ok.text c.in-Ok.ensures.file; leads = λ next. read_topology _ next bytes _ few is; early = tt }

pub returns-in-Err-Bad-clause-leads : goal.returns-in-Err-Bad-clause-leads
unfolding by_topology
returns-in-Err-Bad-clause-leads g c =
    let bytes = c.in-Ok.text.items in
    let few : length bytes ≤ topology_limit = omega (arith, c.in-Ok.ensures.bound, c.in-Ok.text.ok.0) in
    let is : topology bytes ≡ Err (Bad c.in-Err-Bad.kind c.in-Err-Bad.key c.in-Err-Bad.item) = search rules in
    rw (c.in-Err-Bad.kind-is, c.in-Err-Bad.key-is, c.in-Err-Bad.item-is)
    (record { reading = Whole bytes; is_reading = holds _ _ _ c.in-Ok.text c.in-Ok.ensures.file; leads = λ next. read_topology _ next bytes _ few is; early = tt })

pub returns-clause-leads : goal.returns-clause-leads
unfolding on_topology whole
returns-clause-leads g c = record { reading = Unread; is_reading = tt; leads = λ next. refl; early = tt }
