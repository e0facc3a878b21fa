-- Works made ready.
use Rattle.epic_bench.specs.declared.work.Task.{Task}
use Rattle.epic_bench.specs.declared.work.Task.TheVariants as task
use Rattle.epic_bench.specs.declared.work.Work.{Work}
use Rattle.epic_bench.specs.declared.work.Work.TheVariants.{Aes, Cmac, Short, Routed, Arrived, Sends, Window, Policing}

-- what a task is of
abbrev pub work_of_task : Task → Work
work_of_task task.Aes = Aes
work_of_task task.Cmac = Cmac
work_of_task task.Short = Short
work_of_task (task.Routed level routed) = Routed level
work_of_task (task.Arrived arrived) = Arrived
work_of_task (task.Sends sends) = Sends
work_of_task (task.Window load) = Window load
work_of_task task.Policing = Policing
