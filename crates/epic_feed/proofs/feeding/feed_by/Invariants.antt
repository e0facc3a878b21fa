use Rattle.std.proofs.Common.{◌+◌, ◌-◌, ◌*◌, ℕ, List, [], ◌++◌, length, Option}
use Rattle.epic_ports.specs.Faults.{CountsOnly}
use Rattle.epic_ports.specs.Files.{Files}
use Rattle.epic_feed.specs.Files.{Holds, SameFile}
use Rattle.epic_feed.specs.Going.{Going}
use Rattle.epic_feed.proofs.feeding.feed_by.Given as goal

-- the reader was fed the file up to a place, and what it handed out was taken
abbrev pub invariant-loop-found : goal.invariant-loop-found
invariant-loop-found g l =
    ((x : g.row.T.Denot) (s : g.row.S.Denot) (o : g.row.O.Denot) (files : Option Files) (rest : List ℕ)
    → g.T.Taker.took x s o [] l.initial.taker l.initial.store l.initial.out
    → SameFile l.name files (g.S.Store.contents l.initial.store) → Holds files l.name (l.first ++ rest)
    → Going g.R.Form.stream files l.name l.first l.fn.reader l.reader l.at (g.T.Taker.room l.taker)
    (λ xs. g.T.Taker.took x s o xs l.taker l.store l.out))
    × SameFile l.name (g.S.Store.contents l.initial.store) (g.S.Store.contents l.store)
    × g.T.Taker.spares l.taker l.name
    × CountsOnly l.name (g.S.Store.reads l.initial.store) (g.S.Store.reads l.store)

abbrev pub decreases-loop-found : goal.decreases-loop-found
decreases-loop-found g l = (67174400 - l.at) * 65537 + length (g.R.Form.stream.held l.reader)
