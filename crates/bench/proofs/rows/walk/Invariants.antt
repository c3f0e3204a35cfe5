-- `bench::rows::walk`: the records from j on are those after the cycle, the others are as they were, and `below` is the stop that record j was.
use Rattle.bench.proofs.WalkLaws.{Walked}
use Rattle.bench.proofs.rows.walk.Given as goal

abbrev pub invariant-loop-j : goal.invariant-loop-j
invariant-loop-j l = Walked l.initial.row l.link l.stop l.j l.row l.below
