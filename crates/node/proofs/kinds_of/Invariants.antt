-- `node::kinds_of`: the kinds of the nodes below n are read.
use Rattle.node.specs.Kinds.{KindsBelow}
use Rattle.node.proofs.kinds_of.Given as goal

abbrev pub invariant-loop-n : goal.invariant-loop-n
invariant-loop-n l = KindsBelow l.netlist.image.now l.n l.kinds
