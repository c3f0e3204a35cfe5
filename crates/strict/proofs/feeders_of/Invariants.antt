-- `strict::feeders_of`: the feeders by the channels below c are written.
use mathlib.Core.Path.{◌≡◌}
use Rattle.strict.specs.Loops.Decoded.{feeders_below}
use Rattle.strict.proofs.feeders_of.Given as goal

abbrev pub invariant-loop-c : goal.invariant-loop-c
invariant-loop-c l = l.feeders ≡ feeders_below l.netlist.image.now l.c
