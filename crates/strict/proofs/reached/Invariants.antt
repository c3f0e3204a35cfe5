-- `strict::reached`: the values are those of cycle t.
use mathlib.Core.Path.{◌≡◌}
use Rattle.strict.specs.Loops.Decoded.{values_at}
use Rattle.strict.proofs.reached.Given as goal

abbrev pub invariant-loop-t : goal.invariant-loop-t
invariant-loop-t l = l.values ≡ values_at l.netlist.image.now l.t
