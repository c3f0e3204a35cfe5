-- `strict::first`: the parameters of the nodes below n are written.
use mathlib.Core.Path.{◌≡◌}
use lib.IntN.{pos}
use Rattle.laws.specs.Lists.{padded}
use Rattle.laws.specs.Table.{table}
use Rattle.image.specs.Image.{parameter}
use Rattle.strict.proofs.first.Given as goal

abbrev pub invariant-loop-n : goal.invariant-loop-n
invariant-loop-n l = l.values ≡ padded 65 (pos 0) (table (parameter l.netlist.image.now) l.n)
