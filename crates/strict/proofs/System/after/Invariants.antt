-- `strict::System::after`: the values of the nodes below n are the next ones.
use mathlib.Core.Path.{◌≡◌}
use Rattle.laws.specs.Table.{table_over}
use Rattle.strict.specs.Loops.System.{value_after}
use Rattle.strict.proofs.System.after.Given as goal

abbrev pub invariant-loop-n : goal.invariant-loop-n
invariant-loop-n l = l.next ≡ table_over (value_after l.self l.values) l.n l.values
