-- `netlist::Netlist::wires`: the fields of the channels below c are read.
use mathlib.Core.Path.{◌≡◌}
use Rattle.laws.specs.Lists.{padded}
use Rattle.laws.specs.Table.{table}
use Rattle.image.specs.Readers.{wire_at, no_wire}
use Rattle.netlist.proofs.Netlist.wires.Given as goal

abbrev pub invariant-loop-c : goal.invariant-loop-c
invariant-loop-c l = l.wires ≡ padded 96 no_wire (table (wire_at l.self.image.now) l.c)
