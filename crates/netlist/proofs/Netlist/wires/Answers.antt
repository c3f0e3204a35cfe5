-- `netlist::Netlist::wires` meets its contract. Assumes nothing.
use mathlib.Core.Path.{refl}
use Prim.Native.Nat.{◌<◌}
use native.Mathlib.Omega.{arith}
use Rattle.laws.specs.Lists.{padded}
use Rattle.laws.specs.Table.{table}
use Rattle.laws.specs.Laws.Table.{padded_next}
use Rattle.image.specs.Readers.{wire_at, no_wire}
use Rattle.netlist.proofs.Netlist.wires.Goals as goal

pub loop-c-init : goal.loop-c-init
unfolding padded table
loop-c-init c = refl

pub loop-c-preserved : goal.loop-c-preserved
loop-c-preserved c =
    let h : c.loop-c.c < 96 = omega (arith, c.channels-c-end.ensures.few) in
    padded_next (wire_at c.args.self.image.now) 96 no_wire h c.loop-c.invariant c.wire.ensures.value
