-- `state::State::started`: the first n nodes are filled in, and then the first c channels are pending.
use mathlib.Core.Path.{◌≡◌}
use Prim.Native.Nat.{◌≤◌}
use Rattle.image.specs.Image.{nodes}
use Rattle.state.specs.Laws.Fresh.{filled}
use Rattle.state.proofs.State.started.Given as goal

abbrev pub invariant-loop-n : goal.invariant-loop-n
invariant-loop-n l = (l.n ≤ l.nodes) × (l.state ≡ filled l.netlist.image.now l.n 0)

abbrev pub invariant-loop-c : goal.invariant-loop-c
invariant-loop-c l = (l.c ≤ l.channels) × (l.state ≡ filled l.netlist.image.now (nodes l.netlist.image.now) l.c)
