-- What the loop of `trace::print_cycles` holds: the state is that after the first k words. Assumes nothing.
use mathlib.Core.Path.{◌≡◌}
use Prim.Native.Nat.{◌≤◌}
use lib.ListN.{length, take}
use Rattle.state.specs.Fresh.{fresh_state}
use Rattle.cycle.specs.Cycle.{after}
use Rattle.trace_input.specs.Input.{words_of}
use Rattle.trace.proofs.print_cycles.Given as goal

abbrev pub invariant-loop-k : goal.invariant-loop-k
invariant-loop-k g l = (l.k ≤ length (words_of l.input)) × (l.state ≡ after l.image (fresh_state l.image) (take l.k (words_of l.input)))
