-- `verdict::passes::feed_ports`: no channel so far found its port fed already, and the ports that are fed are the definition's below i.
use Rattle.std.proofs.Common.{◌≡◌, ◌≤◌, false}
use Rattle.verdict.specs.Loops.Passes.{fed_below, twice_below}
use Rattle.verdict.proofs.passes.feed_ports.Given as goal

abbrev pub invariant-loop-i : goal.invariant-loop-i
invariant-loop-i l = (l.i ≤ l.c) × (twice_below l.image l.i ≡ false) × (l.ports ≡ fed_below l.image l.i)
