-- `clock::words_taken`: i words are taken, and then those that the rest gives.
use Rattle.std.proofs.Common.{◌≡◌, ◌≤◌}
use Rattle.cycle.specs.Loops.Taken.{taken_from, taken_after}
use Rattle.clock.proofs.words_taken.Given as goal

abbrev pub invariant-loop-i : goal.invariant-loop-i
invariant-loop-i l = (l.i ≤ l.room) × (taken_from l.nodes l.cycles l.words ≡ taken_after l.nodes l.cycles l.words l.i)
