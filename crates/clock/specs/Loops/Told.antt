-- What the words that a run takes tell.
use Rattle.refusal.specs.Number.{number_if}
use Rattle.clock.specs.declared.Taken.{Taken}
use Rattle.cycle.specs.Loops.Taken.{TakenTold, taken}

-- what the code's answer tells of the words that a run takes
abbrev pub taken_told : Taken → TakenTold
taken_told t = taken t.steps (number_if t.stopped)
