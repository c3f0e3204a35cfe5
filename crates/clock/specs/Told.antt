-- What the answer of a run tells.
use Rattle.refusal.specs.Number.{number_if}
use Rattle.clock.specs.declared.Ran.{Ran}
use Rattle.cycle.specs.Run.{RunTold}

-- what the code's answer of a run tells, with a number for what stopped it
abbrev pub run_told : Ran → RunTold
run_told r = record { steps = r.steps; number = number_if r.stopped; state = r.state }
