-- What a call for a cycle's line and one for the closing line have done, by equations with the definitions: what was returned, and what the lent
-- slice holds after it. Each contract ensures its record as it stands here.
use Rattle.std.specs.Prelude.{not, List, ◌≡◌, ℕ, eqb, Result, Ok, Err}
use Rattle.laws.specs.Choice.{◌if◌else◌, ◌then◌}
use Rattle.refusal.specs.Number.{number}
use Rattle.state.specs.declared.Refused.{Refused}
use Rattle.state.specs.declared.State.{State}
use Rattle.cycle.specs.Cycle.{state_after}
use Rattle.fitting.specs.Fits.{state_number}
use Rattle.engine.specs.Answer.{step_number}
use Rattle.text.specs.Lines.{closing_text}
use Rattle.writer.specs.Write.{written_answer, written_over, WriteTold, write_refusal, write_told}
use Rattle.tracer.specs.declared.Lined.{Lined}
use Rattle.tracer.specs.Trace.{cycle_text, firings_of}

-- what a call for a cycle's line answers: the number of its refusal, 0 where there is none, how long the line is, and the state that is returned
pub record LineTold : Type 0 where
  pub number : ℕ
  pub length : ℕ
  pub state : State

-- a call for a cycle's line that is refused answers its number and the state that it was handed, and one that is not the line's length and the state
-- after the cycle
abbrev pub line_refusal : ℕ → State → LineTold
line_refusal number s = record { number = number; length = 0; state = s }

abbrev pub line_reply : ℕ → State → LineTold
line_reply length after = record { number = 0; length = length; state = after }

-- what the code's answer of a call for a cycle's line tells
abbrev pub line_told : Result Lined Refused → LineTold
line_told (Ok line) = line_reply line.length line.state
line_told (Err r) = line_refusal (number r.refusal) r.state

-- ---- the line of a cycle
module _ (img : List ℕ) (s : State) (word : ℕ) (out : List ℕ) where
  -- what a call for a cycle's line answers, from the state s with a stall word and a slice that holds `out`. It has a step's numbers, "1 to 11 rising
  -- ..; then 21, 22, 12" (96 places for letters and values are always enough), and then a writer's
  unfoldable pub line_answer : LineTold
  line_answer =
      let written = write_told (written_answer (cycle_text img s) out) in
      let number = step_number img s word 96 96 then written.number in
      line_refusal number s if not (eqb number 0) else
      line_reply written.length (state_after img word s)

  -- what the slice holds after a call for a cycle's line
  unfoldable pub line_over : List ℕ
  line_over = written_over (cycle_text img s) out if eqb (step_number img s word 96 96) 0 else out

-- what a call for a cycle's line has done
pub record LineDone (img : List ℕ) (s : State) (word : ℕ) (out : List ℕ) (answer : LineTold) (left : List ℕ) : Type 0 where
  pub answered : answer ≡ line_answer img s word out
  pub over : left ≡ line_over img s word out

-- ---- the closing line
-- a call for the closing line after a state has the image's numbers, 21, and then a writer's
module _ (img : List ℕ) (s : State) (out : List ℕ) where
  -- what a call for the closing line answers, after the state s with a slice that holds `out`
  unfoldable pub closing_answer : WriteTold
  closing_answer =
      write_refusal (state_number img s) if not (eqb (state_number img s) 0) else
      write_told (written_answer (closing_text (firings_of img s)) out)

  -- what the slice holds after a call for the closing line
  unfoldable pub closing_over : List ℕ
  closing_over = written_over (closing_text (firings_of img s)) out if eqb (state_number img s) 0 else out

-- what a call for the closing line has done
pub record ClosingDone (img : List ℕ) (s : State) (out : List ℕ) (answer : WriteTold) (left : List ℕ) : Type 0 where
  pub answered : answer ≡ closing_answer img s out
  pub over : left ≡ closing_over img s out
