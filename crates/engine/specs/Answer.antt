-- What a step answers, and what it leaves in the arrays that it is lent.
use Rattle.std.specs.Prelude.{◌||◌, List, ◌++◌, ◌≡◌, ℕ, eqb, ltb, ℤ, Result, Ok, Err, length, drop}
use Rattle.laws.specs.Choice.{◌if◌else◌, ◌then◌}
use Rattle.refusal.specs.Number.{number}
use Rattle.image.specs.Image.{nodes, channels}
use Rattle.state.specs.declared.Refused.{Refused}
use Rattle.state.specs.declared.State.{State}
use Rattle.fitting.specs.Fits.{state_number}
use Rattle.cycle.specs.Cycle.{state_after, letters_of, values_of}
use Rattle.cycle.specs.Word.{sets_above}

-- what a step tells: its number, 0 where it is not refused, and the state that it returns
pub record StepTold : Type 0 where
  pub number : ℕ
  pub state : State

-- what a step tells by its number and the state that it returns
abbrev pub stepped : ℕ → State → StepTold
stepped number s = record { number = number; state = s }

-- what the code's answer of a step tells
abbrev pub step_told : Result State Refused → StepTold
step_told (Ok s) = stepped 0 s
step_told (Err r) = stepped (number r.refusal) r.state

-- a step's number, given its word and the lengths of the two lent arrays: "1 to 11 rising ..; then 21, 22, 12, 13"
unfoldable pub step_number : List ℕ → State → ℕ → ℕ → ℕ → ℕ
step_number img s word letters values =
    state_number img s then
    -- the cycle count is 1,000,000
    22 if eqb s.cycles 1000000 else
    -- stall word sets a bit at or above N
    12 if sets_above (nodes img) word else
    -- a lent array shorter than the result
    13 if ltb letters (channels img) || ltb values (channels img) else
    0

-- a step that is lent arrays that hold `letters` and `values`. "A refusal changes no lent byte and returns the state it was handed"
module _ (img : List ℕ) (s : State) (word : ℕ) (letters : List ℕ) (values : List ℤ) where
  -- a step's number, given the arrays that it is lent
  unfoldable pub number_of_step : ℕ
  number_of_step = step_number img s word (length letters) (length values)

  -- what a step returns: its number, and the state after the cycle, or the state that it was handed if it is refused
  unfoldable pub step_answer : StepTold
  step_answer = stepped number_of_step (state_after img word s if eqb number_of_step 0 else s)

  -- what the lent letters hold after a step: the C letters in the first places, or what they held before if it is refused
  unfoldable pub letters_written : List ℕ
  letters_written = (letters_of img s ++ drop (channels img) letters) if eqb number_of_step 0 else letters

  -- what the lent values hold after a step: the C values in the first places, or what they held before if it is refused
  unfoldable pub values_written : List ℤ
  values_written = (values_of img s ++ drop (channels img) values) if eqb number_of_step 0 else values

-- what a step has done that was lent arrays that held `letters` and `values`, and hold `letters_left` and `values_left` after it, by equations with
-- the definitions: its contract ensures this record, and the token rule is stated over calls that obey it
pub record StepDone
    (img : List ℕ) (s : State) (word : ℕ) (letters : List ℕ) (values : List ℤ) (answer : StepTold) (letters_left : List ℕ) (values_left : List ℤ)
    : Type 0 where
  pub answered : answer ≡ step_answer img s word letters values
  pub lettered : letters_left ≡ letters_written img s word letters values
  pub valued : values_left ≡ values_written img s word letters values
