-- What the calls of a list are given, and a list of calls that answer it: each what its definition says, handed the state that the call before it
-- returned.
use Rattle.std.specs.Prelude.{List, [], ◌∷◌, ℕ, ℤ}
use Rattle.state.specs.declared.State.{State}
use Rattle.cycle.specs.Run.{run_answer}
use Rattle.engine.specs.Answer.{step_answer, letters_written, values_written}
use Rattle.token_rule.specs.Calls.{Call, step, run, returned}

-- what a step is given, a word and what its two lent arrays hold, or what a run is given, its words
pub data Given : Type 0 where
  a_step : ℕ → List ℕ → List ℤ → Given
  a_run : List ℕ → Given

-- the call that is handed the state s and answers what its definition says
unfoldable pub answered : List ℕ → State → Given → Call
answered img s (a_step word letters values) =
    step
    record {
      word = word;
      letters = letters;
      values = values;
      answer = step_answer img s word letters values;
      letters_left = letters_written img s word letters values;
      values_left = values_written img s word letters values;
    }
answered img s (a_run words) = run record { words = words; answer = run_answer img s words }

unfoldable pub answers : List ℕ → State → List Given → List Call
answers img s [] = []
answers img s (given ∷ more) = let call = answered img s given in call ∷ answers img (returned call) more
