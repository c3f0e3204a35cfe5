-- The run: "The run takes words in order and stops at the first refusal."
use Rattle.std.specs.Prelude.{not, List, [], ◌∷◌, ◌≡◌, ℕ, suc, eqb}
use Rattle.laws.specs.Choice.{◌if◌else◌}
use Rattle.image.specs.Image.{nodes}
use Rattle.state.specs.declared.State.{State}
use Rattle.fitting.specs.Fits.{state_number}
use Rattle.cycle.specs.Word.{sets_above}
use Rattle.cycle.specs.Cycle.{state_after}

-- what a run returns: the steps done, its number, 0 if it came to the end of its words, and the state after those steps
pub record RunTold : Type 0 where
  pub steps : ℕ
  pub number : ℕ
  pub state : State

-- what a run returns that makes no step: its number, and the state that it was handed
abbrev pub no_step : ℕ → State → RunTold
no_step number s = record { steps = 0; number = number; state = s }

-- what a run returns with one step more, made before those that it counts
unfoldable pub step_more : RunTold → RunTold
step_more r = record r { steps = suc r.steps }

-- what a run returns from a state that fits. "It returns the steps done, the state after them, and the number or 0." "then 22 and 12 before each
-- word"
unfoldable pub ran_from : List ℕ → State → List ℕ → RunTold
ran_from img s [] = no_step 0 s
ran_from img s (word ∷ words) =
    no_step 22 s if eqb s.cycles 1000000 else
    no_step 12 s if sets_above (nodes img) word else
    step_more (ran_from img (state_after img word s) words)

-- what a run returns, whatever image and state are: "The run checks the image and 21 once"
unfoldable pub run_answer : List ℕ → State → List ℕ → RunTold
run_answer img s words = no_step (state_number img s) s if not (eqb (state_number img s) 0) else ran_from img s words

-- what a run has done: each contract of one ensures this record
pub record RunDone (img : List ℕ) (s : State) (words : List ℕ) (answer : RunTold) : Type 0 where
  pub answered : answer ≡ run_answer img s words
