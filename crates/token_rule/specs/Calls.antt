-- A list of calls, with what each was given and what it returned; that each obeys its contract; and the cycles that follow from what they were given.
use Rattle.std.specs.Prelude.{Bool, not, ◌&&◌, List, [], ◌∷◌, ◌++◌, ℕ, suc, ◌+◌, leb, ltb, ℤ, length}
use Rattle.laws.specs.Choice.{◌if◌else◌}
use Rattle.laws.specs.Lists.{one_if}
use Rattle.image.specs.Image.{nodes, channels}
use Rattle.state.specs.declared.State.{State}
use Rattle.cycle.specs.Run.{RunTold}
use Rattle.cycle.specs.Word.{sets_above}
use Rattle.cycle.specs.Run.{RunDone}
use Rattle.engine.specs.Answer.{StepTold, StepDone}

-- a step of the list: its word, what its two lent arrays held, what it returned, and what they held after it
pub record Step : Type 0 where
  pub word : ℕ
  pub letters : List ℕ
  pub values : List ℤ
  pub answer : StepTold
  pub letters_left : List ℕ
  pub values_left : List ℤ

-- a run of the list: its words, and what it returned
pub record Run : Type 0 where
  pub words : List ℕ
  pub answer : RunTold

-- a call of the list: "Its calls are steps and runs, and all get the same accepted image."
pub data Call : Type 0 where
  step : Step → Call
  run : Run → Call

-- ---- what the calls did
-- the number that a call returned
unfoldable pub number_of : Call → ℕ
number_of (step x) = x.answer.number
number_of (run x) = x.answer.number

-- the state that a call returned
unfoldable pub returned : Call → State
returned (step x) = x.answer.state
returned (run x) = x.answer.state

-- a call that was handed the state s did what its contract ensures
unfoldable pub Done : List ℕ → State → Call → Type 0
Done img s (step x) = StepDone img s x.word x.letters x.values x.answer x.letters_left x.values_left
Done img s (run x) = RunDone img s x.words x.answer

-- each call did what its contract ensures, the first on the state s. "The first gets the image's fresh state, each later one the state that the call
-- before returned"
unfoldable pub Chain : List ℕ → State → List Call → Type 0
Chain img s [] = Unit {0}
Chain img s (call ∷ calls) = Done img s call × Chain img (returned call) calls

-- "The last state is the one returned last, or the fresh one if the list is empty."
unfoldable pub last_state : State → List Call → State
last_state s [] = s
last_state s (call ∷ calls) = last_state (returned call) calls

-- ---- "The cycles of the list follow from what the calls are given. Let d be the cycles so far"
-- the first two conditions of a cycle, after d cycles: "d is below 1,000,000, the word sets no bit at or above N"
unfoldable pub goes : List ℕ → ℕ → ℕ → Bool
goes img d word = ltb d 1000000 && not (sets_above (nodes img) word)

-- the third condition of a step's cycle: "and both lent arrays have at least C places"
unfoldable pub roomy : List ℕ → Step → Bool
roomy img x = leb (channels img) (length x.letters) && leb (channels img) (length x.values)

-- whether a step makes a cycle, after d cycles: "A step makes one cycle with its word if" the three conditions hold; "otherwise none"
unfoldable pub makes : List ℕ → ℕ → Step → Bool
makes img d x = goes img d x.word && roomy img x

-- the words of the cycles that a run makes, after d cycles: "A run takes its words in order: each makes a cycle under the first two conditions, and
-- the first that fails ends that run."
unfoldable pub run_cycles : List ℕ → ℕ → List ℕ → List ℕ
run_cycles img d [] = []
run_cycles img d (word ∷ words) = (word ∷ run_cycles img (suc d) words) if goes img d word else []

-- the words of the cycles that a call makes, after d cycles
unfoldable pub cycles_in : List ℕ → ℕ → Call → List ℕ
cycles_in img d (step x) = one_if (makes img d x) x.word
cycles_in img d (run x) = run_cycles img d x.words

-- the words of the cycles that a list of calls makes, after d cycles: "The list goes on after a refusal."
unfoldable pub cycles_of : List ℕ → ℕ → List Call → List ℕ
cycles_of img d [] = []
cycles_of img d (call ∷ calls) = cycles_in img d call ++ cycles_of img (d + length (cycles_in img d call)) calls
