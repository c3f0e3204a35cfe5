-- A list of calls for C on the bytes of one state, with what each was given and what it answered and left; that each obeys its contract; and the calls
-- on states that they are.
use Rattle.std.specs.Prelude.{List, [], ◌∷◌, ℕ, ℤ}
use Rattle.engine.specs.Answer.{stepped}
use Rattle.layout.specs.Bytes.{state_in}
use Rattle.capi.specs.Calls.{StepCall, RunCall}
use Rattle.token_rule.specs.Calls.{Call, step, run}

-- a step of the list: its word, and what its two lent arrays held; the number that it answered, and what the bytes of the state and the arrays hold
-- after it
pub record StepBytes : Type 0 where
  pub word : ℕ
  pub letters : List ℕ
  pub values : List ℤ
  pub number : ℕ
  pub left : List ℕ
  pub letters_left : List ℕ
  pub values_left : List ℤ

-- a run of the list: its words; the number and the steps that it answered, and what the bytes of the state hold after it
pub record RunBytes : Type 0 where
  pub words : List ℕ
  pub number : ℕ
  pub steps : ℕ
  pub left : List ℕ

pub data CallBytes : Type 0 where
  step_bytes : StepBytes → CallBytes
  run_bytes : RunBytes → CallBytes

-- the bytes of the state after a call
unfoldable pub left_by : CallBytes → List ℕ
left_by (step_bytes x) = x.left
left_by (run_bytes x) = x.left

-- a call that was lent the bytes of a state did what its contract ensures
unfoldable pub DoneBytes : List ℕ → List ℕ → CallBytes → Type 0
DoneBytes img bytes (step_bytes x) = StepCall img bytes x.word x.letters x.values x.number x.left x.letters_left x.values_left
DoneBytes img bytes (run_bytes x) = RunCall img bytes x.words x.number x.steps x.left

-- each call did what its contract ensures, and was lent the bytes that the call before it left, the first the given ones
unfoldable pub ChainBytes : List ℕ → List ℕ → List CallBytes → Type 0
ChainBytes img bytes [] = Unit {0}
ChainBytes img bytes (call ∷ calls) = DoneBytes img bytes call × ChainBytes img (left_by call) calls

-- the call on states that a call is: it returned the state that the bytes left are read as
unfoldable pub on_state : CallBytes → Call
on_state (step_bytes x) =
    step
    (record {
      word = x.word;
      letters = x.letters;
      values = x.values;
      answer = stepped x.number (state_in x.left);
      letters_left = x.letters_left;
      values_left = x.values_left;
    })
on_state (run_bytes x) =
    run (record { words = x.words; answer = record { steps = x.steps; number = x.number; state = state_in x.left } })
