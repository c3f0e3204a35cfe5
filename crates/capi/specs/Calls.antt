-- What the calls for C have done: the number that each answers, what it stores through its last pointers, and what the lent bytes and arrays hold
-- after it. Each contract ensures its record as it stands here. They are the answers of the crates below, on the state or the records that bytes are.
use Rattle.std.specs.Prelude.{Bool, ◌≡◌, ℕ, eqb, ltb, ℤ, length, drop}
use mathlib.Core.List.{List, ◌++◌, flat_map}
use Rattle.std.specs.Bool.{then_some}
use Rattle.laws.specs.Choice.{◌if◌else◌, ◌then◌}
use Rattle.verdict.specs.Judge.{judge}
use Rattle.relay.specs.declared.Station.{Station}
use Rattle.state.specs.declared.State.{State}
use Rattle.state.specs.Fresh.{fresh_answer}
use Rattle.cycle.specs.Cycle.{state_after}
use Rattle.cycle.specs.Run.{run_answer}
use Rattle.engine.specs.Answer.{number_of_step, letters_written, values_written}
use Rattle.writer.specs.Write.{written_answer, written_over, write_told}
use Rattle.tracer.specs.Done.{line_answer, line_over, closing_answer, closing_over}
use Rattle.bench.specs.Bench.{bench_answer, bench_after}
use Rattle.layout.specs.Places.{state_length}
use Rattle.layout.specs.Bytes.{state_bytes, station_bytes, state_in}

-- bytes whose first are now those of a state; what followed stays
unfoldable pub state_over : State → List ℕ → List ℕ
state_over s bytes = state_bytes s ++ drop state_length bytes

-- ---- a fresh state
-- the number of a call for a fresh state, given how many bytes are lent: "1 to 11 rising", then 13, "a lent array shorter than the result"
unfoldable pub fresh_number : List ℕ → ℕ → ℕ
fresh_number img room =
    judge img then
    13 if ltb room state_length else
    0

-- what the lent bytes hold after a call for a fresh state: the state, or zeros. "A refused call for a fresh state, which is handed none, returns a
-- state of zeros throughout." Too few bytes stay as they were
unfoldable pub fresh_over : List ℕ → List ℕ → List ℕ
fresh_over img old = old if ltb (length old) state_length else state_over (fresh_answer img).state old

-- what a call for a fresh state has done
pub record FreshCall (img old : List ℕ) (number : ℕ) (left : List ℕ) : Type 0 where
  pub numbered : number ≡ fresh_number img (length old)
  pub over : left ≡ fresh_over img old

-- ---- steps and runs
-- what the bytes of a state hold after a step or a call for a cycle's line: the state s if the number is 0, else what they held before
unfoldable pub state_left : ℕ → State → List ℕ → List ℕ
state_left number s bytes = state_over s bytes if eqb number 0 else bytes

-- what a call for a step has done, on the state that bytes are
pub record StepCall
    (img bytes : List ℕ) (word : ℕ) (letters : List ℕ) (values : List ℤ) (number : ℕ) (left letters_left : List ℕ) (values_left : List ℤ)
    : Type 0 where
  pub numbered : number ≡ number_of_step img (state_in bytes) word letters values
  pub changed : left ≡ state_left number (state_after img word (state_in bytes)) bytes
  pub lettered : letters_left ≡ letters_written img (state_in bytes) word letters values
  pub valued : values_left ≡ values_written img (state_in bytes) word letters values

-- what a call for a run has done, on the state that bytes are: a run that is refused at its first word, or before, changes nothing
pub record RunCall (img bytes words : List ℕ) (number steps : ℕ) (left : List ℕ) : Type 0 where
  pub numbered : number ≡ (run_answer img (state_in bytes) words).number
  pub counted : steps ≡ (run_answer img (state_in bytes) words).steps
  pub changed : left ≡ (bytes if eqb steps 0 else state_over (run_answer img (state_in bytes) words).state bytes)

-- ---- lines of a trace
-- what a call for a cycle's line has done, on the state that bytes are
pub record LineCall (img bytes : List ℕ) (word : ℕ) (out : List ℕ) (number long : ℕ) (left out_left : List ℕ) : Type 0 where
  pub numbered : number ≡ (line_answer img (state_in bytes) word out).number
  pub measured : long ≡ (line_answer img (state_in bytes) word out).length
  pub changed : left ≡ state_left number (state_after img word (state_in bytes)) bytes
  pub over : out_left ≡ line_over img (state_in bytes) word out

-- what a call for the closing line has done, on the state that bytes are
pub record ClosingCall (img bytes out : List ℕ) (number long : ℕ) (out_left : List ℕ) : Type 0 where
  pub numbered : number ≡ (closing_answer img (state_in bytes) out).number
  pub measured : long ≡ (closing_answer img (state_in bytes) out).length
  pub over : out_left ≡ closing_over img (state_in bytes) out

-- what a call for a line of a given text has done
pub record TextCall (text out : List ℕ) (number long : ℕ) (out_left : List ℕ) : Type 0 where
  pub numbered : number ≡ (write_told (written_answer text out)).number
  pub measured : long ≡ (write_told (written_answer text out)).length
  pub over : out_left ≡ written_over text out

-- ---- a bench
-- what a call for a bench has done, on the row that bytes are: the incoming link is handed as a bit and a value
pub record BenchCall
    (row : List Station) (bytes : List ℕ) (valid : Bool) (value : ℤ) (stop : Bool) (number letter : ℕ) (shown : ℤ) (taken : Bool) (left : List ℕ)
    : Type 0 where
  pub answered : record { number = number; letter = letter; value = shown; taken = taken } ≡ bench_answer row (then_some valid value) stop
  pub changed : left ≡ (flat_map station_bytes (bench_after row (then_some valid value) stop) if eqb number 0 else bytes)
