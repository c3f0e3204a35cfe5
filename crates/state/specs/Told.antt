-- What the answer of a call for a fresh state tells: the number of its refusal, 0 where there is none, and the state that it returns.
use Rattle.std.specs.Prelude.{ℕ, Result, Ok, Err}
use Rattle.refusal.specs.Number.{number}
use Rattle.state.specs.declared.Refused.{Refused}
use Rattle.state.specs.declared.State.{State}

pub record Told : Type 0 where
  pub number : ℕ
  pub state : State

-- what a call tells by its number and the state that it returns
abbrev pub tells : ℕ → State → Told
tells number s = record { number = number; state = s }

abbrev pub told : Result State Refused → Told
told (Ok s) = tells 0 s
told (Err r) = tells (number r.refusal) r.state
