-- `capi::channel_bench_step` meets its contract. Assumes nothing.
use mathlib.Core.Path.{refl}
use native.Mathlib.Omega.{arith}
use Rattle.refusal.specs.Laws.Number.{number_positive}
use Rattle.capi.specs.Laws.Calls.{step-called, step_refused}
use Rattle.capi.proofs.channel_bench_step.Goals as goal

pub returns-in-Ok : goal.returns-in-Ok
returns-in-Ok c = rw c.number.ensures (step-called c.args.state.now (rw c.state_in.ensures at c.in-Ok.ensures) refl c.put_state.ensures)

pub returns-in-Err : goal.returns-in-Err
returns-in-Err c =
    let p = number_positive c.in-Err.refused.refusal in
    rw c.number-in-Err.ensures (step_refused c.args.state.now (rw c.state_in.ensures at c.in-Err.ensures) (λ z. absurd (omega (arith, z, p))))
