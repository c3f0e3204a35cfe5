-- `capi::channel_bench_cycle_line` meets its contract. Assumes nothing.
use mathlib.Core.Path.{refl}
use native.Mathlib.Omega.{arith}
use Rattle.refusal.specs.Laws.Number.{number_positive}
use Rattle.capi.specs.Laws.Calls.{line_called, line_refused}
use Rattle.capi.proofs.channel_bench_cycle_line.Goals as goal

pub returns-in-Ok : goal.returns-in-Ok
returns-in-Ok c = rw c.number.ensures (line_called c.args.state.now (rw c.state_in.ensures at c.in-Ok.ensures.line_done) refl c.put_state.ensures)

pub returns-in-Err : goal.returns-in-Err
returns-in-Err c =
    let p = number_positive c.in-Err.unwritten.refusal in
    rw c.number-in-Err.ensures (line_refused c.args.state.now (rw c.state_in.ensures at c.in-Err.ensures.line_done) (λ z. absurd (omega (arith, z, p))))
