-- `capi::channel_bench_fresh` meets its contract. Assumes nothing.
use mathlib.Core.Path.{refl}
use native.Mathlib.Omega.{arith}
use Rattle.refusal.specs.Laws.Number.{number_positive}
use Rattle.capi.specs.Laws.Calls.{fresh_made, fresh_refused}
use Rattle.capi.proofs.channel_bench_fresh.Goals as goal

pub returns-in-Ok : goal.returns-in-Ok
returns-in-Ok c = rw c.number.ensures (fresh_made c.args.state.now c.in-Ok.ensures c.put_state.ensures refl)

pub returns-in-Err : goal.returns-in-Err
returns-in-Err c =
    let p = number_positive c.in-Err.refused.refusal in
    rw c.number-in-Err.ensures (fresh_refused c.args.state.now c.in-Err.ensures c.put_state-in-Err.ensures (λ z. absurd (omega (arith, z, p))))
