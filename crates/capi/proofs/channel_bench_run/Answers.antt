-- `capi::channel_bench_run` meets its contract. Assumes nothing.
use Rattle.capi.specs.Laws.Calls.{run-called}
use Rattle.capi.proofs.channel_bench_run.Goals as goal

pub returns-then-ran-ne0 : goal.returns-then-ran-ne0
returns-then-ran-ne0 c =
    rw c.stop_number-number.ensures
    (run-called c.args.state.now (rw c.state_in.ensures at c.run-ran.ensures) c.if-ran-ne0.true c.put_state.ensures)
