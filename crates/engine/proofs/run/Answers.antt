-- `engine::run` meets its contract. Assumes nothing.
use Rattle.std.proofs.Common.{◌≡◌, ap, arith}
use Rattle.refusal.specs.Number.{number}
use Rattle.refusal.specs.Laws.Number.{number_positive}
use Rattle.fitting.specs.Laws.Number.{state-judge}
use Rattle.cycle.specs.Laws.Run.{run_none}
use Rattle.engine.proofs.run.Goals as goal

pub returns-in-Err : goal.returns-in-Err
returns-in-Err c =
    let a = c.args in
    let r = c.in-Err.refusal in
    let p = number_positive r in
    let n : number r ≡ 0 → ⊥ = λ z. absurd (omega (arith, z, p)) in
    record { answered = run_none a.image.now a.state a.words.now _ (state-judge a.image.now a.state _ c.in-Err.ensures.number n) n }

pub returns-in-Ok : goal.returns-in-Ok
returns-in-Ok c = record { answered = rw (ap (λ r. r.now) c.in-Ok.ensures.same) at c.run.ensures.answered }
