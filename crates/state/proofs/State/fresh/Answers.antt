-- `state::State::fresh` meets its contract. Assumes nothing.
use Rattle.std.proofs.Common.{◌∙◌, ap, arith, sym}
use Rattle.refusal.specs.Number.{number}
use Rattle.refusal.specs.Laws.Number.{number_positive}
use Rattle.state.specs.Fresh.{fresh_state}
use Rattle.state.specs.Laws.Fresh.{fresh_refused, fresh-made}
use Rattle.state.proofs.State.fresh.Goals as goal

pub returns-in-Ok : goal.returns-in-Ok
returns-in-Ok c =
    let same = ap (λ r. r.now) c.in-Ok.ensures.same in
    record { answered = fresh-made c.args.image.now c.started.result (sym c.in-Ok.ensures.number) (c.started.ensures ∙ ap fresh_state same) }

pub returns-in-Err : goal.returns-in-Err
returns-in-Err c =
    let r = c.in-Err.refusal in
    let e = c.in-Err.ensures.number in
    let p = number_positive r in
    record { answered = fresh_refused c.args.image.now (number r) c.zeros.result e c.zeros.ensures (λ z. absurd (omega (arith, e, z, p))) }
