-- `tracer::cycle_line` meets its contract. Assumes nothing.
use mathlib.Core.Path.{◌≡◌, refl, sym, ap, ◌∙◌}
use Prim.Native.Nat.{◌≤◌}
use native.Mathlib.Omega.{arith}
use lib.ListN.{length, take}
use lib.Seq.{length-take-le}
use Rattle.laws.specs.Laws.Table.{length-table}
use Rattle.refusal.specs.Number.{number}
use Rattle.refusal.specs.Laws.Number.{number_positive}
use Rattle.text.specs.Lines.{line_text}
use Rattle.tracer.specs.Trace.{cycle_text}
use Rattle.tracer.specs.Laws.Done.{step-number, step-accepted, step-state, step_text, step_refused, line_refused, line_long, line_written}
use Rattle.tracer.proofs.cycle_line.Goals.{After-readings-shown}
use Rattle.tracer.proofs.cycle_line.Goals as goal

pub returns-in-Err-clause-line_done : goal.returns-in-Err-clause-line_done
returns-in-Err-clause-line_done c =
    let a = c.args in
    let r = c.in-Err.refused in
    let d = c.in-Err.ensures in
    let p = number_positive r.refusal in
    let n : number r.refusal ≡ 0 → ⊥ = λ z. absurd (omega (arith, z, p)) in
    rw (step_refused d refl refl n) (line_refused a.image.now a.state a.word a.out.now (step-number d refl refl) n)

pub returns-in-Err-clause-number_value : goal.returns-in-Err-clause-number_value
returns-in-Err-clause-number_value c = λ h. step-number c.in-Err.ensures refl refl

-- a reading for each channel
long : (c : After-readings-shown) → length c.readings-shown.result ≡ 96
long c = ap length c.readings-shown.ensures ∙ length-table _ 96

enough : (c : After-readings-shown) → c.channels-channels.result ≤ length c.readings-shown.result
enough c =
    let h = (step-accepted c.in-Ok.ensures refl refl refl).1 in
    omega (arith, h, c.channels-channels.ensures, long c)

few : (c : After-readings-shown) → length (take c.channels-channels.result c.readings-shown.result) ≤ 96
few c = omega (arith, length-take-le c.channels-channels.result c.readings-shown.result (enough c), enough c, long c)

-- what is written is the cycle's line
shown :
    (c : After-readings-shown) → line_text c.args.state.cycles (take c.channels-channels.result c.readings-shown.result) ≡ cycle_text c.args.image.now c.args.state
shown c = rw c.channels-channels.ensures (step_text c.in-Ok.ensures refl refl refl c.readings-shown.ensures)

pub slice_bounds-shown-end : goal.slice_bounds-shown-end
slice_bounds-shown-end c = enough (goal.at.slice_bounds-shown-end c).After-readings-shown

pub slice_bounds-cycle_line-end : goal.slice_bounds-cycle_line-end
slice_bounds-cycle_line-end c =
    sym (length-take-le c.channels-channels.result c.readings-shown.result (enough (goal.at.slice_bounds-cycle_line-end c).After-readings-shown))

pub returns-in-Ok-cycle_line-clause-line_done : goal.returns-in-Ok-cycle_line-clause-line_done
returns-in-Ok-cycle_line-clause-line_done c =
    let a = c.args in
    let k = (goal.at.returns-in-Ok-cycle_line-clause-line_done c).After-readings-shown in
    let d = c.in-Ok.ensures in
    line_written a.image.now a.state a.word a.out.now (step-number d refl refl) (shown k) c.in-Ok-cycle_line.ensures.write_done (step-state d refl refl refl)

pub returns-in-Ok-cycle_line-clause-number_value : goal.returns-in-Ok-cycle_line-clause-number_value
returns-in-Ok-cycle_line-clause-number_value c = λ h. step-number c.in-Ok.ensures refl refl

pub returns-in-Err-cycle_line-clause-line_done : goal.returns-in-Err-cycle_line-clause-line_done
returns-in-Err-cycle_line-clause-line_done c =
    let a = c.args in
    let k = (goal.at.returns-in-Err-cycle_line-clause-line_done c).After-readings-shown in
    line_long a.image.now a.state a.word a.out.now (step-number c.in-Ok.ensures refl refl) (shown k) c.in-Err-cycle_line.ensures.write_done
