-- `engine::step` meets its contract. Assumes nothing.
use Rattle.std.proofs.Common.{◌≡◌, refl, List, [], ◌∷◌, ℕ, Option, sym, ap, ◌∙◌, arith, ne_eqb}
use Rattle.std.specs.Prelude.{ℤ, Bool, eqb}
use Rattle.laws.specs.Choice.{◌if◌else◌}
use Rattle.refusal.specs.Number.{number, number_if}
use Rattle.refusal.specs.Laws.Number.{number_positive}
use Rattle.refusal.specs.declared.Refusal.{Refusal}
use Rattle.state.specs.declared.State.{State}
use Rattle.fitting.specs.Laws.Number.{state-judge}
use Rattle.cycle.specs.Run.{RunTold, run_answer}
use Rattle.clock.specs.Told.{run_told}
use Rattle.readings.specs.Shown.{ShownDone}
use Rattle.engine.specs.Answer.{stepped, number_of_step, StepDone}
use Rattle.engine.specs.Laws.Answer.{number_first, step-none, run-none, run-shown}
use Rattle.engine.proofs.step.Goals.{In-Ok, After-run-ran, After-show}
use Rattle.engine.proofs.step.Goals as goal

-- a refusal's number is not 0
positive : (r : Refusal) → number r ≡ 0 → ⊥
positive r e = let p = number_positive r in absurd (omega (arith, e, p))

-- a step that is refused returns the state that it was handed, and has written nothing
refused :
    (img : List ℕ) (s : State) (word : ℕ) (letters : List ℕ) (values : List ℤ) (r : Refusal) → number r ≡ number_of_step img s word letters values
    → StepDone img s word letters values (stepped (number r) s) letters values
refused img s word letters values r e =
    let n = step-none img s word letters values (number r) e (positive r) in
    record { answered = n.0; lettered = n.1; valued = n.2 }

pub returns-in-Err : goal.returns-in-Err
returns-in-Err c =
    let a = c.args in
    let r = c.in-Err.refusal in
    let e = state-judge a.image.now a.state (number r) c.in-Err.ensures.number (positive r) in
    refused a.image.now a.state a.word a.letters.now a.values.now r
    (number_first a.image.now a.state a.word a.letters.now a.values.now (number r) e (positive r))

same : (c : In-Ok) → c.in-Ok.netlist.image.now ≡ c.args.image.now
same c = ap (λ r. r.now) c.in-Ok.ensures.same

-- the number of the run
ran : (c : After-run-ran) (o : Option Refusal) → c.run-ran.result.stopped ≡ o
    → number_if o ≡ (run_answer c.args.image.now c.args.state (c.args.word ∷ [])).number
ran c o e =
    rw e at (rw (same (goal.at.After-run-ran c).In-Ok) at (ap (λ (t : RunTold). t.number) c.run-ran.ensures.answered))

pub returns-in-Some : goal.returns-in-Some
returns-in-Some c =
    let a = c.args in
    let r = c.in-Some.refusal in
    refused a.image.now a.state a.word a.letters.now a.values.now r
    (run-none a.image.now a.state a.word a.letters.now a.values.now (number r)
    (ran (goal.at.returns-in-Some c).After-run-ran _ c.in-Some.is) (positive r))

-- where the run is not refused, the step answers what is shown
shown : (c : After-show) (number : ℕ) (next : State)
    → ShownDone c.in-Ok.netlist.image.now c.args.state c.args.letters.now c.args.values.now number c.show.new.letters c.show.new.values
    → next ≡ (c.run-ran.result.state if eqb number 0 else c.args.state)
    → StepDone c.args.image.now c.args.state c.args.word c.args.letters.now c.args.values.now (stepped number next)
    c.show.new.letters c.show.new.values
shown c number next d e =
    let a = c.args in
    let s = same (goal.at.After-show c).In-Ok in
    let r : run_told c.run-ran.result ≡ run_answer a.image.now a.state (a.word ∷ []) = rw s at c.run-ran.ensures.answered in
    run-shown a.image.now a.state a.word a.letters.now a.values.now (sym (ran (goal.at.After-show c).After-run-ran _ c.in_default.is)) number next
    c.show.new.letters c.show.new.values (rw s at d)
    (e ∙ ap (λ (t : RunTold). t.state if eqb number 0 else a.state) r)

pub returns-in-Ok-show : goal.returns-in-Ok-show
returns-in-Ok-show c = shown (goal.at.returns-in-Ok-show c).After-show 0 _ c.in-Ok-show.ensures refl

pub returns-in-Err-show : goal.returns-in-Err-show
returns-in-Err-show c =
    let r = c.in-Err-show.refusal in
    shown (goal.at.returns-in-Err-show c).After-show (number r) _ c.in-Err-show.ensures
    (ap (λ (b : Bool). c.run-ran.result.state if b else c.args.state) (sym (ne_eqb (number r) 0 (positive r))))
