-- What calls answer fits: "in a fresh state and after every accepted step, and both states fit the image as number 21 has it". From every state,
-- whether or not calls led to it. `Shaped` is what the declared type says of every state. Assumes nothing.
use Rattle.std.specs.Prelude.{true, List, ◌≡◌, refl, ◌≢◌, ℕ, ◌+◌, ℤ, length}
use Rattle.std.proofs.Common.{sym, ap, ◌∙◌, arith, add-zero, ne_eqb}
use Rattle.std.proofs.Math.Decide.{ℕ_discrete}
use Rattle.verdict.specs.Judge.{judge}
use Rattle.verdict.specs.Laws.Accepted.{accepted}
use Rattle.state.specs.declared.State.{State}
use Rattle.state.specs.Told.{Told}
use Rattle.state.specs.Fresh.{fresh_state, fresh_answer, FreshDone}
use Rattle.fitting.specs.Fits.{fits, state_number}
use Rattle.fitting.specs.Fitting.{Shaped, Fitting}
use Rattle.fitting.specs.Laws.Fits.{fitting, fits-fitting}
use Rattle.fitting.specs.Laws.Fitting.{fitting-fresh}
use Rattle.fitting.specs.Laws.Number.{state_ok}
use Rattle.cycle.specs.Cycle.{state_after}
use Rattle.cycle.specs.Run.{RunTold, ran_from, RunDone}
use Rattle.cycle.specs.Laws.Kept.{fitting-next}
use Rattle.cycle.specs.Laws.Run.{run_none, run-made, ran_kept, ran_rise}
use Rattle.engine.specs.Answer.{StepTold, number_of_step, step_number, step_answer, StepDone}
use Rattle.engine.specs.Laws.Answer.{number_ok}

pub fresh-fits : (img : List ℕ) (answer : Told) → FreshDone img answer → answer.number ≡ 0 → fits img answer.state ≡ true
unfolding fresh_answer
fresh-fits img answer done z =
    let j : judge img ≡ 0 = sym (ap (λ (t : Told). t.number) done.answered) ∙ z in
    let s : answer.state ≡ fresh_state img = ap (λ (t : Told). t.state) done.answered ∙ rw j in
    let a = accepted img j in
    rw s (fits-fitting img a (fresh_state img) (fitting-fresh img a))

module _ (img : List ℕ) (s : State) (shape : Shaped s) where
  -- a state that no number refuses fits
  fit : state_number img s ≡ 0 → Fitting img s
  fit z = let k = state_ok img s z in fitting img (accepted img k.0) s shape k.1

  -- a step that is accepted returns a state that fits, and one that is refused the state that it was handed
  pub step-fits :
      (word : ℕ) (letters : List ℕ) (values : List ℤ) (answer : StepTold) (letters_left : List ℕ) (values_left : List ℤ)
      → StepDone img s word letters values answer letters_left values_left
      → (answer.number ≡ 0 → fits img answer.state ≡ true) × (answer.number ≢ 0 → answer.state ≡ s)
  unfolding step_answer number_of_step
  step-fits word letters values answer letters_left values_left done = (accepts, refuses)
    where
      number : answer.number ≡ step_number img s word (length letters) (length values)
      number = ap (λ (t : StepTold). t.number) done.answered

      accepts : answer.number ≡ 0 → fits img answer.state ≡ true
      accepts z =
          let n = number_ok img s word (length letters) (length values) (sym number ∙ z) in
          let f = fit n.0 in
          let a = accepted img (state_ok img s n.0).0 in
          let made : answer.state ≡ state_after img word s = ap (λ (t : StepTold). t.state) done.answered ∙ rw (sym number ∙ z) in
          rw made (fits-fitting img a (state_after img word s) (fitting-next img a word s f (omega (arith, f.cycled, n.1))))

      refuses : answer.number ≢ 0 → answer.state ≡ s
      refuses n =
          let b = ne_eqb (step_number img s word (length letters) (length values)) 0 (λ z. n (number ∙ z)) in
          ap (λ (t : StepTold). t.state) done.answered ∙ rw b

  -- a run from a state that fits returns one that fits, whatever ends it, and a run from any other the state that it was handed
  pub run-fits :
      (words : List ℕ) (answer : RunTold) → RunDone img s words answer
      → (state_number img s ≡ 0 → fits img answer.state ≡ true) × (state_number img s ≢ 0 → answer.state ≡ s)
  run-fits words answer done = (
    (λ z.
        let a = accepted img (state_ok img s z).0 in
        let f = ran_kept img (Fitting img) (λ word t ok n. fitting-next img a word t ok (omega (arith, ok.cycled, n))) words s (fit z) in
        let e : answer.state ≡ (ran_from img s words).state = ap (λ (r : RunTold). r.state) (done.answered ∙ sym (run-made img s words (sym z))) in
        rw e (fits-fitting img a (ran_from img s words).state f)),
    (λ n. ap (λ (r : RunTold). r.state) (done.answered ∙ sym (run_none img s words _ refl n))),
  )

-- "steps equal the rise of the cycle count": whatever image and state are
pub run-rise :
    (img : List ℕ) (s : State) (words : List ℕ) (answer : RunTold) → RunDone img s words answer → answer.state.cycles ≡ s.cycles + answer.steps
run-rise img s words answer done = at (ℕ_discrete (state_number img s) 0)
  where
    at : Dec (state_number img s ≡ 0) → answer.state.cycles ≡ s.cycles + answer.steps
    at (yes z) = rw (done.answered ∙ sym (run-made img s words (sym z))) (ran_rise img words s)
    at (no n) = rw (done.answered ∙ sym (run_none img s words _ refl n)) (sym (add-zero s.cycles))
