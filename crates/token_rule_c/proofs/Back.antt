-- A call that is lent the bytes of a state, whatever follows them, is a call on that state, and leaves the bytes of the state that it answers, followed
-- by the same. Assumes nothing.
use Rattle.std.specs.Prelude.{Bool, true, false, List, ◌++◌, ◌≡◌, refl, ℕ, ◌≤◌, ℤ, drop, length}
use Rattle.std.proofs.Common.{⊎_elim, sym, ap, ◌∙◌, eqb-true, le-ltb}
use Rattle.std.proofs.Math.Dec.{eqb, ltb}
use Rattle.std.proofs.Math.Seq.{drop-append_seam}
use Rattle.laws.specs.Laws.Cases.{true_or_false}
use Rattle.laws.specs.Choice.{◌if◌else◌}
use Rattle.laws.specs.Laws.Choice.{past, past_number}
use Rattle.verdict.specs.Judge.{judge}
use Rattle.state.specs.declared.State.{State}
use Rattle.state.specs.Fresh.{fresh_state, fresh_answer}
use Rattle.cycle.specs.Cycle.{state_after}
use Rattle.cycle.specs.Run.{run_answer}
use Rattle.engine.specs.Answer.{number_of_step, step_answer, StepDone}
use Rattle.cycle.specs.Laws.Run.{run_still}
use Rattle.layout.specs.Places.{state_length}
use Rattle.layout.specs.Bytes.{state_bytes}
use Rattle.layout.specs.Laws.Bytes.{state_long}
use Rattle.layout.specs.Typed.{Typed}
use Rattle.layout.proofs.Back.{state_back}
use Rattle.capi.specs.Calls.{state_over, fresh_number, fresh_over, state_left, FreshCall, StepCall, RunCall}

-- a state stored over the bytes of another
stored_over : (s t : State) (rest : List ℕ) → state_over t (state_bytes s ++ rest) ≡ state_bytes t ++ rest
unfolding state_over
stored_over s t rest =
    ap (λ (l : List ℕ). state_bytes t ++ l)
    (ap (λ (n : ℕ). drop n (state_bytes s ++ rest)) (sym (state_long s)) ∙ drop-append_seam (state_bytes s) rest)

-- the bytes of one of two states
bytes_of_choice :
    (test : Bool) (a b : State) (rest : List ℕ)
    → (state_bytes a ++ rest if test else state_bytes b ++ rest) ≡ state_bytes (a if test else b) ++ rest
bytes_of_choice true a b rest = refl
bytes_of_choice false a b rest = refl

module _ (s : State) (typed : Typed s) (rest : List ℕ) where
  pub step-back :
      {img : List ℕ} {word : ℕ} {letters : List ℕ} {values : List ℤ} {number : ℕ} {left letters_left : List ℕ} {values_left : List ℤ}
      → StepCall img (state_bytes s ++ rest) word letters values number left letters_left values_left
      → let answer = step_answer img s word letters values in
      (number ≡ answer.number) × (left ≡ state_bytes answer.state ++ rest) × StepDone img s word letters values answer letters_left values_left
  unfolding step_answer state_left
  step-back {img} {word} {letters} {values} {number} d =
      let back = state_back s typed rest in
      let n : number ≡ number_of_step img s word letters values = rw back at d.numbered in
      let next = state_after img word s in
      let l = rw back at d.changed in (
        n,
        l ∙ ap (λ (bytes : List ℕ). bytes if eqb number 0 else (state_bytes s ++ rest)) (stored_over s next rest)
            ∙ bytes_of_choice (eqb number 0) next s rest ∙ ap (λ (k : ℕ). state_bytes (next if eqb k 0 else s) ++ rest) n,
        record { answered = refl; lettered = rw back at d.lettered; valued = rw back at d.valued },
      )

  pub run-back :
      {img words : List ℕ} {number steps : ℕ} {left : List ℕ} → RunCall img (state_bytes s ++ rest) words number steps left
      → let answer = run_answer img s words in
      (number ≡ answer.number) × (steps ≡ answer.steps) × (left ≡ state_bytes answer.state ++ rest)
  run-back {img} {words} {steps = steps} d =
      let back = state_back s typed rest in
      let answer = run_answer img s words in
      let k : steps ≡ answer.steps = rw back at d.counted in
      let l = rw back at d.changed in (
        rw back at d.numbered,
        k,
        l ∙ ⊎_elim
            (λ (q : eqb steps 0 ≡ true). rw q (ap (λ (t : State). state_bytes t ++ rest) (sym (run_still img s words (sym k ∙ eqb-true steps 0 q)))))
            (λ (q : eqb steps 0 ≡ false). rw q (stored_over s answer.state rest))
            (true_or_false (eqb steps 0)),
      )

-- a call for a fresh state that is lent at least as many bytes as a state has answers the number of the fresh state, refused or not, and leaves
-- the bytes of the state that it answers, which are zeros where the image is refused, and what followed them
pub fresh_bytes :
    {img old : List ℕ} {number : ℕ} {left : List ℕ} → state_length ≤ length old → FreshCall img old number left
    → (number ≡ (fresh_answer img).number) × (left ≡ state_bytes (fresh_answer img).state ++ drop state_length old)
unfolding fresh_number fresh_over fresh_answer state_over
fresh_bytes {img} {old} h d =
    let room = le-ltb (length old) state_length h in (
      d.numbered
          ∙ ⊎_elim
          (λ (q : eqb (judge img) 0 ≡ true). rw (q, room) (sym (eqb-true (judge img) 0 q)))
          (λ (q : eqb (judge img) 0 ≡ false). rw q)
          (true_or_false (eqb (judge img) 0)),
      d.over ∙ rw room,
    )

-- a call for a fresh state that answers 0 leaves the bytes of the fresh state, and what followed them
pub fresh-back :
    {img old : List ℕ} {number : ℕ} {left : List ℕ} → FreshCall img old number left → number ≡ 0
    → (judge img ≡ 0) × (left ≡ state_bytes (fresh_state img) ++ drop state_length old)
unfolding fresh_number fresh_over fresh_answer state_over
fresh-back {img} {old} d z =
    let j = past_number (judge img) _ (sym d.numbered ∙ z) in
    let r = past 12 0 (ltb (length old) state_length) j.1 in
    (j.0, d.over ∙ rw (r.0, j.0))
