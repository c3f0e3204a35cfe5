-- What each way out of the calls has done. Assumes nothing.
use Rattle.std.specs.Prelude.{true, false, List, ◌++◌, ◌≡◌, ℕ, ◌≤◌, ◌<◌, ℤ, length, drop, Result}
use Rattle.std.proofs.Common.{true≢false, ◌∙◌, arith}
use Rattle.std.proofs.Math.Logic.{⊎_elim}
use Rattle.std.proofs.Math.Path.{refl, sym, ap}
use Rattle.std.proofs.Math.Decide.{ℕ_discrete}
use borrow.Author.Tests.{ne_eqb}
use Rattle.std.proofs.Math.Dec.{ltb}
use Rattle.std.proofs.lemmas.Bool.{lt-leb}
use Rattle.laws.specs.Laws.Cases.{true_or_false, lt-or-ge}
use Rattle.laws.specs.Choice.{◌if◌else◌}
use Rattle.verdict.specs.Judge.{judge}
use Rattle.state.specs.declared.State.{State}
use Rattle.fitting.specs.Fits.{fits, cycles_fit, state_number}
use Rattle.fitting.specs.Laws.Number.{state_ok}
use Rattle.state.specs.Fresh.{fresh_answer, FreshDone}
use Rattle.cycle.specs.Cycle.{state_after}
use Rattle.state.specs.Told.{Told}
use Rattle.cycle.specs.Run.{RunTold}
use Rattle.engine.specs.Answer.{StepTold, step_number, number_of_step, step_answer, StepDone}
use Rattle.engine.specs.Laws.Answer.{number_ok}
use Rattle.cycle.specs.Laws.Run.{run_none}
use Rattle.cycle.specs.Run.{RunDone}
use Rattle.refusal.specs.Number.{number_of}
use Rattle.refusal.specs.declared.Refusal.{Refusal}
use Rattle.writer.specs.Write.{written_answer, written_over, WriteDone}
use Rattle.writer.specs.Laws.Write.{write_done}
use Rattle.tracer.specs.Laws.Done.{line_made}
use Rattle.tracer.specs.Done.{LineTold, line_answer, LineDone}
use Rattle.layout.specs.Places.{state_length}
use Rattle.layout.specs.Bytes.{state_bytes, state_in, no_state}
use Rattle.layout.specs.Laws.Bytes.{state_long}
use Rattle.capi.specs.Calls.{state_over, fresh_number, fresh_over, state_left, FreshCall, StepCall, RunCall, LineCall}

-- ---- fewer bytes than a state has
module _ (img bytes : List ℕ) where
  too_few : length bytes < state_length → fits img (state_in bytes) ≡ false
  unfolding state_in no_state fits cycles_fit
  too_few h = rw (lt-leb state_length (length bytes) h)

  -- a state that fits was read from as many bytes as a state has, or more
  pub sized : state_number img (state_in bytes) ≡ 0 → state_length ≤ length bytes
  sized e =
      ⊎_elim
      (λ (h : length bytes < state_length). absurd (true≢false (sym (state_ok img (state_in bytes) e).1 ∙ too_few h)))
      (λ (h : state_length ≤ length bytes). h)
      (lt-or-ge (length bytes) state_length)

-- where the bytes of a state are lent there is room for a state
stored :
    (s : State) {bytes left : List ℕ} {written : Result ℕ Refusal} → WriteDone (state_bytes s) bytes written left → state_length ≤ length bytes
    → (number_of written ≡ 0) × (left ≡ state_over s bytes)
unfolding state_over
stored s {bytes} w e =
    let long = state_long s in
    let d = write_done (state_bytes s) bytes w (omega (arith, long, e)) in
    (ap number_of d.0, d.1 ∙ ap (λ (n : ℕ). state_bytes s ++ drop n bytes) long)

-- ---- a fresh state
module _ (old : List ℕ) {img : List ℕ} {answer : Told} (d : FreshDone img answer) where
  fresh-number : answer.number ≡ judge img
  unfolding fresh_answer
  fresh-number = ap (λ (a : Told). a.number) d.answered

  module _ {written : Result ℕ Refusal} {left : List ℕ} (w : WriteDone (state_bytes answer.state) old written left) where
    fresh-left : left ≡ fresh_over img old
    unfolding fresh_over state_over written_over
    fresh-left =
        w.over ∙ rw (state_long answer.state)
        (ap (λ (a : Told). old if ltb (length old) state_length else (state_bytes a.state ++ drop state_length old)) d.answered)

    written-number : number_of written ≡ (13 if ltb (length old) state_length else 0)
    unfolding written_answer
    written-number =
        ap number_of w.answered ∙ rw (state_long answer.state)
        (⊎_elim
        (λ (q : ltb (length old) state_length ≡ true). rw q)
        (λ (q : ltb (length old) state_length ≡ false). rw q)
        (true_or_false (ltb (length old) state_length)))

    -- a call for a fresh state answers 13 only where the judge refuses nothing
    pub fresh_made : answer.number ≡ 0 → FreshCall img old (number_of written) left
    unfolding fresh_number
    fresh_made z =
        let j : judge img ≡ 0 = sym fresh-number ∙ z in
        record { numbered = written-number ∙ rw j; over = fresh-left }

    pub fresh_refused : (answer.number ≡ 0 → ⊥) → FreshCall img old answer.number left
    unfolding fresh_number
    fresh_refused n = record { numbered = fresh-number ∙ rw (ne_eqb (judge img) 0 (λ z. n (fresh-number ∙ z))); over = fresh-left }

-- ---- a step
module _
    (bytes : List ℕ) {img : List ℕ} {word : ℕ} {letters : List ℕ} {values : List ℤ} {answer : StepTold} {letters_left : List ℕ} {values_left : List ℤ}
    (d : StepDone img (state_in bytes) word letters values answer letters_left values_left) where
  step-number : answer.number ≡ number_of_step img (state_in bytes) word letters values
  unfolding step_answer
  step-number = ap (λ (a : StepTold). a.number) d.answered

  step-sized : answer.number ≡ 0 → state_length ≤ length bytes
  unfolding number_of_step
  step-sized z = sized img bytes (number_ok img (state_in bytes) word (length letters) (length values) (sym step-number ∙ z)).0

  pub step-called :
      {written : Result ℕ Refusal} {left : List ℕ} → answer.number ≡ 0 → WriteDone (state_bytes answer.state) bytes written left
      → StepCall img bytes word letters values (number_of written) left letters_left values_left
  unfolding state_left step_answer
  step-called z w =
      let l = stored answer.state w (step-sized z) in
      let t : answer.state ≡ state_after img word (state_in bytes) = ap (λ (a : StepTold). a.state) d.answered ∙ rw (sym step-number ∙ z) in
      record {
        numbered = l.0 ∙ sym z ∙ step-number;
        changed = l.1 ∙ rw (l.0, t);
        lettered = d.lettered;
        valued = d.valued;
      }

  pub step_refused : (answer.number ≡ 0 → ⊥) → StepCall img bytes word letters values answer.number bytes letters_left values_left
  unfolding state_left
  step_refused n =
      record { numbered = step-number; changed = rw (ne_eqb answer.number 0 n); lettered = d.lettered; valued = d.valued }

-- ---- a run
module _ (bytes : List ℕ) {img words : List ℕ} {answer : RunTold} (d : RunDone img (state_in bytes) words answer) where
  run-sized : (answer.steps ≡ 0 → ⊥) → state_length ≤ length bytes
  run-sized h = at (ℕ_discrete (state_number img (state_in bytes)) 0)
    where
      at : Dec (state_number img (state_in bytes) ≡ 0) → state_length ≤ length bytes
      at (yes e) = sized img bytes e
      at (no n) = absurd (h (ap (λ (a : RunTold). a.steps) (d.answered ∙ sym (run_none img (state_in bytes) words _ refl n))))

  pub run-called :
      {written : Result ℕ Refusal} {left : List ℕ} → (answer.steps ≡ 0 → ⊥) → WriteDone (state_bytes answer.state) bytes written left
      → RunCall img bytes words answer.number answer.steps left
  run-called h w =
      record {
        numbered = ap (λ (a : RunTold). a.number) d.answered;
        counted = ap (λ (a : RunTold). a.steps) d.answered;
        changed = (stored answer.state w (run-sized h)).1 ∙ rw (ne_eqb answer.steps 0 h)
            (ap (λ (a : RunTold). state_over a.state bytes) d.answered);
      }

  pub run_refused : answer.steps ≡ 0 → RunCall img bytes words answer.number answer.steps bytes
  run_refused z =
      record {
        numbered = ap (λ (a : RunTold). a.number) d.answered;
        counted = ap (λ (a : RunTold). a.steps) d.answered;
        changed = rw z;
      }

-- ---- lines
module _
    (bytes : List ℕ) {img : List ℕ} {word : ℕ} {out : List ℕ} {answer : LineTold} {out_left : List ℕ}
    (d : LineDone img (state_in bytes) word out answer out_left) where
  line_number : answer.number ≡ (line_answer img (state_in bytes) word out).number
  line_number = ap (λ (a : LineTold). a.number) d.answered

  line_sized : answer.number ≡ 0 → state_length ≤ length bytes
  line_sized z = sized img bytes (number_ok img (state_in bytes) word 96 96 (line_made d z).2).0

  pub line_called :
      {written : Result ℕ Refusal} {left : List ℕ} → answer.number ≡ 0 → WriteDone (state_bytes answer.state) bytes written left
      → LineCall img bytes word out (number_of written) answer.length left out_left
  unfolding state_left
  line_called z w =
      let l = stored answer.state w (line_sized z) in
      record {
        numbered = l.0 ∙ sym z ∙ line_number;
        measured = ap (λ (a : LineTold). a.length) d.answered;
        changed = l.1 ∙ rw (l.0, (line_made d z).1);
        over = d.over;
      }

  pub line_refused : (answer.number ≡ 0 → ⊥) → LineCall img bytes word out answer.number answer.length bytes out_left
  unfolding state_left
  line_refused n =
      record {
        numbered = line_number;
        measured = ap (λ (a : LineTold). a.length) d.answered;
        changed = rw (ne_eqb answer.number 0 n);
        over = d.over;
      }
