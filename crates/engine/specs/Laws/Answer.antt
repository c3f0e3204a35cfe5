-- What each way out of a step answers, and that a step is a run of one word and then a look at the room. Assumes nothing.
use Rattle.std.specs.Prelude.{Bool, ◌||◌, List, [], ◌∷◌, ◌++◌, eqb, ℤ, length, drop}
use Rattle.std.proofs.Math.Bool.{true, false, not, true≢false}
use Rattle.std.proofs.Math.Path.{◌≡◌, refl, sym}
use Rattle.std.proofs.Common.{ap, ◌∙◌}
use Prim.Native.Nat.{ℕ, ◌≤◌}
use borrow.Author.Tests.{eq-eqb, ne_eqb, ltb-false}
use Rattle.std.proofs.Math.Dec.{ltb}
use Rattle.laws.specs.Laws.Cases.{or_left, or_right}
use Rattle.laws.specs.Choice.{◌if◌else◌, ◌then◌}
use Rattle.laws.specs.Laws.Choice.{past, past_number}
use Rattle.image.specs.Image.{nodes, channels}
use Rattle.state.specs.declared.State.{State}
use Rattle.fitting.specs.Fits.{state_number}
use Rattle.cycle.specs.Cycle.{state_after, letters_of, values_of}
use Rattle.cycle.specs.Run.{RunTold, no_step, step_more, ran_from, run_answer}
use Rattle.cycle.specs.Word.{sets_above}
use Rattle.readings.specs.Shown.{shown_number, letters_shown, values_shown, ShownDone}
use Rattle.engine.specs.Answer.{stepped, step_number, number_of_step, step_answer, letters_written, values_written, StepDone}

-- ---- the step's number goes on from that of image and state
module _ (img : List ℕ) (s : State) (word letters values : ℕ) where
  pub number_last :
      state_number img s ≡ 0 → eqb s.cycles 1000000 ≡ false → sets_above (nodes img) word ≡ false
      → (13 if ltb letters (channels img) || ltb values (channels img) else 0) ≡ step_number img s word letters values
  unfolding step_number
  number_last e d w = rw (e, d, w)

  -- a step's number 0 says that nothing stands in the way of its cycle
  pub number_ok :
      step_number img s word letters values ≡ 0
      → (state_number img s ≡ 0) × (s.cycles ≡ 1000000 → ⊥) × (sets_above (nodes img) word ≡ false) × (channels img ≤ letters)
      × (channels img ≤ values)
  unfolding step_number
  number_ok e =
      let short = ltb letters (channels img) in
      let f = past_number (state_number img s) _ e in
      let d = past 21 _ (eqb s.cycles 1000000) f.1 in
      let w = past 11 _ (sets_above (nodes img) word) d.1 in
      let r = past 12 0 (short || ltb values (channels img)) w.1 in (
        f.0,
        (λ q. true≢false (sym (eq-eqb s.cycles 1000000 q) ∙ d.0)),
        w.0,
        ltb-false letters (channels img) (or_left short (ltb values (channels img)) r.0),
        ltb-false values (channels img) (or_right short (ltb values (channels img)) r.0),
      )

-- ---- the step's answer
module _ (img : List ℕ) (s : State) (word : ℕ) (letters : List ℕ) (values : List ℤ) where
  -- a step on an image or a state that is refused answers that number
  pub number_first :
      (number : ℕ) → number ≡ state_number img s → (number ≡ 0 → ⊥) → number ≡ number_of_step img s word letters values
  unfolding number_of_step step_number
  number_first number e n = rw (← e, ne_eqb number 0 n)

  pub step-none :
      (number : ℕ) → number ≡ number_of_step img s word letters values → (number ≡ 0 → ⊥)
      → (stepped number s ≡ step_answer img s word letters values) × (letters ≡ letters_written img s word letters values) ×
      (values ≡ values_written img s word letters values)
  unfolding step_answer letters_written values_written
  step-none number e n = let q = ne_eqb number 0 n in rw (← e, q) (refl, refl, refl)

  pub step-made :
      (number : ℕ) → number ≡ number_of_step img s word letters values → number ≡ 0
      → (stepped number (state_after img word s) ≡ step_answer img s word letters values) ×
      ((letters_of img s ++ drop (channels img) letters) ≡ letters_written img s word letters values) ×
      ((values_of img s ++ drop (channels img) values) ≡ values_written img s word letters values)
  unfolding step_answer letters_written values_written
  step-made number e n = let q = eq-eqb number 0 n in rw (← e, q) (refl, refl, refl)

-- ---- a step is a run of one word, from whose state the letters and values are then shown: its 13 comes last
module _ (img : List ℕ) (s : State) (word : ℕ) where
  -- what a run of the word returns
  abbrev pub one : RunTold
  one = run_answer img s (word ∷ [])

  -- what it returns, and the number of a step, by the number of image and state and what the tests for 0, 22 and 12 tell
  abbrev told_by : ℕ → Bool → Bool → Bool → RunTold
  told_by n z d w =
      no_step n s if not z else
      no_step 22 s if d else
      no_step 12 s if w else
      step_more (no_step 0 (state_after img word s))

  numbered :
      (n : ℕ) (z d w : Bool) (last : ℕ) → eqb n 0 ≡ z → ((told_by n z d w).number then last) ≡ (n then 22 if d else 12 if w else last)
  unfolding step_more
  numbered n true true w last e = rw e
  numbered n true false true last e = rw e
  numbered n true false false last e = rw e
  numbered n false d w last e = rw e

  stated :
      (n : ℕ) (z d w : Bool) → eqb n 0 ≡ z → (told_by n z d w).state ≡ (state_after img word s if eqb (told_by n z d w).number 0 else s)
  unfolding step_more
  stated n true true w e = refl
  stated n true false true e = refl
  stated n true false false e = refl
  stated n false d w e = rw e

  pub state-run : one.state ≡ (state_after img word s if eqb one.number 0 else s)
  unfolding run_answer ran_from step_more
  state-run = stated (state_number img s) (eqb (state_number img s) 0) (eqb s.cycles 1000000) (sets_above (nodes img) word) refl

  module _ (letters : List ℕ) (values : List ℤ) where
    pub number-run : (one.number then shown_number img s letters values) ≡ number_of_step img s word letters values
    unfolding run_answer ran_from step_more step_number number_of_step shown_number
    number-run =
        numbered (state_number img s) (eqb (state_number img s) 0) (eqb s.cycles 1000000) (sets_above (nodes img) word)
        (13 if ltb (length letters) (channels img) || ltb (length values) (channels img) else 0) refl

    -- a step whose run is refused answers that number
    pub run-none : (number : ℕ) → number ≡ one.number → (number ≡ 0 → ⊥) → number ≡ number_of_step img s word letters values
    run-none number e n =
        let f : eqb one.number 0 ≡ false = ap (λ k. eqb k 0) (sym e) ∙ ne_eqb number 0 n in
        e ∙ ap (λ (b : Bool). one.number if not b else shown_number img s letters values) (sym f) ∙ number-run

    -- a step whose run is not refused answers what is shown, and leaves it
    pub run-shown :
        one.number ≡ 0 → (number : ℕ) (next : State) (letters_left : List ℕ) (values_left : List ℤ)
        → ShownDone img s letters values number letters_left values_left → next ≡ (one.state if eqb number 0 else s)
        → StepDone img s word letters values (stepped number next) letters_left values_left
    unfolding letters_shown values_shown step_answer letters_written values_written
    run-shown z number next letters_left values_left d e =
        let k : shown_number img s letters values ≡ number_of_step img s word letters values =
        ap (λ n. n then shown_number img s letters values) (sym z) ∙ number-run in
        let m : number ≡ number_of_step img s word letters values = d.numbered ∙ k in
        let made : one.state ≡ state_after img word s = state-run ∙ ap (λ (n : ℕ). state_after img word s if eqb n 0 else s) z in
        let t = e ∙ ap (λ (x : State). x if eqb number 0 else s) made in
        record { answered = rw (t, m); lettered = d.lettered ∙ rw k; valued = d.valued ∙ rw k }
