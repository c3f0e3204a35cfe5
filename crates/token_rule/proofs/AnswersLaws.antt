-- What a step and a run answered that were handed a state that fits, in the words of the cycles that they make. Assumes nothing.
use Rattle.std.specs.Prelude.{Bool, ◌&&◌, ◌||◌, List, [], ◌∷◌, ◌++◌, ◌≢◌, ℕ, suc, ◌+◌, ◌<◌, ◌≤◌, leb, ltb, length, drop}
use Rattle.std.proofs.Math.Bool.{true, false, not}
use Rattle.std.proofs.Common.{⊎_elim, ◌∙◌, add-zero, add-suc, suc-add, arith, ltb-true, lt-ltb, le-ltb, eq-eqb, ne_eqb, eqb-true}
use Rattle.std.proofs.Math.Path.{◌≡◌, refl, sym, ap}
use Rattle.std.proofs.Math.Dec.{eqb, eqb-zero-suc, eqb-suc-suc}
use Rattle.laws.specs.Laws.Cases.{lt-or-ge}
use Rattle.laws.specs.Choice.{◌if◌else◌}
use Rattle.laws.specs.Laws.Tests.{ltb_leb}
use Rattle.image.specs.Image.{nodes, channels}
use Rattle.verdict.specs.Accepted.{Accepted}
use Rattle.state.specs.declared.State.{State}
use Rattle.cycle.specs.Cycle.{state_after, letters_of, values_of, after}
use Rattle.cycle.specs.Laws.Cycle.{cycles-next}
use Rattle.fitting.specs.Fitting.{Fitting}
use Rattle.fitting.specs.Laws.Number.{state_fitting}
use Rattle.cycle.specs.Run.{RunTold, no_step, step_more, ran_from}
use Rattle.cycle.specs.Laws.Run.{run-made}
use Rattle.cycle.specs.Word.{sets_above}
use Rattle.engine.specs.Answer.{StepTold, step_number, number_of_step, step_answer, letters_written, values_written}
use Rattle.token_rule.specs.Calls.{Step, Run, Call, step, run, Done, goes, roomy, makes, run_cycles}
use Rattle.token_rule.specs.TokenRule.{CallRule}

-- a count that fits is 1,000,000 where it is not below
cycles_test : (s : State) (d : ℕ) → s.cycles ≡ d → s.cycles ≤ 1000000 → eqb s.cycles 1000000 ≡ not (ltb d 1000000)
cycles_test s d e h =
    ⊎_elim
    (λ (l : d < 1000000). rw (lt-ltb d 1000000 l) (ne_eqb s.cycles 1000000 (λ q. omega arith)))
    (λ (l : 1000000 ≤ d). rw (le-ltb d 1000000 l) (eq-eqb s.cycles 1000000 (omega arith)))
    (lt-or-ge d 1000000)

-- ---- a step. Its number: 0 if it makes a cycle, else the first of the three that can be
abbrev pub chosen : Bool → Bool → Bool → ℕ
chosen m p q = 0 if m else 22 if p else 12 if q else 13

chosen_zero : (m p q : Bool) → eqb (chosen m p q) 0 ≡ m
chosen_zero true p q = refl
chosen_zero false true q = refl
chosen_zero false false true = refl
chosen_zero false false false = refl

-- what a step did that was handed the state s after d cycles
pub record SteppedWell (img : List ℕ) (s : State) (d : ℕ) (x : Step) : Type 0 where
  pub numbered : x.answer.number ≡ chosen (makes img d x) (not (ltb d 1000000)) (sets_above (nodes img) x.word)
  pub made : eqb x.answer.number 0 ≡ makes img d x
  pub stated : x.answer.state ≡ (state_after img x.word s if makes img d x else s)
  pub lettered : x.letters_left ≡ (letters_of img s ++ drop (channels img) x.letters if makes img d x else x.letters)
  pub valued : x.values_left ≡ (values_of img s ++ drop (channels img) x.values if makes img d x else x.values)

module _ (img : List ℕ) (a : Accepted img) (s : State) (ok : Fitting img s) (d : ℕ) (e : s.cycles ≡ d) where
  step-number :
      (x : Step) → number_of_step img s x.word x.letters x.values ≡ chosen (makes img d x) (not (ltb d 1000000)) (sets_above (nodes img) x.word)
  unfolding number_of_step step_number makes goes roomy
  step-number x =
      rw (
        ← (state_fitting img s a ok),
        cycles_test s d e ok.cycled,
        ltb_leb (length x.letters) (channels img),
        ltb_leb (length x.values) (channels img),
      )
      (order (ltb d 1000000) (sets_above (nodes img) x.word) (leb (channels img) (length x.letters)) (leb (channels img) (length x.values)))
    where
      order : (p q r t : Bool) → ◌≡◌ {A = ℕ} (22 if not p else 12 if q else 13 if not r || not t else 0) (chosen ((p && not q) && (r && t)) (not p) q)
      order false q r t = refl
      order true true r t = refl
      order true false false t = refl
      order true false true false = refl
      order true false true true = refl

  pub step-done : (x : Step) → Done img s (step x) → SteppedWell img s d x
  unfolding Done step_answer letters_written values_written
  step-done x done =
      let m = makes img d x in
      let zero : eqb (number_of_step img s x.word x.letters x.values) 0 ≡ m =
      ap (λ k. eqb k 0) (step-number x) ∙ chosen_zero m (not (ltb d 1000000)) (sets_above (nodes img) x.word) in
      let number = ap (λ (r : StepTold). r.number) done.answered in
      record {
        numbered = number ∙ step-number x;
        made = ap (λ k. eqb k 0) number ∙ zero;
        stated = ap (λ (r : StepTold). r.state) done.answered ∙ rw zero;
        lettered = done.lettered ∙ rw zero;
        valued = done.valued ∙ rw zero;
      }

-- ---- a run
-- what a run answered that was handed the state s after d cycles, and made cycles with the words `made`
pub record RanWell (img : List ℕ) (s : State) (d : ℕ) (words made : List ℕ) (r : RunTold) : Type 0 where
  pub stepped : r.steps ≡ length made
  pub stated : r.state ≡ after img s made
  pub numbered : r.number ≡ (0 if eqb r.steps (length words) else 22 if not (ltb (d + r.steps) 1000000) else 12)

-- the first word ends the run, or makes a cycle and the run goes on
ran_turn :
    (img : List ℕ) (s : State) (d w : ℕ) (words made : List ℕ) (r : RunTold) (p q : Bool) → ltb d 1000000 ≡ p
    → (p ≡ true → RanWell img (state_after img w s) (suc d) words made r)
    → RanWell img s d (w ∷ words) ((w ∷ made) if p && not q else [])
    (no_step 22 s if not p else no_step 12 s if q else step_more r)
unfolding after step_more
ran_turn img s d w words made r false q e well = record { stepped = refl; stated = refl; numbered = rw (eqb-zero-suc, add-zero, e) }
ran_turn img s d w words made r true true e well = record { stepped = refl; stated = refl; numbered = rw (eqb-zero-suc, add-zero, e) }
ran_turn img s d w words made r true false e well =
    let next = well refl in
    record {
      stepped = ap suc next.stepped;
      stated = next.stated;
      numbered = rw (eqb-suc-suc, add-suc, ← (suc-add d r.steps)) next.numbered;
    }

ran_well :
    (img words : List ℕ) (s : State) (d : ℕ) → s.cycles ≡ d → d ≤ 1000000 → RanWell img s d words (run_cycles img d words) (ran_from img s words)
unfolding ran_from run_cycles after goes
ran_well img [] s d e h = record { stepped = refl; stated = refl; numbered = refl }
ran_well img (w ∷ words) s d e h =
    let next = state_after img w s in
    rw (cycles_test s d e (omega arith))
    (ran_turn img s d w words (run_cycles img (suc d) words) (ran_from img next words) (ltb d 1000000) (sets_above (nodes img) w) refl
    (λ l. ran_well img words next (suc d) (cycles-next img w s ∙ ap suc e) (ltb-true d 1000000 l)))

pub run-done :
    (img : List ℕ) → Accepted img → (s : State) → Fitting img s → (d : ℕ) → s.cycles ≡ d → (x : Run) → Done img s (run x)
    → RanWell img s d x.words (run_cycles img d x.words) x.answer
unfolding Done
run-done img a s ok d e x done =
    rw (done.answered, ← (run-made img s x.words (state_fitting img s a ok))) (ran_well img x.words s d e (omega (arith, ok.cycled)))

-- ---- what the rule says of each call
pub call-rule :
    (img : List ℕ) → Accepted img → (s : State) → Fitting img s → (d : ℕ) → s.cycles ≡ d → (call : Call) → Done img s call → CallRule img d s call
unfolding CallRule
call-rule img a s ok d e (step x) done =
    let well = step-done img a s ok d e x done in
    let made : x.answer.number ≡ 0 → makes img d x ≡ true = λ z. sym well.made ∙ eq-eqb x.answer.number 0 z in
    let none : x.answer.number ≢ 0 → makes img d x ≡ false = λ f. sym well.made ∙ ne_eqb x.answer.number 0 f in
    record {
      accepted = (made, λ m. eqb-true x.answer.number 0 (well.made ∙ m));
      refused = λ f. rw (none f) at well.numbered;
      untouched = λ f. (rw (none f) at well.lettered, rw (none f) at well.valued, rw (none f) at well.stated);
      letters = λ z. rw (made z) at well.lettered;
      values = λ z. rw (made z) at well.valued;
    }
call-rule img a s ok d e (run x) done =
    let well = run-done img a s ok d e x done in record { steps = well.stepped; ended = well.numbered }
