-- No call that a program makes for an input of number 0 is refused, from the fresh state on, word by word, but for room. Assumes nothing.
use Rattle.std.specs.Prelude.{false, List, ◌≡◌, ℕ, ◌<◌, ◌≤◌, length, get_or, take}
use Rattle.std.proofs.Common.{sym, arith, le-ltb, ne_eqb, length-take-le}
use Rattle.std.proofs.lemmas.List.Elements.{All-get_or}
use Rattle.std.proofs.Math.Seq.{take-length}
use Rattle.image.specs.Image.{nodes, channels}
use Rattle.verdict.specs.Laws.Accepted.{accepted}
use Rattle.state.specs.Fresh.{fresh_state}
use Rattle.state.specs.Laws.Fresh.{fresh-cycles}
use Rattle.fitting.specs.Laws.Fitting.{fitting-fresh}
use Rattle.fitting.specs.Fits.{state_number}
use Rattle.fitting.specs.Laws.Number.{state_fitting}
use Rattle.cycle.specs.Word.{sets_above}
use Rattle.cycle.specs.Cycle.{after}
use Rattle.cycle.specs.Laws.After.{cycles-after, fitting-after}
use Rattle.engine.specs.Answer.{step_number}
use Rattle.engine.specs.Laws.Answer.{number_last}
use Rattle.trace_input.specs.Input.{image_of, words_of, input_number}
use Rattle.trace_input.specs.Laws.Input.{input-accepted, words_few, words_own}

module _ (input : List ℕ) (e : input_number input (length input) ≡ 0) where
  abbrev img : List ℕ
  img = image_of input

  abbrev words : List ℕ
  words = words_of input

  -- the state after the first k words has number 0, and k cycles are done
  state_taken : (k : ℕ) → k ≤ length words → let s = after img (fresh_state img) (take k words) in (state_number img s ≡ 0) × (s.cycles ≡ k)
  state_taken k h =
      let a = accepted img (input-accepted input e) in
      let few : length (take k words) ≡ k = length-take-le k words h in
      let fit =
      fitting-after img a (take k words) (fresh_state img) (fitting-fresh img a) (omega (arith, fresh-cycles img, few, words_few input e)) in
      let count : (after img (fresh_state img) (take k words)).cycles ≡ k =
      omega (arith, cycles-after img (fresh_state img) (take k words), fresh-cycles img, few) in
      (sym (state_fitting img _ a fit), count)

  -- the step with word k is not refused
  pub step_taken :
      (k : ℕ) → k < length words → step_number img (after img (fresh_state img) (take k words)) (get_or words k 0) 96 96 ≡ 0
  step_taken k h =
      let s = after img (fresh_state img) (take k words) in
      let i = state_taken k (omega arith) in
      let few = (accepted img (input-accepted input e)).few_channels in
      let late = ne_eqb s.cycles 1000000 (λ q. omega (arith, i.1, words_few input e)) in
      let own = All-get_or (λ word. sets_above (nodes img) word ≡ false) words k 0 h (words_own input e) in
      rw (le-ltb 96 (channels img) few) at (sym (number_last img s (get_or words k 0) 96 96 i.0 late own))

  -- the closing line after the last word's cycle is not refused
  pub closing_taken : state_number img (after img (fresh_state img) words) ≡ 0
  closing_taken = rw take-length at (state_taken (length words) (omega arith)).0
