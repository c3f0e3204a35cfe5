-- `trace::print_cycles` meets its contract. The loop's invariant: the state is that after the first k words. Assumes nothing.
use mathlib.Core.Path.{◌≡◌, sym, ap, ◌∙◌}
use Prim.Native.Nat.{◌≤◌}
use native.Mathlib.Numerals.{add-one}
use native.Mathlib.Omega.{arith}
use lib.ListN.{length}
use lib.Seq.{take_all}
use Rattle.state.specs.Fresh.{fresh_state, fresh_answer}
use Rattle.state.specs.Told.{Told, told}
use Rattle.state.specs.declared.Refused.{Refused}
use Rattle.state.specs.declared.State.{State}
use Rattle.std.specs.Prelude.{Result, Ok, Err}
use Rattle.std.specs.Result.{MatchResult}
use Rattle.std.proofs.Common.{rules}
use Rattle.cycle.specs.Cycle.{after}
use Rattle.cycle.specs.Loops.Turns.{after_next}
use Rattle.trace_input.specs.Input.{words_of}
use Rattle.trace_input.specs.Laws.Input.{length-words, input-accepted}
use Rattle.tracer.specs.Laws.Steps.{step_taken}
use Rattle.trace.proofs.print_cycles.Goals as goal

-- the state that an answer returns, refused or not
state_of :
    (Q : Refused → Type 0) (answer : Result State Refused) {s : State} → MatchResult answer (λ x. s ≡ x) Q
    → ((r : Refused) → Q r → s ≡ r.state) → s ≡ (told answer).state
state_of Q (Ok x) e h = e
state_of Q (Err r) e h = h r e

-- the cycles begin with the fresh state
pub loop-k-init : goal.loop-k-init
unfolding after fresh_answer
loop-k-init g c =
    let a = c.args in
    let j = input-accepted a.input.now c.requires.input_value in
    let e : c.unwrap_or_else-state.result ≡ (told c.fresh.result).state = state_of _ c.fresh.result c.unwrap_or_else-state.ensures (λ r called. search rules) in
    (omega arith, e ∙ ap (λ (t : Told). t.state) c.fresh.ensures.answered ∙ rw (c.requires.image_value, j))

pub cycle_line-cycled-requires : goal.cycle_line-cycled-requires
cycle_line-cycled-requires g c =
    let l = c.loop-k in
    let i = c.args.input.now in
    rw (c.word_at.ensures, l.invariant.1, c.requires.image_value)
    (step_taken i c.requires.input_value l.k (omega (arith, c.words-k-end.ensures, length-words i)))

pub loop-k-preserved : goal.loop-k-preserved
loop-k-preserved g c =
    let l = c.loop-k in
    let img = c.args.image.now in
    let i = c.args.input.now in (
      omega (arith, c.words-k-end.ensures, length-words i),
      c.cycle_line-cycled.ensures.state_value
          ∙ rw (add-one l.k, c.word_at.ensures, l.invariant.1)
          (sym (after_next img (fresh_state img) (words_of i) l.k (omega (arith, c.words-k-end.ensures, length-words i)))),
    )

pub returns : goal.returns
returns g c =
    let l = c.loop-k in
    let words = words_of c.args.input.now in
    let e : length words ≤ l.k = omega (arith, c.words-k-end.ensures, length-words c.args.input.now) in
    l.invariant.1 ∙ rw (take_all l.k words e)
