-- What is printed for an input of any length is given by its length and its first 33,570 bytes, since they decide its number.
use Rattle.std.specs.Prelude.{true, false, not, List, ◌≡◌, ℕ, min, eqb, take}
use Rattle.std.proofs.Math.Logic.{⊎_elim}
use Rattle.std.proofs.Common.{arith, eqb-true, length-take, take_all}
use Rattle.std.proofs.Math.ListN.{length}
use Rattle.laws.specs.Laws.Cases.{true_or_false}
use Rattle.laws.specs.Choice.{◌if◌else◌}
use Rattle.text.specs.Lines.{refused_text}
use Rattle.trace_input.specs.Input.{image_of, words_of, input_number}
use Rattle.trace_input.specs.Laws.Head.{head_decides, head_whole}
use Rattle.tracer.specs.Trace.{trace_of, printed}

-- a program that keeps an input's first 33,570 bytes and counts the others can print what is due for the whole input
pub head_prints :
    (input : List ℕ)
    → let head = take 33570 input in
    let number = input_number head (length input) in
    printed input ≡ (refused_text number if not (eqb number 0) else trace_of (image_of head) (words_of head))
unfolding printed
head_prints input =
    let head = take 33570 input in
    let number = input_number head (length input) in
    let kept : length head ≡ min (length input) 33570 = omega (arith, length-take 33570 input) in
    let e = head_decides input 33570 (omega arith) in
    ⊎_elim
    (λ (z : eqb number 0 ≡ true).
    let whole = head_whole head (length input) kept (eqb-true number 0 z) in
    rw (← e, z, take_all 33570 input (omega (arith, whole, kept))))
    (λ (z : eqb number 0 ≡ false). rw (← e, z))
    (true_or_false (eqb number 0))
