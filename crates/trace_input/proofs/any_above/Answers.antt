-- `trace_input::any_above` meets its contract. Assumes nothing.
use Rattle.std.proofs.Common.{◌∙◌, get_or, refl, ℕ, Bool, arith, rules}
use Rattle.std.proofs.lemmas.Iterator.{YieldsList-from_range}
use Rattle.std.proofs.lemmas.Iterator.Search.{any_from_yields_List}
use Rattle.laws.specs.Laws.Below.{any_range}
use Rattle.cycle.specs.Word.{sets_above}
use Rattle.image.specs.Image.{nodes}
use Rattle.trace_input.specs.Input.{words_of}
use Rattle.trace_input.specs.Laws.Input.{above_read}
use Rattle.trace_input.proofs.any_above.Goals as goal

pub returns : goal.returns
returns c =
    let input = c.args.input.now in
    let test : ℕ → Bool = λ k. sets_above (nodes input) (get_or (words_of input) k 0) in
    any_from_yields_List test _ _ _ c.any.ensures.ran (YieldsList-from_range 0 c.words.result c.words.result refl (omega arith)) (λ k b q called. search rules)
    ∙ any_range test c.words.result
    ∙ rw c.words.ensures (above_read input)
