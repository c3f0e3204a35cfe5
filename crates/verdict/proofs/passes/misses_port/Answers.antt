-- `verdict::passes::misses_port` meets its contract. Assumes nothing.
use Rattle.std.proofs.Common.{◌∙◌, not, false, get_or, refl, rules, tests, arith}
use Rattle.std.proofs.lemmas.Iterator.{YieldsList-from_range}
use Rattle.std.proofs.lemmas.Iterator.Search.{any_from_yields_List}
use Rattle.laws.specs.Laws.Below.{any_range}
use Rattle.kinds.specs.Kinds.{inputs}
use Rattle.image.specs.Image.{kind}
use Rattle.verdict.specs.Loops.Passes.{misses}
use Rattle.image.specs.Loops.Ports.{port_place}
use Rattle.verdict.proofs.passes.misses_port.Goals as goal

pub returns : goal.returns
unfolding misses
returns c =
    let k = inputs (kind c.args.image.now c.args.n) in
    any_from_yields_List (λ p. not (get_or c.args.ports.now (port_place c.args.n p) false)) _ _ _ c.any.ensures.ran
    (YieldsList-from_range 0 _ k refl (rw (c.inputs.ensures, c.kind_at.ensures) (omega arith))) (λ x b q k. search (rules, tests)) ∙ any_range _ _
