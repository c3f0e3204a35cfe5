-- `fitting::passes::channels_fit` meets its contract. Assumes nothing.
use Rattle.std.proofs.Common.{rules, tests, ◌≡◌, ◌∙◌, refl, arith}
use Rattle.std.proofs.lemmas.Iterator.{YieldsList-from_range}
use Rattle.std.proofs.lemmas.Iterator.Search.{all_from_yields_List}
use Rattle.laws.specs.Laws.Below.{all_range}
use Rattle.image.specs.Image.{channels}
use Rattle.fitting.specs.Loops.Passes.{channel_fits, channels_fit}
use Rattle.fitting.proofs.passes.channels_fit.Goals as goal

pub returns : goal.returns
unfolding channels_fit
returns c =
    let img = c.args.netlist.image.now in
    let test = channel_fits img c.args.state.now in
    let n = c.channels.result in
    let same : n ≡ channels img = search rules in
    rw same at (all_from_yields_List test _ _ _ c.all.ensures.ran (YieldsList-from_range 0 n n refl (omega arith)) (λ x b q k. search (rules, tests)) ∙ all_range test n)
