-- `fitting::passes::clear_queue` meets its contract. Assumes nothing.
use Rattle.std.proofs.Common.{rules, tests, ◌≡◌, ◌∙◌, length}
use Rattle.std.specs.Prelude.{pos}
use Rattle.std.proofs.lemmas.Iterator.{YieldsList-from_slice}
use Rattle.std.proofs.lemmas.Iterator.Adapters.{YieldsList-from_skip}
use Rattle.std.proofs.lemmas.Iterator.Search.{all_from_yields_List}
use Rattle.laws.specs.Lists.{zero_from}
use Rattle.laws.specs.Signed.{is_zero}
use Rattle.laws.specs.Laws.Signed.{zero_bits}
use Rattle.fitting.proofs.Listed.{rest}
use Rattle.fitting.proofs.passes.clear_queue.Goals as goal

pub returns : goal.returns
unfolding zero_from
returns c =
    let all = c.args.queue.tokens in
    let n = c.args.queue.count in
    let long : length all ≡ 8 = search rules in
    all_from_yields_List is_zero _ _ _ c.all.ensures.ran (YieldsList-from_skip n (YieldsList-from_slice all cc) cc) (λ x b q k. search (rules, tests, zero_bits))
    ∙ rest is_zero (pos 0) all n 8 long
