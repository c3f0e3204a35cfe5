-- `bench::rows::all_fit` meets its contract. Assumes nothing.
use Rattle.std.proofs.Common.{◌∙◌, rules, tests}
use Rattle.std.proofs.lemmas.Iterator.{YieldsList-from_slice}
use Rattle.std.proofs.lemmas.Iterator.Search.{all_from_yields_List}
use Rattle.bench.specs.Bench.{fits}
use Rattle.bench.proofs.WalkLaws.{all_listed}
use Rattle.bench.proofs.rows.all_fit.Goals as goal

pub returns : goal.returns
returns c =
    all_from_yields_List fits _ _ _ c.all.ensures.ran (YieldsList-from_slice c.args.row.now cc) (λ x b q k. search (rules, tests))
    ∙ all_listed fits c.args.row.now
