-- `verdict::passes::judge_depths` meets its contract. Assumes nothing.
use Rattle.std.proofs.Common.{◌≡◌, ◌∙◌, sym, refl, rules, tests, arith}
use Rattle.std.proofs.lemmas.Iterator.{YieldsList-from_range}
use Rattle.std.proofs.lemmas.Iterator.Search.{any_from_yields_List}
use Rattle.laws.specs.Below.{any_below}
use Rattle.laws.specs.Laws.Below.{any_range}
use Rattle.image.specs.Image.{channels}
use Rattle.verdict.specs.Judge.{bad_stations, bad_depth, depth_number}
use Rattle.verdict.proofs.passes.judge_depths.Goals.{After-any, After-any-2}
use Rattle.verdict.proofs.passes.judge_depths.Goals as goal

nine : (c : After-any) → any_below (bad_stations c.args.image.now) (channels c.args.image.now) ≡ c.any.result
nine c =
    sym (any_from_yields_List (bad_stations c.args.image.now) _ _ _ c.any.ensures.ran
    (YieldsList-from_range 0 _ (channels c.args.image.now) refl (omega (arith, c.channels-channels.ensures)))
    (λ x b q k. search (rules, tests)) ∙ any_range _ _)

ten : (c : After-any-2) → any_below (bad_depth c.args.image.now) (channels c.args.image.now) ≡ c.any-2.result
ten c =
    sym (any_from_yields_List (bad_depth c.args.image.now) _ _ _ c.any-2.ensures.ran
    (YieldsList-from_range 0 _ (channels c.args.image.now) refl (omega (arith, c.channels-channels.ensures)))
    (λ x b q k. search (rules, tests)) ∙ any_range _ _)

pub returns-then-any : goal.returns-then-any
unfolding depth_number
returns-then-any c = rw (nine (goal.at.returns-then-any c).After-any ∙ c.if-any.true)

pub returns-then-any-2 : goal.returns-then-any-2
unfolding depth_number
returns-then-any-2 c =
    let a = goal.at.returns-then-any-2 c in
    rw (nine a.After-any ∙ c.if-any.false, ten a.After-any-2 ∙ c.if-any-2.true)

pub returns-then-all_stations-gt256 : goal.returns-then-all_stations-gt256
unfolding depth_number
returns-then-all_stations-gt256 c =
    let a = goal.at.returns-then-all_stations-gt256 c in
    rw (nine a.After-any ∙ c.if-any.false, ten a.After-any-2 ∙ c.if-any-2.false) (search (rules, tests))

pub returns : goal.returns
unfolding depth_number
returns c =
    let a = goal.at.returns c in
    rw (nine a.After-any ∙ c.if-any.false, ten a.After-any-2 ∙ c.if-any-2.false) (search (rules, tests))
