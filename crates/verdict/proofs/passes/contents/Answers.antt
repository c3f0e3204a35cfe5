-- `verdict::passes::contents` meets its contract: at each return the tests for the numbers before it have failed. Assumes nothing.
use Rattle.std.proofs.Common.{rules, tests, Bool, true, false, List, ℕ, arith, ◌≡◌, ◌≤◌, sym, ◌∙◌, refl}
use Rattle.std.proofs.lemmas.Iterator.{YieldsList-from_range}
use Rattle.std.proofs.lemmas.Iterator.Search.{any_from_yields_List}
use Rattle.laws.specs.Below.{any_below}
use Rattle.laws.specs.Laws.Below.{any_range}
use Rattle.laws.specs.Choice.{◌if◌else◌}
use Rattle.laws.specs.Laws.Choice.{past}
use Rattle.refusal.specs.declared.Refusal.{Refusal}
use Rattle.refusal.specs.Number.{number}
use Rattle.refusal.specs.Laws.Number.{number_positive}
use Rattle.image.specs.Image.{nodes, channels}
use Rattle.verdict.specs.Judge.{depth_number, sizes_number, contents_number, bad_kind, bad_wire, bad_port}
use Rattle.verdict.specs.Loops.Passes.{fed_below, twice_below, misses}
use Rattle.verdict.specs.Laws.Sized.{sized}
use Rattle.image.specs.Loops.Ports.{Wired}
use Rattle.verdict.specs.Loops.PassesLaws.{wired, twice_is, misses_is}
use Rattle.verdict.proofs.passes.contents.Goals.{After-any, After-any-2, After-any-3, After-any-4}
use Rattle.verdict.proofs.passes.contents.Goals as goal

-- the pass for number 4 found what the definition asks
four : (c : After-any) → any_below (bad_kind c.args.image.now) (nodes c.args.image.now) ≡ c.any.result
four c =
    sym (any_from_yields_List (bad_kind c.args.image.now) _ _ _ c.any.ensures.ran
    (YieldsList-from_range 0 _ (nodes c.args.image.now) refl (omega (arith, c.nodes-nodes.ensures))) (λ x b q k. search (rules, tests)) ∙ any_range _ _)

five : (c : After-any-2) → any_below (bad_wire c.args.image.now) (channels c.args.image.now) ≡ c.any-2.result
five c =
    sym (any_from_yields_List (bad_wire c.args.image.now) _ _ _ c.any-2.ensures.ran
    (YieldsList-from_range 0 _ (channels c.args.image.now) refl (omega (arith, c.channels-channels.ensures))) (λ x b q k. search (rules, tests)) ∙ any_range _ _)

six : (c : After-any-3) → any_below (bad_port c.args.image.now) (channels c.args.image.now) ≡ c.any-3.result
six c =
    sym (any_from_yields_List (bad_port c.args.image.now) _ _ _ c.any-3.ensures.ran
    (YieldsList-from_range 0 _ (channels c.args.image.now) refl (omega (arith, c.channels-channels.ensures))) (λ x b q k. search (rules, tests)) ∙ any_range _ _)

-- an image in which none of the numbers 1 to 6 has a cause
module _ (img : List ℕ) (sizes : sizes_number img ≡ 0) (no_4 : any_below (bad_kind img) (nodes img) ≡ false)
    (no_5 : any_below (bad_wire img) (channels img) ≡ false) (no_6 : any_below (bad_port img) (channels img) ≡ false) where
  few : nodes img ≤ 64
  few = (sized img sizes).few_nodes

  -- every port that is fed has a place
  places : Wired img (channels img)
  places = wired img (channels img) few no_5 no_6

  -- where numbers 1 to 6 have no cause, 7, 8 and the depths are left, and the passes' tests for 7 and 8 are the definition's
  left : (ports : List Bool) → ports ≡ fed_below img (channels img)
      → contents_number img ≡ (7 if twice_below img (channels img) else 8 if any_below (misses img ports) (nodes img) else depth_number img)
  unfolding contents_number
  left ports e =
      rw (no_4, no_5, no_6, e, twice_is img (channels img) places, misses_is img few places)

pub returns-then-any : goal.returns-then-any
unfolding contents_number
returns-then-any c =
    let a = goal.at.returns-then-any c in
    rw (four a.After-any ∙ c.if-any.true)

pub returns-then-any-2 : goal.returns-then-any-2
unfolding contents_number
returns-then-any-2 c =
    let a = goal.at.returns-then-any-2 c in
    rw (four a.After-any ∙ c.if-any.false, five a.After-any-2 ∙ c.if-any-2.true)

pub returns-then-any-3 : goal.returns-then-any-3
unfolding contents_number
returns-then-any-3 c =
    let a = goal.at.returns-then-any-3 c in
    rw (four a.After-any ∙ c.if-any.false, five a.After-any-2 ∙ c.if-any-2.false, six a.After-any-3 ∙ c.if-any-3.true)

pub feed_ports-requires : goal.feed_ports-requires
feed_ports-requires c =
    let a = goal.at.feed_ports-requires c in
    places c.args.image.now c.requires (four a.After-any ∙ c.if-any.false) (five a.After-any-2 ∙ c.if-any-2.false) (six a.After-any-3 ∙ c.if-any-3.false)

-- the number of a refusal is that of the chain, where it is the number of the chain's first test
first : (r : Refusal) (test : Bool) (later : ℕ) → number r ≡ (7 if test else 0) → (7 if test else later) ≡ number r
first r true later e = sym e
first r false later e = let h = number_positive r in absurd (omega arith)

pub returns-in_err-ports : goal.returns-in_err-ports
returns-in_err-ports c =
    let a = goal.at.returns-in_err-ports c in
    let r = c.in_err-ports.field-0.0 in
    let refused : contents_number c.args.image.now ≡ number r =
    rw (left c.args.image.now c.requires (four a.After-any ∙ c.if-any.false) (five a.After-any-2 ∙ c.if-any-2.false) (six a.After-any-3 ∙ c.if-any-3.false) _ refl)
    (first r _ _ c.in_err-ports.ensures.number) in
    rw refused (search rules)

-- the pass for number 8 found what the definition asks
eight : (c : After-any-4) → any_below (misses c.args.image.now c.in_ok-ports.ports) (nodes c.args.image.now) ≡ c.any-4.result
eight c =
    sym (any_from_yields_List (misses c.args.image.now _) _ _ _ c.any-4.ensures.ran
    (YieldsList-from_range 0 _ (nodes c.args.image.now) refl (omega (arith, c.nodes-nodes.ensures))) (λ x b q k. search (rules, tests)) ∙ any_range _ _)

pub returns-then-any-4 : goal.returns-then-any-4
returns-then-any-4 c =
    let a = goal.at.returns-then-any-4 c in
    rw (
      left c.args.image.now c.requires (four a.After-any ∙ c.if-any.false) (five a.After-any-2 ∙ c.if-any-2.false) (six a.After-any-3 ∙ c.if-any-3.false) _ c.in_ok-ports.ensures.fed,
      (past 6 0 _ (sym c.in_ok-ports.ensures.number)).0,
      eight a.After-any-4 ∙ c.if-any-4.true,
    )

pub returns : goal.returns
returns c =
    let a = goal.at.returns c in
    rw (
      left c.args.image.now c.requires (four a.After-any ∙ c.if-any.false) (five a.After-any-2 ∙ c.if-any-2.false) (six a.After-any-3 ∙ c.if-any-3.false) _ c.in_ok-ports.ensures.fed,
      (past 6 0 _ (sym c.in_ok-ports.ensures.number)).0,
      eight a.After-any-4 ∙ c.if-any-4.false,
    )
    c.judge_depths.ensures
