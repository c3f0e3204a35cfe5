-- `fitting::passes::nodes_fit` meets its contract. Assumes nothing.
use Rattle.std.proofs.Common.{rules, tests, ◌≡◌, ◌∙◌, length, take, drop, ◌-◌}
use Rattle.std.specs.Prelude.{leb, Bool, ◌≤◌}
use Rattle.std.proofs.lemmas.Iterator.{YieldsList-from_slice}
use Rattle.std.proofs.lemmas.Iterator.Search.{all_from_yields_List}
use Rattle.laws.specs.Below.{all_below}
use Rattle.image.specs.Image.{nodes}
use Rattle.state.specs.declared.Node.{Node}
use Rattle.state.specs.State.{no_node, node_at}
use Rattle.fitting.specs.Fits.{firings_fit, node_clear}
use Rattle.fitting.specs.Loops.Passes.{nodes_fit, empty_node}
use Rattle.fitting.proofs.Listed.{front, behind}
use Rattle.fitting.proofs.passes.nodes_fit.Goals as goal

pub returns : goal.returns
unfolding nodes_fit firings_fit node_clear node_at empty_node
returns c =
    let all = c.args.state.now.nodes in
    let n = c.from-nodes.result in
    let long : length all ≡ 64 = search rules in
    let few : n ≤ length all = search rules in
    let same : n ≡ nodes c.args.netlist.image.now = search rules in
    let fired : Node → Bool = λ x. leb x.firings c.args.state.now.cycles in
    let used = all_from_yields_List fired _ _ _ c.all-used.ensures.ran (YieldsList-from_slice (take n all) (search rules)) (λ x b q k. search (rules, tests)) in
    let unused = all_from_yields_List empty_node _ _ _ c.all-unused.ensures.ran (YieldsList-from_slice (take (64 - n) (drop n all)) cc) (λ x b q k. search (rules, tests)) in
    let first : c.all-used.result ≡ firings_fit c.args.netlist.image.now c.args.state.now = rw same at (used ∙ front fired no_node all n few) in
    let second : c.all-unused.result ≡ all_below (node_clear c.args.netlist.image.now c.args.state.now) 64 =
    rw same at (unused ∙ behind empty_node no_node all n 64 long) in
    rw (first, second)
