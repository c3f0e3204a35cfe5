-- `state::State::started` meets its contract: the first n nodes are filled in, and then the first c channels are pending. Assumes nothing.
use mathlib.Core.Path.{◌≡◌, ap, ◌∙◌}
use Prim.Native.Nat.{◌<◌}
use native.Mathlib.Numerals.{add-one}
use native.Mathlib.Omega.{arith}
use borrow.Author.Rules.{rules}
use mir.Syntax.{w32}
use mir.Val.{SFits}
use mir.Facts.{to_z-of_z}
use Rattle.image.specs.declared.Core.{Core}
use Rattle.image.specs.Image.{nodes, channels}
use Rattle.image.specs.Readers.{core_at}
use Rattle.verdict.specs.Laws.Accepted.{accepted}
use Rattle.state.specs.Laws.Fresh.{filled_none, filled_node, filled_pending, filled_all}
use Rattle.state.proofs.State.started.Goals as goal

pub loop-n-init : goal.loop-n-init
loop-n-init c = (omega arith, c.zeros-state.ensures ∙ filled_none c.args.netlist.image.now)

pub loop-n-preserved : goal.loop-n-preserved
unfolding core_at
loop-n-preserved c =
    let img = c.args.netlist.image.now in
    let there : c.loop-n.n < 64 = omega (arith, c.nodes-nodes.ensures.few) in
    let r = c.core-core in
    let f : SFits w32 r.result.parameter = search rules in (
      omega arith,
      rw (to_z-of_z f, add-one)
          (filled_node img c.loop-n.n 0 there c.loop-n.state c.loop-n.invariant.1 r.result.parameter (ap (λ (x : Core). x.parameter) r.ensures)),
    )

pub loop-c-preserved : goal.loop-c-preserved
loop-c-preserved c =
    let img = c.args.netlist.image.now in
    let there : c.loop-c.c < 96 = omega (arith, c.channels-channels.ensures.few) in
    (omega arith, rw add-one (filled_pending img (nodes img) c.loop-c.c there c.loop-c.state c.loop-c.invariant.1))

pub returns : goal.returns
returns c =
    let img = c.args.netlist.image.now in
    let e : c.loop-c.c ≡ channels img = omega (arith, c.channels-channels.ensures.value) in
    (rw e at c.loop-c.invariant.1) ∙ filled_all img (accepted img c.args.netlist.accepted)
