-- `node::kinds_of` meets its contract. The loop's invariant: the kinds of the nodes below n are read. Assumes nothing.
use mathlib.Core.Path.{◌≡◌, ap}
use mathlib.Core.Bool.{false}
use Prim.Native.Nat.{◌<◌}
use native.Mathlib.Numerals.{add-one}
use native.Mathlib.Omega.{arith}
use borrow.Author.Tests.{le-ltb}
use Rattle.kinds.specs.Kinds.{last_kind, no_kind}
use Rattle.image.specs.Image.{nodes, kind}
use Rattle.verdict.specs.Laws.Accepted.{accepted}
use Rattle.image.specs.declared.Core.{Core}
use Rattle.image.specs.Readers.{core_at}
use Rattle.pearl.specs.Laws.Kind.{decodes_ok, kind_byte-decoded}
use Rattle.node.specs.Laws.Kinds.{kinds_none, kinds_more}
use Rattle.node.proofs.kinds_of.Goals as goal

pub unwrap-requires : goal.unwrap-requires
unfolding core_at
unwrap-requires c =
    let img = c.args.netlist.image.now in
    let h : c.loop-n.n < nodes img = omega (arith, c.nodes-n-end.ensures.value) in
    let r = (accepted img c.args.netlist.accepted).kinds c.loop-n.n h in
    let k : c.core.result.kind ≡ kind img c.loop-n.n = ap (λ (x : Core). x.kind) c.core.ensures in
    let e : no_kind c.core.result.kind ≡ false = rw (k, le-ltb (kind img c.loop-n.n) 1 r.0, le-ltb last_kind (kind img c.loop-n.n) r.1) in
    decodes_ok c.core.result.kind c.try_from.result e c.try_from.ensures

pub loop-n-init : goal.loop-n-init
loop-n-init c = kinds_none c.args.netlist.image.now

pub loop-n-preserved : goal.loop-n-preserved
unfolding core_at
loop-n-preserved c =
    let img = c.args.netlist.image.now in
    let h : c.loop-n.n < nodes img = omega (arith, c.nodes-n-end.ensures.value) in
    let e = kind_byte-decoded c.core.result.kind c.try_from.ensures c.unwrap.ensures in
    rw (add-one, c.from.ensures)
    (kinds_more img c.loop-n.n c.loop-n.kinds c.unwrap.result (omega (arith, c.nodes-n-end.ensures.few)) c.loop-n.invariant
    (rw c.core.ensures at e))
