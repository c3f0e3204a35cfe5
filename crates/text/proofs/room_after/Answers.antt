-- `text::room_after` meets its contract. Assumes nothing.
use native.Mathlib.Omega.{arith}
use mathlib.Core.List.{flat_map}
use mathlib.Core.Path.{◌≡◌}
use Prim.Native.Nat.{◌+◌, ◌*◌}
use Rattle.std.proofs.Common.{add-one, mul-suc}
use Rattle.writer.specs.Laws.Items.{room_more}
use Rattle.text.proofs.room_after.Goals as goal

pub loop-item-init : goal.loop-item-init
unfolding flat_map
loop-item-init g c = (omega arith, omega arith, omega arith)

pub loop-item-preserved : goal.loop-item-preserved
loop-item-preserved g c =
    let l = c.loop-item in
    let longest = g.F.Text.longest in
    let e = room_more g.F.Text.text c.args.items.now l.item-index _ c.loop-item-test.true c.item-item.is c.args.room in
    let m : longest * (l.item-index + 1) ≡ longest * l.item-index + longest = rw (add-one, mul-suc) in (
      omega arith,
      rw (c.saturating_sub-left.ensures, l.invariant.1, c.size.ensures.0) e,
      omega (arith, m, c.saturating_sub-left.ensures, c.size.ensures.1, l.invariant.2),
    )
