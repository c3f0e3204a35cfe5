-- `encode::put_all` meets its contract. Assumes nothing.
use native.Mathlib.Omega.{arith}
use Rattle.writer.specs.Laws.Items.{put_nothing, put_item}
use Rattle.encode.proofs.put_all.Goals as goal

pub loop-item-init : goal.loop-item-init
loop-item-init g c = let a = c.args in (omega arith, put_nothing g.F.Bytes.bytes a.items.now a.at a.out.now)

pub loop-item-preserved : goal.loop-item-preserved
loop-item-preserved g c =
    let l = c.loop-item in
    (omega arith, put_item g.F.Bytes.bytes c.args.items.now l.item-index _ c.loop-item-test.true c.item-item.is l.invariant.1 c.put-end.ensures)
