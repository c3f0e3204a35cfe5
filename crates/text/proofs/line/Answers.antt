-- `text::line` meets its contract. Assumes nothing.
use mathlib.Core.List.{flat_map}
use mathlib.Core.Path.{◌≡◌}
use native.Mathlib.Omega.{arith}
use lib.ListN.{length}
use Rattle.std.proofs.Math.Seq.{take-length}
use Rattle.writer.specs.Laws.Put.{put_done, put_long}
use Rattle.writer.specs.Laws.Items.{put_nothing, put_inside, put_item}
use Rattle.text.specs.Laws.Lines.{line_none, line_made}
use Rattle.text.proofs.line.Goals as goal

pub returns-then-room_after-eq0-clause-write_done : goal.returns-then-room_after-eq0-clause-write_done
returns-then-room_after-eq0-clause-write_done g c =
    let a = c.args in
    line_none a.first.now (flat_map g.F.Text.text a.items.now) a.out.now (omega arith)

pub loop-item-init : goal.loop-item-init
loop-item-init g c = let p = c.put-behind in (omega arith, put_nothing g.F.Text.text c.args.items.now p.result p.new.out)

pub put-end-requires : goal.put-end-requires
put-end-requires g c =
    let l = c.loop-item in
    let p = put_done c.put-behind.ensures (omega arith) in
    put_inside g.F.Text.text c.args.items.now l.item-index _ c.loop-item-test.true c.item-item.is l.invariant.1
    (omega (arith, put_long p, p.next))

pub loop-item-preserved : goal.loop-item-preserved
loop-item-preserved g c =
    let l = c.loop-item in
    (omega arith, put_item g.F.Text.text c.args.items.now l.item-index _ c.loop-item-test.true c.item-item.is l.invariant.1 c.put-end.ensures)

pub returns-clause-write_done : goal.returns-clause-write_done
returns-clause-write_done g c =
    let a = c.args in
    let all : c.loop-item.item-index ≡ length a.items.now = omega arith in
    line_made a.first.now (flat_map g.F.Text.text a.items.now) a.out.now (omega arith)
    (put_done c.put-behind.ensures (omega arith)) (rw (all, take-length) at c.loop-item.invariant.1)
