-- `bench::rows::walk` meets its contract. Assumes nothing.
use Rattle.std.proofs.Common.{arith}
use Rattle.bench.proofs.WalkLaws.{walk_begins, walk_turn, walk_ends}
use Rattle.bench.proofs.rows.walk.Goals as goal

pub loop-j-init : goal.loop-j-init
loop-j-init c = walk_begins c.args.row.now c.args.link c.args.stop

pub loop-j-preserved : goal.loop-j-preserved
loop-j-preserved c =
    let a = c.args in
    let l = c.loop-j in
    rw (c.after.ensures, c.full-below.ensures)
    (walk_turn a.row.now a.link a.stop l.j l.row c.link_at-above.result l.below (omega (arith, c.loop-j-test.true)) l.invariant c.link_at-above.ensures)

pub returns : goal.returns
returns c =
    let a = c.args in
    let l = c.loop-j in
    walk_ends a.row.now a.link a.stop l.j l.row l.below (omega (arith, c.loop-j-test.false)) l.invariant
