-- `verdict::passes::all_stations` meets its contract. Assumes nothing.
use Rattle.std.proofs.Common.{◌≤◌, refl, add-one, arith}
use Rattle.laws.specs.Below.{sum_below}
use Rattle.image.specs.Readers.{wire_at}
use Rattle.verdict.proofs.passes.all_stations.Goals as goal

pub loop-c-init : goal.loop-c-init
unfolding sum_below
loop-c-init c = (refl, omega arith)

pub loop-c-preserved : goal.loop-c-preserved
unfolding sum_below wire_at
loop-c-preserved c =
    let byte : c.wire_at.result.stations ≤ 255 = omega arith in
    (rw (add-one, c.wire_at.ensures, c.loop-c.invariant.0), omega (arith, c.loop-c.invariant.1))
