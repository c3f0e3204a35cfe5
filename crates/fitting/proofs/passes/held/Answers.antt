-- `fitting::passes::held` meets its contract. Assumes nothing.
use Rattle.std.proofs.Common.{rules, ◌≡◌, ◌<◌, ◌^◌, arith, add-one, refl}
use Rattle.std.specs.Prelude.{length, get_or}
use Rattle.laws.specs.Below.{sum_below}
use Rattle.relay.specs.Station.{no_station}
use Rattle.fitting.specs.Loops.Passes.{counted}
use Rattle.fitting.proofs.passes.held.Goals as goal

pub loop-station-init : goal.loop-station-init
unfolding sum_below
loop-station-init c = (refl, omega arith)

pub loop-station-preserved : goal.loop-station-preserved
unfolding sum_below
loop-station-preserved c =
    let one : c.from-held.result ≡ (get_or c.args.row.now c.loop-station.station-index no_station).count = search rules in
    let byte : c.from-held.result < 2 ^ 8 = search rules in
    (rw (add-one, one, ← c.loop-station.invariant.0), omega (arith, byte, c.loop-station.invariant.1))

pub returns : goal.returns
unfolding counted
returns c =
    let e : c.loop-station.station-index ≡ length c.args.row.now = search rules in
    (rw e at c.loop-station.invariant.0, omega (arith, e, c.loop-station.invariant.1, c.requires))
