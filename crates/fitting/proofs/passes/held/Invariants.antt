-- `fitting::passes::held`: what the stations looked at so far hold is counted, and each count is a byte.
use Rattle.std.proofs.Common.{◌≡◌, ◌*◌, ◌≤◌}
use Rattle.std.specs.Prelude.{get_or}
use Rattle.laws.specs.Below.{sum_below}
use Rattle.relay.specs.Station.{no_station}
use Rattle.fitting.proofs.passes.held.Given as goal

abbrev pub invariant-loop-station : goal.invariant-loop-station
invariant-loop-station l =
    (l.held ≡ sum_below (λ j. (get_or l.row j no_station).count) l.station-index) × (l.held ≤ 255 * l.station-index)
