-- `verdict::passes::all_stations`: the stations on the channels below c are added, each of them a byte.
use Rattle.std.proofs.Common.{◌≡◌, ◌≤◌, ◌*◌}
use Rattle.laws.specs.Below.{sum_below}
use Rattle.image.specs.Image.{stations}
use Rattle.verdict.proofs.passes.all_stations.Given as goal

abbrev pub invariant-loop-c : goal.invariant-loop-c
invariant-loop-c l = (l.total ≡ sum_below (stations l.image) l.c) × (l.total ≤ 255 * l.c)
