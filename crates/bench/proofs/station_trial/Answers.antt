-- `bench::station_trial` meets its contract. Assumes nothing.
use Rattle.std.proofs.Common.{ap₂}
use Rattle.relay.specs.declared.Station.{Station}
use Rattle.bench.specs.Bench.{Told}
use Rattle.bench.specs.ByValue.{BenchedTold}
use Rattle.bench.proofs.BenchLaws.{done-station}
use Rattle.bench.proofs.station_trial.Goals as goal

pub returns : goal.returns
returns c =
    let a = c.args in
    let b = c.station_bench-answer in
    let p = done-station a.station a.link a.stop _ b.new.s b.ensures in
    ap₂ {C = BenchedTold Station} (λ (after : Station) (answer : Told). record { after = after; answer = answer }) p.1 p.0
