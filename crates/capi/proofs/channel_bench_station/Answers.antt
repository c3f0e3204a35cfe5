-- `capi::channel_bench_station` meets its contract. Assumes nothing.
use Rattle.std.proofs.Common.{[], ◌∷◌, ℤ, sym, ap, ◌∙◌}
use Rattle.std.proofs.Math.Facts.{to_z-of_z}
use Rattle.std.specs.Bool.{then_some}
use Rattle.bench.specs.Bench.{BenchDone, told}
use Rattle.layout.specs.Bytes.{record_in}
use Rattle.capi.specs.Laws.Records.{ok_number, err-number, told_call, station-called, station_refused}
use Rattle.capi.proofs.channel_bench_station.Goals.{After-tell-number}
use Rattle.capi.proofs.channel_bench_station.Goals as goal

-- what the station bench was lent, and has done
done :
    (c : After-tell-number)
    → BenchDone (record_in c.args.station.now ∷ []) (then_some c.args.valid c.args.value) c.args.stop
    (told c.station_bench-answer.result) (c.station_bench-answer.new.s ∷ [])
done c =
    let link = c.then_some-link.ensures ∙ ap (λ (v : ℤ). then_some c.args.valid v) (to_z-of_z c.ranges.value) in
    rw (c.record_in-record.ensures, link) at c.station_bench-answer.ensures

pub returns-then-is_ok : goal.returns-then-is_ok
returns-then-is_ok c =
    let a = c.args in
    let d = (goal.at.returns-then-is_ok c).After-tell-number in
    let z = ok_number c.station_bench-answer.result (sym c.is_ok.ensures.value ∙ c.if-is_ok.true) in
    told_call _ a.station.now a.valid a.value a.stop _ c.tell-number.ensures
    (station-called a.station.now a.valid a.value a.stop (done d) z c.put_records.ensures)

pub returns-else-is_ok : goal.returns-else-is_ok
returns-else-is_ok c =
    let a = c.args in
    let d = (goal.at.returns-else-is_ok c).After-tell-number in
    told_call _ a.station.now a.valid a.value a.stop _ c.tell-number.ensures
    (station_refused a.station.now a.valid a.value a.stop (done d) (err-number c.station_bench-answer.result (sym c.is_ok.ensures.value ∙ c.if-is_ok.false)))
