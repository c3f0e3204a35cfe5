-- `capi::channel_bench_row` meets its contract. Assumes nothing.
use Rattle.std.proofs.Common.{◌≡◌, ℤ, length, rules, sym, ap, ◌∙◌}
use Rattle.std.proofs.Math.Facts.{to_z-of_z}
use Rattle.std.specs.Bool.{then_some}
use Rattle.bench.specs.Bench.{BenchDone, told}
use Rattle.capi.specs.Laws.Records.{ok_number, err-number, told_call, lent, row-called, row_refused}
use Rattle.capi.proofs.channel_bench_row.Goals.{After-tell-number}
use Rattle.capi.proofs.channel_bench_row.Goals as goal

-- what the row bench was lent, and has done
done :
    (c : After-tell-number)
    → BenchDone (lent c.args.row.now) (then_some c.args.valid c.args.value) c.args.stop (told c.row_bench-answer.result) c.row_bench-answer.new.row
done c =
    let link = c.then_some-link.ensures ∙ ap (λ (v : ℤ). then_some c.args.valid v) (to_z-of_z c.ranges.value) in
    let long : length c.row_in-records.result ≡ 9 = search rules in
    rw (c.min-count.ensures, link, c.record_count.ensures, c.row_in-records.ensures) at c.row_bench-answer.ensures

pub returns-then-is_ok : goal.returns-then-is_ok
returns-then-is_ok c =
    let a = c.args in
    let d = (goal.at.returns-then-is_ok c).After-tell-number in
    told_call _ a.row.now a.valid a.value a.stop _ c.tell-number.ensures
    (row-called a.row.now a.valid a.value a.stop (done d) (ok_number c.row_bench-answer.result (sym c.is_ok.ensures.value ∙ c.if-is_ok.true)) _
    (rw (c.min-count.ensures, c.record_count.ensures) at c.put_records.ensures))

pub returns-else-is_ok : goal.returns-else-is_ok
returns-else-is_ok c =
    let a = c.args in
    let d = (goal.at.returns-else-is_ok c).After-tell-number in
    told_call _ a.row.now a.valid a.value a.stop _ c.tell-number.ensures
    (row_refused a.row.now a.valid a.value a.stop (done d) (err-number c.row_bench-answer.result (sym c.is_ok.ensures.value ∙ c.if-is_ok.false)))
