-- `bench::row_bench` meets its contract: 15, then 21, then the walk. Assumes nothing.
use Rattle.std.proofs.Common.{◌∙◌, sym}
use Rattle.bench.proofs.BenchLaws.{row_none, row_unfit, row_walked}
use Rattle.bench.proofs.row_bench.Goals as goal

pub returns-then-n : goal.returns-then-n
returns-then-n c = let a = c.args in row_none a.row.now a.link a.stop c.if-n.true

pub returns-then-not-all_fit : goal.returns-then-not-all_fit
returns-then-not-all_fit c = let a = c.args in row_unfit a.row.now a.link a.stop c.if-n.false (sym c.all_fit.ensures ∙ c.if-not-all_fit.true)

pub returns : goal.returns
returns c =
    let a = c.args in
    let fit = sym c.all_fit.ensures ∙ c.if-not-all_fit.false in
    rw (c.reply.ensures, c.is_some.ensures, c.full.ensures) (row_walked a.row.now a.link a.stop c.if-n.false fit c.link_at-leaving.ensures c.walk.ensures)
