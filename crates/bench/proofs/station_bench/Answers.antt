-- `bench::station_bench` meets its contract. Assumes nothing.
use Rattle.std.proofs.Common.{◌∙◌, sym}
use Rattle.bench.proofs.BenchLaws.{station_unfit, station_stepped}
use Rattle.bench.proofs.station_bench.Goals as goal

pub returns-then-not-fits : goal.returns-then-not-fits
returns-then-not-fits c = let a = c.args in station_unfit a.s.now a.link a.stop (sym c.fits.ensures ∙ c.if-not-fits.true)

pub returns : goal.returns
returns c =
    let a = c.args in
    rw (c.reply.ensures, c.link.ensures, c.is_some.ensures, c.full.ensures)
    (station_stepped a.s.now a.link a.stop (sym c.fits.ensures ∙ c.if-not-fits.false) c.after.ensures)
