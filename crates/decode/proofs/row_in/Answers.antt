-- `decode::row_in` meets its contract. Assumes nothing.
use Rattle.std.proofs.Common.{◌≡◌, [], arith}
use Rattle.laws.specs.Lists.{padded}
use Rattle.laws.specs.Table.{table}
use Rattle.laws.specs.Laws.Table.{padded_next}
use Rattle.relay.specs.Station.{station_of}
use Rattle.layout.specs.Bytes.{row_record}
use Rattle.decode.proofs.row_in.Goals as goal

pub loop-i-init : goal.loop-i-init
unfolding padded table
loop-i-init c = rw c.empty-records.ensures

pub loop-i-preserved : goal.loop-i-preserved
loop-i-preserved c =
    padded_next (row_record c.args.bytes.now) 9 (station_of []) (omega (arith, c.min-i-end.ensures)) c.loop-i.invariant c.row_record.ensures

pub returns : goal.returns
returns c =
    let last : c.loop-i.i ≡ c.min-i-end.result = omega arith in
    rw (c.loop-i.invariant, last, c.min-i-end.ensures, c.record_count.ensures)
