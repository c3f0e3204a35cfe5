-- `decode::row_in`: the first i records are read.
use Rattle.std.proofs.Common.{◌≡◌, []}
use Rattle.laws.specs.Lists.{padded}
use Rattle.laws.specs.Table.{table}
use Rattle.relay.specs.Station.{station_of}
use Rattle.layout.specs.Bytes.{row_record}
use Rattle.decode.proofs.row_in.Given as goal

abbrev pub invariant-loop-i : goal.invariant-loop-i
invariant-loop-i l = l.records ≡ padded 9 (station_of []) (table (row_record l.bytes) l.i)
