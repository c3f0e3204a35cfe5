-- `encode::put_records` meets its contract. Assumes nothing.
use Rattle.std.proofs.Common.{arith}
use Rattle.writer.specs.Laws.Write.{write_none, write_made}
use mathlib.Core.List.{flat_map}
use Rattle.layout.specs.Places.{record_length}
use Rattle.layout.specs.Bytes.{station_bytes}
use Rattle.layout.specs.Laws.Bytes.{station_long, flat_long}
use Rattle.encode.proofs.put_records.Goals as goal

pub returns-then-out-records : goal.returns-then-out-records
returns-then-out-records c =
    let records = c.args.records.now in
    write_none (flat_map station_bytes records) c.args.out.now (omega (arith, flat_long station_bytes record_length station_long records))

pub put_all-requires : goal.put_all-requires
put_all-requires c = omega (arith, flat_long station_bytes record_length station_long c.args.records.now)

pub returns : goal.returns
returns c =
    let records = c.args.records.now in
    write_made (flat_map station_bytes records) c.args.out.now _ _ (omega (arith, flat_long station_bytes record_length station_long records)) c.put_all.ensures
