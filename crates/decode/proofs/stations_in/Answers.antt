-- `decode::stations_in` meets its contract. Assumes nothing.
use Prim.Native.Nat.{◌+◌, ◌*◌}
use Rattle.layout.specs.Places.{record_length, stations_place}
use Rattle.layout.specs.Bytes.{station_in}
use Rattle.std.proofs.Common.{rules}
use Rattle.laws.specs.Laws.Array.{made_table}
use Rattle.decode.proofs.stations_in.Goals as goal

pub returns : goal.returns
returns c = made_table (λ k. station_in c.args.bytes.now (stations_place + record_length * k)) c.from_fn.ensures.items (λ i y q l called. search rules)
