-- `decode::row_record` meets its contract. Assumes nothing.
use mathlib.Core.Path.{◌∙◌}
use Prim.Native.Nat.{◌+◌, ◌*◌}
use borrow.Author.Tests.{le-leb, lt-leb}
use lib.ListN.{length}
use Rattle.layout.specs.Places.{record_length}
use Rattle.layout.specs.Bytes.{row_record}
use Rattle.decode.proofs.row_record.Goals as goal

pub returns-then-bytes-i : goal.returns-then-bytes-i
unfolding row_record
returns-then-bytes-i c =
    let a = c.args in
    c.no_record.ensures ∙ rw (lt-leb (record_length * a.i + record_length) (length a.bytes.now) c.if-bytes-i.true)

pub returns : goal.returns
unfolding row_record
returns c =
    let a = c.args in
    c.station_in.ensures ∙ rw (le-leb (record_length * a.i + record_length) (length a.bytes.now) c.if-bytes-i.false)
