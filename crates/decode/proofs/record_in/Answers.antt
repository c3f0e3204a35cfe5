-- `decode::record_in` meets its contract. Assumes nothing.
use mathlib.Core.Path.{◌∙◌}
use borrow.Author.Tests.{eq-eqb, ne_eqb}
use lib.ListN.{length}
use Rattle.layout.specs.Places.{record_length}
use Rattle.layout.specs.Bytes.{record_in}
use Rattle.decode.proofs.record_in.Goals as goal

pub returns-then-bytes-ne-RECORD : goal.returns-then-bytes-ne-RECORD
unfolding record_in
returns-then-bytes-ne-RECORD c = c.no_record.ensures ∙ rw (ne_eqb (length c.args.bytes.now) record_length c.if-bytes-ne-RECORD.true)

pub returns : goal.returns
unfolding record_in
returns c = c.station_in.ensures ∙ rw (eq-eqb (length c.args.bytes.now) record_length c.if-bytes-ne-RECORD.false)
