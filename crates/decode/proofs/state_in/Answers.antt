-- `decode::state_in` meets its contract. Assumes nothing.
use mathlib.Core.Path.{◌∙◌}
use lib.ListN.{length}
use Rattle.std.proofs.lemmas.Bool.{lt-leb, le-leb}
use Rattle.layout.specs.Places.{state_length}
use Rattle.layout.specs.Bytes.{places_in, state_in}
use Rattle.decode.proofs.state_in.Goals as goal

pub returns-then-bytes-lt-STATE : goal.returns-then-bytes-lt-STATE
unfolding state_in
returns-then-bytes-lt-STATE c =
    c.no_state.ensures ∙ rw (lt-leb state_length (length c.args.bytes.now) c.if-bytes-lt-STATE.true)

pub returns : goal.returns
unfolding state_in places_in
returns c =
    let e = le-leb state_length (length c.args.bytes.now) c.if-bytes-lt-STATE.false in
    rw (e, c.queues_in.ensures, c.stations_in.ensures, c.pending_in.ensures, c.nodes_in.ensures, c.four_bytes.ensures)
