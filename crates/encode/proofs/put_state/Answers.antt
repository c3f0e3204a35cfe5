-- `encode::put_state` meets its contract. Assumes nothing.
use Rattle.std.proofs.Common.{arith}
use Rattle.writer.specs.Laws.Write.{write_none, write_made}
use Rattle.layout.specs.Bytes.{state_bytes}
use Rattle.layout.specs.Laws.Bytes.{state_long}
use Rattle.encode.proofs.put_state.Goals as goal

pub returns-then-out-lt-STATE : goal.returns-then-out-lt-STATE
returns-then-out-lt-STATE c = write_none (state_bytes c.args.state) c.args.out.now (omega (arith, state_long c.args.state))

pub returns : goal.returns
returns c = write_made (state_bytes c.args.state) c.args.out.now _ _ (omega (arith, state_long c.args.state)) c.put_parts.ensures
