-- `text::header_line` meets its contract. Assumes nothing.
use mathlib.Core.Path.{◌≡◌, refl}
use native.Mathlib.Omega.{arith}
use lib.ListN.{length}
use Rattle.writer.specs.Laws.Put.{put_done}
use Rattle.writer.specs.Laws.Write.{write_none, write_made}
use Rattle.text.specs.Ascii.{ascii}
use Rattle.text.specs.Trace.{header}
use Rattle.text.proofs.header_line.Goals as goal

long : length header ≡ 13
unfolding header ascii
long = refl

pub returns-then-out-lt13 : goal.returns-then-out-lt13
returns-then-out-lt13 c = write_none header c.args.out.now (omega (arith, long))

pub returns : goal.returns
returns c = write_made header c.args.out.now _ _ (omega (arith, long)) (put_done (rw c.header-line.ensures at c.put.ensures) (omega (arith, long, c.if-out-lt13.false)))
