-- `trace::closing_line` meets its contract. Assumes nothing.
use Rattle.std.proofs.Common.{refl}
use Rattle.text.specs.Lines.{closing_text}
use Rattle.writer.specs.Write.{Begins}
use Rattle.writer.specs.Laws.Write.{written_begins}
use Rattle.tracer.specs.Trace.{firings_of}
use Rattle.trace.proofs.closing_line.Goals.{After-written-length}
use Rattle.tracer.specs.Laws.Done.{closing_made}
use Rattle.trace.proofs.closing_line.Goals as goal

begins : (c : After-written-length) → Begins c.closing_line.new.out c.written-length.result (closing_text (firings_of c.args.image.now c.args.state))
begins c = written_begins (closing_made (rw c.written-length.ensures at c.closing_line.ensures.closing_done) refl)

pub invariant_of-result : goal.invariant_of-result
invariant_of-result c = record { prefix = (begins (goal.at.invariant_of-result c).After-written-length).counts }

pub returns : goal.returns
returns c = begins (goal.at.returns c).After-written-length
