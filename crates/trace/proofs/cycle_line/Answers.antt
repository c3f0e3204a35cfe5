-- `trace::cycle_line` meets its contract. Assumes nothing.
use Rattle.std.proofs.Common.{refl}
use Rattle.writer.specs.Laws.Write.{written_begins}
use Rattle.tracer.specs.Laws.Done.{line_made}
use Rattle.trace.proofs.cycle_line.Goals as goal

pub invariant_of-result : goal.invariant_of-result
invariant_of-result c = record { prefix = (written_begins (line_made c.in-Ok.ensures.line_done refl).0).counts }

pub returns-in-Ok-clause-begins : goal.returns-in-Ok-clause-begins
returns-in-Ok-clause-begins c = written_begins (line_made c.in-Ok.ensures.line_done refl).0

pub returns-in-Ok-clause-state_value : goal.returns-in-Ok-clause-state_value
returns-in-Ok-clause-state_value c = (line_made c.in-Ok.ensures.line_done refl).1
