-- `trace::refusal_line` meets its contract. Assumes nothing.
use Rattle.refusal.specs.Number.{number}
use Rattle.text.specs.Lines.{refused_text}
use Rattle.writer.specs.Write.{Begins}
use Rattle.writer.specs.Laws.Write.{written_begins}
use Rattle.trace.proofs.refusal_line.Goals.{After-written-length}
use Rattle.trace.proofs.refusal_line.Goals as goal

begins : (c : After-written-length) → Begins c.refused_line.new.out c.written-length.result (refused_text (number c.args.refusal))
begins c =
    let d = rw c.number.ensures at c.refused_line.ensures.write_done in
    written_begins (rw c.written-length.ensures at d)

pub invariant_of-result : goal.invariant_of-result
invariant_of-result c = record { prefix = (begins (goal.at.invariant_of-result c).After-written-length).counts }

pub returns : goal.returns
returns c = begins (goal.at.returns c).After-written-length
