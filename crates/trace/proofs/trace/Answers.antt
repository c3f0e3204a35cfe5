-- `trace::trace` meets its contract. Assumes nothing.
use mathlib.Core.Path.{sym}
use Rattle.trace_input.specs.Laws.Head.{head_whole}
use Rattle.trace.proofs.trace.Goals as goal

pub print_trace-requires-clause-input_value : goal.print_trace-requires-clause-input_value
print_trace-requires-clause-input_value g c =
    let a = c.args in
    let n = sym c.in-Ok.ensures in
    rw (head_whole a.input.now a.size c.requires n) at n
