-- `trace::print_trace` meets its contract. Assumes nothing.
use Rattle.tracer.specs.Laws.Steps.{closing_taken}
use Rattle.trace.proofs.print_trace.Goals as goal

pub closing_line-requires : goal.closing_line-requires
closing_line-requires g c = rw (c.in_ok-state.ensures, c.requires.image_value) (closing_taken c.args.input.now c.requires.input_value)
