-- `tracer::closing_line` meets its contract. Assumes nothing.
use Rattle.std.proofs.Common.{◌≡◌, Err, ap, arith, rules}
use Rattle.refusal.specs.Laws.Number.{number_positive}
use Rattle.tracer.specs.Laws.Done.{closing_refused, closing_written}
use Rattle.tracer.proofs.closing_line.Goals as goal

pub returns-in_err-netlist-clause-closing_done : goal.returns-in_err-netlist-clause-closing_done
returns-in_err-netlist-clause-closing_done c =
    let a = c.args in
    let r = c.in_err-netlist.field-0.0 in
    let e : c.from_residual.result ≡ Err r = search rules in
    let p = number_positive r in
    rw e (closing_refused a.image.now a.state a.out.now c.in_err-netlist.ensures.number (λ z. absurd (omega (arith, z, p))))

pub returns-clause-closing_done : goal.returns-clause-closing_done
returns-clause-closing_done c =
    let a = c.args in
    let same = ap (λ i. i.now) c.in_ok-netlist.ensures.same in
    let d = rw (c.nodes-nodes.ensures.value, same, c.firings_of-firings.ensures) at c.closing_line.ensures.write_done in
    closing_written a.image.now a.state a.out.now c.in_ok-netlist.ensures.number d
