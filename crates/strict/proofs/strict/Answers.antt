-- `strict::strict` meets its contract. Assumes nothing.
use mathlib.Core.Path.{sym, ap}
use Rattle.verdict.specs.Laws.Accepted.{accepted}
use Rattle.strict.specs.Loops.DecodedLaws.{take-values}
use Rattle.strict.specs.Laws.Answer.{written_all}
use Rattle.strict.proofs.strict.Goals as goal

pub returns-clause-values_after : goal.returns-clause-values_after
returns-clause-values_after c =
    let a = c.args in
    let img = c.in_ok-netlist.netlist.image.now in
    let same = ap (λ r. r.now) c.in_ok-netlist.ensures.same in
    rw (c.copy_from_slice.ensures.after, c.reached-found.ensures, c.from-nodes.ensures, c.nodes.ensures.value)
    (rw (take-values img (accepted img c.in_ok-netlist.netlist.accepted) a.cycle, same)
    (written_all a.image.now a.cycle a.values.now (sym c.in_ok-netlist.ensures.number)))
