-- `strict::System::of` meets its contract. Assumes nothing.
use native.Mathlib.Omega.{arith}
use Rattle.verdict.specs.Laws.Accepted.{accepted}
use Rattle.strict.specs.Loops.DecodedLaws.{feeders-within}
use Rattle.strict.proofs.System.of.Goals as goal

pub invariant_of-result : goal.invariant_of-result
invariant_of-result c =
    let img = c.args.netlist.image.now in
    record {
      few_nodes = omega (arith, c.from.ensures, c.nodes.ensures.few);
      names_places = rw c.feeders_of.ensures (feeders-within img (accepted img c.args.netlist.accepted));
    }
