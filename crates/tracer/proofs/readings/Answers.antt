-- `tracer::readings` meets its contract. Assumes nothing.
use Rattle.std.proofs.Common.{rules}
use Rattle.laws.specs.Laws.Array.{made_table}
use Rattle.text.specs.Lines.{reading_in}
use Rattle.tracer.proofs.readings.Goals as goal

pub returns : goal.returns
unfolding reading_in
returns c = made_table (reading_in c.args.letters.now c.args.values.now) c.from_fn.ensures.items (λ i y q l called. search rules)
