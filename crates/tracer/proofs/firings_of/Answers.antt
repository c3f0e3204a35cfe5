-- `tracer::firings_of` meets its contract. Assumes nothing.
use Rattle.std.proofs.Common.{rules}
use Rattle.laws.specs.Laws.Array.{made_table}
use Rattle.state.specs.State.{node_at, firings_at}
use Rattle.tracer.proofs.firings_of.Goals as goal

pub returns : goal.returns
unfolding node_at
returns c = made_table (firings_at c.args.state) c.from_fn.ensures.items (λ i y q l called. search rules)
