-- `bench::rows::link_at` meets its contract. Assumes nothing.
use Rattle.std.proofs.Common.{◌∙◌, arith}
use Rattle.relay.specs.Link.{token}
use Rattle.relay.specs.Row.{link_at}
use Rattle.relay.specs.Laws.Link.{link_own}
use Rattle.bench.proofs.WalkLaws.{link_above}
use Rattle.bench.proofs.rows.link_at.Goals as goal

pub returns-then-j-eq0 : goal.returns-then-j-eq0
unfolding link_at
returns-then-j-eq0 c = rw c.if-j-eq0.true (link_own c.args.link)

pub returns : goal.returns
returns c = let a = c.args in c.link.ensures ∙ link_above (token a.link) a.row.now a.j (omega (arith, c.if-j-eq0.false))
