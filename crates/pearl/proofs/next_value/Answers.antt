-- `pearl::next_value` meets its contract. Assumes nothing.
use borrow.Author.Rules.{rules}
use mir.Syntax.{w32}
use mir.Val.{SFits}
use mir.Facts.{to_z-of_z}
use Rattle.std.proofs.lemmas.Result.{err_from_is_err_and}
use Rattle.pearl.specs.Laws.Kind.{is_kind}
use Rattle.pearl.specs.Next.{next}
use Rattle.pearl.proofs.next_value.Goals as goal

pub returns-in_err-kind : goal.returns-in_err-kind
unfolding next
returns-in_err-kind c =
    let p = err_from_is_err_and c.from_residual.result c.from_residual.ensures.1 in
    rw (p.1, p.2, c.in_err-kind.ensures.0, c.in_err-kind.ensures.1)

pub returns : goal.returns
unfolding next
returns c =
    let f : SFits w32 c.next.result = search rules in
    rw (
      ← c.in_ok-kind.ensures,
      is_kind c.in_ok-kind.kind,
      to_z-of_z f,
      c.next.ensures,
      to_z-of_z c.ranges.s,
      to_z-of_z c.ranges.a,
      to_z-of_z c.ranges.b,
      to_z-of_z c.ranges.c,
    )
