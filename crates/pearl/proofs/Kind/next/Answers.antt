-- `pearl::Kind::next` meets its contract: each arm is the table's entry at its kind. Assumes nothing.
use mathlib.Core.Path.{◌≡◌, ◌∙◌, refl, sym, ap}
use native.Mathlib.Omega.{arith}
use borrow.Author.Rules.{rules}
use lib.IntN.{ℤ, pos, negsuc}
use lib.Signed.{shr_z, mag_shr}
use mir.Syntax.{w32}
use mir.Val.{SFits, to_z, of_z}
use mir.Facts.{to_z-of_z}
use mir.ValLaws.{sfits_le}
use Rattle.pearl.specs.declared.Kind.TheVariants.{Halve, Choose}
use Rattle.pearl.specs.Wrap.{wrap}
use Rattle.kinds.specs.Kinds.{halve, larger, choose, exact}
use Rattle.kinds.specs.Laws.Kinds.{larger-int_max}
use Rattle.pearl.specs.Next.{next_value}
use Rattle.pearl.specs.Laws.Wrap.{wrap-fits, wrapping_sum, wrapping_difference, wrapping_negation}
use Rattle.pearl.proofs.Kind.next.Goals as goal

pub returns-in-Count : goal.returns-in-Count
unfolding next_value exact
returns-in-Count c = rw c.in-Count.is (wrapping_sum c.args.s (pos 1) c.ranges.s (record { sfits = omega arith }))

pub returns-in-Hold : goal.returns-in-Hold
unfolding next_value exact
returns-in-Hold c = rw (c.in-Hold.is, to_z-of_z c.ranges.a) (sym (wrap-fits c.args.a c.ranges.a))

pub returns-in-Total : goal.returns-in-Total
unfolding next_value exact
returns-in-Total c = rw c.in-Total.is (wrapping_sum c.args.s c.args.a c.ranges.s c.ranges.a)

pub returns-in-Negate : goal.returns-in-Negate
unfolding next_value exact
returns-in-Negate c =
    let f : SFits w32 c.wrapping_neg.result = search rules in
    rw (c.in-Negate.is, to_z-of_z f) ((simp (to_z-of_z, c.ranges.a) at c.wrapping_neg.ensures) ∙ wrapping_negation c.args.a c.ranges.a)

-- a shift by one place is a half that is rounded down
shr_z-halve : (a : ℤ) → shr_z a 2 ≡ halve a
unfolding halve
shr_z-halve (pos n) = refl
shr_z-halve (negsuc n) = refl

pub returns-in-Halve : goal.returns-in-Halve
unfolding next_value exact
returns-in-Halve c =
    let f : SFits w32 (shr_z c.args.a 2) = sfits_le (mag_shr c.args.a 2) c.ranges.a in
    let kind : c.args.self ≡ Halve = c.in-Halve.is in
    ap (λ (x : ℤ). to_z w32 (of_z w32 (shr_z x 2))) (to_z-of_z c.ranges.a)
    ∙ to_z-of_z f
    ∙ rw kind (sym (wrap-fits (shr_z c.args.a 2) f) ∙ ap wrap (shr_z-halve c.args.a))

pub returns-in-Sum : goal.returns-in-Sum
unfolding next_value exact
returns-in-Sum c = rw c.in-Sum.is (wrapping_sum c.args.a c.args.b c.ranges.a c.ranges.b)

pub returns-in-Difference : goal.returns-in-Difference
unfolding next_value exact
returns-in-Difference c = rw c.in-Difference.is (wrapping_difference c.args.a c.args.b c.ranges.a c.ranges.b)

pub returns-in-Larger : goal.returns-in-Larger
unfolding next_value exact
returns-in-Larger c =
    let f : SFits w32 c.max.result = search rules in
    let e : c.max.result ≡ larger c.args.a c.args.b =
    (simp (to_z-of_z, c.ranges.a, c.ranges.b) at c.max.ensures.value) ∙ larger-int_max c.args.a c.args.b in
    rw (c.in-Larger.is, to_z-of_z f) (sym (wrap-fits c.max.result f) ∙ ap wrap e)

pub returns-then-a-lt0 : goal.returns-then-a-lt0
unfolding next_value exact choose
returns-then-a-lt0 c =
    let kind : c.args.self ≡ Choose = c.in-Choose.is in
    let test = rw (to_z-of_z c.ranges.a) at c.if-a-lt0.true in
    rw (to_z-of_z c.ranges.b, kind, test) (sym (wrap-fits c.args.b c.ranges.b))

pub returns-else-a-lt0 : goal.returns-else-a-lt0
unfolding next_value exact choose
returns-else-a-lt0 c =
    let kind : c.args.self ≡ Choose = c.in-Choose.is in
    let test = rw (to_z-of_z c.ranges.a) at c.if-a-lt0.false in
    rw (to_z-of_z c.ranges.c, kind, test) (sym (wrap-fits c.args.c c.ranges.c))
