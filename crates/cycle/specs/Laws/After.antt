-- Laws of a list of cycles: lists after one another, the cycle count, and what every cycle keeps. Assumes nothing.
use Rattle.std.specs.Prelude.{List, [], ◌∷◌, ◌++◌, ◌≡◌, refl, ℕ, ◌+◌, ◌≤◌, length}
use Rattle.std.proofs.Common.{arith}
use Rattle.verdict.specs.Accepted.{Accepted}
use Rattle.state.specs.declared.State.{State}
use Rattle.cycle.specs.Cycle.{state_after, after}
use Rattle.cycle.specs.Laws.Cycle.{cycles-next}
use Rattle.fitting.specs.Fitting.{Steady, Fitting}
use Rattle.cycle.specs.Laws.Kept.{steady-next, fitting-next}

pub after-append : (img : List ℕ) (s : State) (us vs : List ℕ) → after img s (us ++ vs) ≡ after img (after img s us) vs
unfolding after
after-append img s [] vs = refl
after-append img s (u ∷ us) vs = after-append img (state_after img u s) us vs

-- what a state counts after a list of cycles
pub cycles-after : (img : List ℕ) (s : State) (words : List ℕ) → (after img s words).cycles ≡ s.cycles + length words
unfolding after
cycles-after img s [] = omega arith
cycles-after img s (w ∷ words) = omega (arith, cycles-after img (state_after img w s) words, cycles-next img w s)

module _ (img : List ℕ) (a : Accepted img) where
  pub steady-after : (words : List ℕ) (s : State) → Steady img s → Steady img (after img s words)
  unfolding after
  steady-after [] s ok = ok
  steady-after (w ∷ words) s ok = steady-after words (state_after img w s) (steady-next img a w s ok)

  -- a state that fits fits after a list of cycles, up to the last cycle count
  pub fitting-after : (words : List ℕ) (s : State) → Fitting img s → s.cycles + length words ≤ 1000000 → Fitting img (after img s words)
  unfolding after
  fitting-after [] s ok h = ok
  fitting-after (w ∷ words) s ok h =
      fitting-after words (state_after img w s) (fitting-next img a w s ok (omega arith)) (omega (arith, cycles-next img w s))
