-- What a list of cycles does to firings, and that it keeps a sound state sound. Assumes nothing.
use mathlib.Core.List.{List, [], ◌∷◌}
use Rattle.std.specs.Prelude.{◌≡◌, ℕ, ◌+◌, ◌<◌}
use native.Mathlib.Omega.{arith}
use Rattle.image.specs.Image.{nodes}
use Rattle.verdict.specs.Accepted.{Accepted}
use Rattle.state.specs.declared.State.{State}
use Rattle.state.specs.State.{firings_at}
use Rattle.cycle.specs.Cycle.{state_after, after}
use Rattle.cycle.specs.Laws.Cycle.{firings_next}
use Rattle.fitting.specs.Fitting.{Steady}
use Rattle.cycle.specs.Laws.Kept.{steady-next}
use Rattle.token_rule.specs.Laws.Sound.{Sound}
use Rattle.token_rule.specs.Laws.Safety.{sound-next}
use Rattle.token_rule.specs.Cycles.{fired_in}

module _ (img : List ℕ) (a : Accepted img) where
  pub firings_after : (n : ℕ) → n < nodes img → (words : List ℕ) (s : State) → firings_at (after img s words) n ≡ firings_at s n + fired_in img s words n
  unfolding after fired_in
  firings_after n h [] s = omega arith
  firings_after n h (w ∷ words) s = omega (arith, firings_after n h words (state_after img w s), firings_next img a w s n h)

  -- a sound state is sound after a list of cycles
  pub sound-after : (words : List ℕ) (s : State) → Steady img s → Sound img s → Sound img (after img s words)
  unfolding after
  sound-after [] s steady ok = ok
  sound-after (w ∷ words) s steady ok = sound-after words (state_after img w s) (steady-next img a w s steady) (sound-next img a w s steady ok)
