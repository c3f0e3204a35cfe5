-- The number of an image and a state, by what the judge and number 21 say of them. Assumes nothing.
use Rattle.std.specs.Prelude.{true, false, not, List, ◌≡◌, ℕ}
use borrow.Author.Tests.{ne_eqb, not-false}
use Rattle.laws.specs.Laws.Choice.{past, past_number}
use Rattle.verdict.specs.Accepted.{Accepted}
use Rattle.verdict.specs.Judge.{judge}
use Rattle.verdict.specs.Laws.Accepted.{accepts}
use Rattle.state.specs.declared.State.{State}
use Rattle.fitting.specs.Fits.{fits, state_number}
use Rattle.fitting.specs.Fitting.{Fitting}
use Rattle.fitting.specs.Laws.Fits.{fits-fitting}

module _ (img : List ℕ) (s : State) where
  pub state-judge : (number : ℕ) → number ≡ judge img → (number ≡ 0 → ⊥) → number ≡ state_number img s
  unfolding state_number
  state-judge number e n = rw (← e, ne_eqb number 0 n)

  pub state_21 : judge img ≡ 0 → fits img s ≡ false → 21 ≡ state_number img s
  unfolding state_number
  state_21 j e = rw (j, e)

  pub state_0 : judge img ≡ 0 → fits img s ≡ true → 0 ≡ state_number img s
  unfolding state_number
  state_0 j e = rw (j, e)

  -- a number 0 says that the image is accepted and that the state fits
  pub state_ok : state_number img s ≡ 0 → (judge img ≡ 0) × (fits img s ≡ true)
  unfolding state_number
  state_ok e =
      let j = past_number (judge img) _ e in
      (j.0, not-false (fits img s) (past 20 0 (not (fits img s)) j.1).0)

  -- the number of an accepted image and a state that fits is 0
  pub state_fitting : Accepted img → Fitting img s → 0 ≡ state_number img s
  state_fitting a f = state_0 (accepts img a) (fits-fitting img a s f)
