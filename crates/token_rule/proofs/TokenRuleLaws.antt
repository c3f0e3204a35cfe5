-- The token rule, the theorem. Assumes nothing.
use Rattle.std.specs.Prelude.{List, [], ◌∷◌, ◌++◌, ◌≡◌, refl, ℕ, ◌+◌, ◌<◌, ◌≤◌}
use Rattle.std.proofs.Common.{append-nil, sym, ap, subst, ◌∙◌, zero-add, arith}
use Rattle.std.proofs.Math.ListN.{length}
use Rattle.image.specs.Image.{nodes}
use Rattle.verdict.specs.Accepted.{Accepted}
use Rattle.verdict.specs.Laws.Accepted.{accepted}
use Rattle.verdict.specs.Judge.{judge}
use Rattle.strict.specs.Strict.{strict}
use Rattle.state.specs.Told.{Told}
use Rattle.state.specs.declared.State.{State}
use Rattle.state.specs.State.{firings_at}
use Rattle.state.specs.Fresh.{fresh_state, fresh_answer, FreshDone}
use Rattle.fitting.specs.Fitting.{Fitting}
use Rattle.state.specs.Laws.Fresh.{fresh-cycles, fresh_firings}
use Rattle.fitting.specs.Laws.Fitting.{fitting-fresh}
use Rattle.cycle.specs.Cycle.{after}
use Rattle.token_rule.specs.Cycles.{fired_in}
use Rattle.cycle.specs.Laws.After.{cycles-after, steady-after, fitting-after}
use Rattle.token_rule.proofs.CyclesLaws.{firings_after, sound-after}
use Rattle.token_rule.specs.Laws.Sound.{Sound}
use Rattle.token_rule.specs.Laws.Safety.{sound-fresh}
use Rattle.token_rule.proofs.ArrivalsLaws.{arrivals-fresh}
use Rattle.token_rule.specs.Progress.{Furthest}
use Rattle.token_rule.proofs.ProgressLaws.{progress}
use Rattle.token_rule.specs.Given.{Given, a_step, a_run, answered, answers}
use Rattle.token_rule.specs.Calls.{Call, returned, Done, Chain, last_state, cycles_of}
use Rattle.token_rule.proofs.AnswersLaws.{call-rule}
use Rattle.token_rule.proofs.CallsLaws.{chain_first, chain_second, cycles_placed, cycles_few, chain-state}
use Rattle.token_rule.specs.TokenRule.{TokenRule}

-- ---- the fresh state
module _ (img : List ℕ) (a : Accepted img) where
  fired-after : (words : List ℕ) (n : ℕ) → n < nodes img → firings_at (after img (fresh_state img) words) n ≡ fired_in img (fresh_state img) words n
  fired-after words n h = omega (arith, firings_after img a n h words (fresh_state img), fresh_firings img n h)

  fits_after : (words : List ℕ) → length words ≤ 1000000 → Fitting img (after img (fresh_state img) words)
  fits_after words h = fitting-after img a words (fresh_state img) (fitting-fresh img a) (omega (arith, fresh-cycles img, h))

-- ---- a list of calls from it
module _ (img : List ℕ) (a : Accepted img) (calls : List Call) (chain : Chain img (fresh_state img) calls) where
  -- wherever the list is cut, the state returned last is the one that the cycles so far have left; it fits, and has counted them
  module _ (before later : List Call) (e : calls ≡ before ++ later) where
    state_there : last_state (fresh_state img) before ≡ after img (fresh_state img) (cycles_of img 0 before)
    state_there =
        chain-state img a before (fresh_state img) (fitting-fresh img a) 0 (fresh-cycles img)
        (chain_first img before later (fresh_state img) (rw e at chain))

    fits_there : Fitting img (last_state (fresh_state img) before)
    fits_there = rw state_there (fits_after img a (cycles_of img 0 before) (omega (arith, cycles_few img before 0 (omega arith))))

    count_there : (last_state (fresh_state img) before).cycles ≡ length (cycles_of img 0 before)
    count_there =
        let us = cycles_of img 0 before in
        ap (λ (s : State). s.cycles) state_there
        ∙ cycles-after img (fresh_state img) us
        ∙ ap (λ k. k + length us) (fresh-cycles img)
        ∙ zero-add (length us)

  -- a call of the list did what its contract ensures
  done_there : (before later : List Call) (call : Call) → calls ≡ before ++ (call ∷ later) → Done img (last_state (fresh_state img) before) call
  unfolding Chain
  done_there before later call e = (chain_second img before (call ∷ later) (fresh_state img) (rw e at chain)).0

  -- the last state: its nodes' firings and values
  whole : calls ≡ calls ++ []
  whole = sym (append-nil calls)

  firings_last : (n : ℕ) → n < nodes img → firings_at (last_state (fresh_state img) calls) n ≡ fired_in img (fresh_state img) (cycles_of img 0 calls) n
  firings_last n h = ap (λ (s : State). firings_at s n) (state_there calls [] whole) ∙ fired-after img a (cycles_of img 0 calls) n h

  sound_last : Sound img (last_state (fresh_state img) calls)
  sound_last =
      rw (state_there calls [] whole)
      (sound-after img a (cycles_of img 0 calls) (fresh_state img) (fitting-fresh img a).steady (sound-fresh img a))

  rule : TokenRule img (fresh_state img) calls (cycles_of img 0 calls)
  rule =
      record {
        placed = λ before later e. ap (cycles_of img 0) e ∙ cycles_placed img before later;
        worked = state_there;
        called = λ before later call e.
            call-rule img a (last_state (fresh_state img) before) (fits_there before (call ∷ later) e) (length (cycles_of img 0 before))
            (count_there before (call ∷ later) e) call (done_there before later call e);
        arrived = λ c h. arrivals-fresh img a c h (cycles_of img 0 calls);
        shown = λ n h. sound_last.valued n h ∙ ap (strict img n) (firings_last n h);
        firings = firings_last;
        count = count_there calls [] whole;
        progress = λ us span vs e long n h least awake.
            let s = after img (fresh_state img) us in
            let behind : Furthest img s n = λ i k. rw (fired-after img a us n h, fired-after img a us i k) (least i k) in
            progress img a s (steady-after img a us (fresh_state img) (fitting-fresh img a).steady) n h behind span long awake;
      }

fresh-state : (img : List ℕ) (fresh : Told) → judge img ≡ 0 → FreshDone img fresh → fresh.state ≡ fresh_state img
unfolding fresh_answer
fresh-state img fresh e done = ap (λ (f : Told). f.state) done.answered ∙ rw e

-- the token rule holds of every list of calls that did what their contracts ensure, each handed the state that the call before it returned, and the
-- first the fresh state of an accepted image
pub token_rule :
    (img : List ℕ) (fresh : Told) (calls : List Call) → judge img ≡ 0 → FreshDone img fresh → Chain img fresh.state calls
    → TokenRule img fresh.state calls (cycles_of img 0 calls)
token_rule img fresh calls e done chain =
    let same = fresh-state img fresh e done in
    subst (λ (s : State). TokenRule img s calls (cycles_of img 0 calls)) (sym same)
    (rule img (accepted img e) calls (subst (λ (s : State). Chain img s calls) same chain))

-- the state that the list returned last is the one that its cycles have left
pub last_reached :
    (img : List ℕ) (fresh : Told) (calls : List Call) → judge img ≡ 0 → FreshDone img fresh → Chain img fresh.state calls
    → last_state fresh.state calls ≡ after img (fresh_state img) (cycles_of img 0 calls)
last_reached img fresh calls e done chain =
    (token_rule img fresh calls e done chain).worked calls [] (sym (append-nil calls))
    ∙ ap (λ (s : State). after img s (cycles_of img 0 calls)) (fresh-state img fresh e done)

-- ---- the rule speaks of something: whatever the calls of a list are given, they can be answered so that the list is a chain
call-answered : (img : List ℕ) (s : State) (given : Given) → Done img s (answered img s given)
unfolding Done answered
call-answered img s (a_step word letters values) = record { answered = refl; lettered = refl; valued = refl }
call-answered img s (a_run words) = record { answered = refl }

some-chain : (img : List ℕ) (s : State) (given : List Given) → Chain img s (answers img s given)
unfolding Chain answers
some-chain img s [] = tt
some-chain img s (given ∷ more) = (call-answered img s given, some-chain img (returned (answered img s given)) more)

-- the token rule holds for all accepted images and all lists of inputs
pub token_rule_given :
    (img : List ℕ) (given : List Given) → judge img ≡ 0
    → let calls = answers img (fresh_state img) given in TokenRule img (fresh_state img) calls (cycles_of img 0 calls)
token_rule_given img given e = rule img (accepted img e) (answers img (fresh_state img) given) (some-chain img (fresh_state img) given)
