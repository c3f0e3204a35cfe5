-- The token rule over calls for C: the fresh state that a call left, and any list of steps and runs on its bytes. Assumes nothing.
use Rattle.std.specs.Prelude.{true, false, List, [], ◌∷◌, ◌++◌, ◌≡◌, refl, ℕ, ℤ, eqb, length, map, drop}
use Rattle.std.proofs.Common.{⊎_elim, sym, ap, ap₂, subst, ◌∙◌, arith, eqb-true}
use Rattle.laws.specs.Laws.Cases.{true_or_false}
use Rattle.verdict.specs.Accepted.{Accepted}
use Rattle.verdict.specs.Laws.Accepted.{accepted}
use Rattle.state.specs.declared.State.{State}
use Rattle.state.specs.Told.{tells}
use Rattle.state.specs.Fresh.{fresh_state}
use Rattle.state.specs.Laws.Fresh.{fresh-made}
use Rattle.fitting.specs.Fitting.{Fitting}
use Rattle.fitting.specs.Laws.Fitting.{fitting-fresh}
use Rattle.fitting.specs.Laws.Number.{state_fitting}
use Rattle.cycle.specs.Cycle.{state_after}
use Rattle.cycle.specs.Run.{run_answer}
use Rattle.cycle.specs.Laws.Kept.{fitting-next}
use Rattle.cycle.specs.Laws.Run.{run-made, ran_kept}
use Rattle.cycle.specs.Laws.Ranged.{Ranged, ranged-fresh, ranged-next}
use Rattle.engine.specs.Answer.{StepTold, stepped, step_number, number_of_step, step_answer}
use Rattle.engine.specs.Laws.Answer.{number_ok}
use Rattle.layout.specs.Places.{state_length}
use Rattle.layout.specs.Bytes.{state_bytes, state_in}
use Rattle.layout.proofs.Back.{state_back}
use Rattle.capi.specs.Calls.{FreshCall}
use Rattle.token_rule.specs.Calls.{returned, Done, Chain, cycles_of}
use Rattle.token_rule.specs.TokenRule.{TokenRule}
use Rattle.token_rule.proofs.TokenRuleLaws.{token_rule}
use Rattle.token_rule_c.specs.Calls.{CallBytes, step_bytes, run_bytes, left_by, DoneBytes, ChainBytes, on_state}
use Rattle.token_rule_c.specs.Laws.Typed.{typed-fitting}
use Rattle.token_rule_c.proofs.Back.{step-back, run-back, fresh-back}

-- the state that a call on bytes returned
module _ (img : List ℕ) (a : Accepted img) (rest : List ℕ) where
  -- what the calls keep: the state fits, and its values are numbers of 32 bits
  abbrev Kept : State → Type 0
  Kept s = Fitting img s × Ranged img s

  kept-next : (word : ℕ) (s : State) → Kept s → (s.cycles ≡ 1000000 → ⊥) → Kept (state_after img word s)
  kept-next word s k n = (fitting-next img a word s k.0 (omega (arith, k.0.cycled, n)), ranged-next img a word s k.1)

  step_kept : (s : State) → Kept s → (word : ℕ) (letters : List ℕ) (values : List ℤ) → Kept (step_answer img s word letters values).state
  unfolding step_answer number_of_step
  step_kept s k word letters values =
      let number = step_number img s word (length letters) (length values) in
      ⊎_elim
      (λ (q : eqb number 0 ≡ true).
      rw q (kept-next word s k (number_ok img s word (length letters) (length values) (eqb-true number 0 q)).1))
      (λ (q : eqb number 0 ≡ false). rw q k)
      (true_or_false (eqb number 0))

  run_kept : (s : State) → Kept s → (words : List ℕ) → Kept (run_answer img s words).state
  run_kept s k words =
      rw (← run-made img s words (state_fitting img s a k.0)) (ran_kept img Kept kept-next words s k)

  -- bytes that begin with those of such a state are that state
  kept_back : (s : State) → Kept s → {bytes : List ℕ} → bytes ≡ state_bytes s ++ rest → state_in bytes ≡ s
  kept_back s k e = ap state_in e ∙ state_back s (typed-fitting img a s k.0 k.1) rest

  call_done :
      (s : State) → Kept s → (call : CallBytes) → DoneBytes img (state_bytes s ++ rest) call
      → Done img s (on_state call) × (left_by call ≡ state_bytes (returned (on_state call)) ++ rest) × Kept (returned (on_state call))
  unfolding DoneBytes Done on_state left_by returned
  call_done s k (step_bytes x) d =
      let answer = step_answer img s x.word x.letters x.values in
      let b = step-back s (typed-fitting img a s k.0 k.1) rest d in
      let kept = step_kept s k x.word x.letters x.values in
      let e : state_in x.left ≡ answer.state = kept_back answer.state kept b.1 in (
        record {
          answered = ap₂ {C = StepTold} stepped b.0 e;
          lettered = b.2.lettered;
          valued = b.2.valued;
        },
        b.1 ∙ ap (λ (t : State). state_bytes t ++ rest) (sym e),
        rw e kept,
      )
  call_done s k (run_bytes x) d =
      let answer = run_answer img s x.words in
      let b = run-back s (typed-fitting img a s k.0 k.1) rest d in
      let kept = run_kept s k x.words in
      let e : state_in x.left ≡ answer.state = kept_back answer.state kept b.2 in (
        record { answered = λ i. record { steps = b.1 i; number = b.0 i; state = e i } },
        b.2 ∙ ap (λ (t : State). state_bytes t ++ rest) (sym e),
        rw e kept,
      )

  chain_done :
      (calls : List CallBytes) (s : State) → Kept s → ChainBytes img (state_bytes s ++ rest) calls → Chain img s (map on_state calls)
  unfolding Chain ChainBytes
  chain_done [] s k chain = tt
  chain_done (call ∷ calls) s k chain =
      let d = call_done s k call chain.0 in
      (d.0, chain_done calls (returned (on_state call)) d.2 (rw (d.1) at chain.1))

-- the token rule holds of every list of steps and runs for C that did what their contracts ensure, on the bytes that a call for the fresh state of an
-- image left, each on the bytes that the call before it left
pub token_rule_c :
    (img old : List ℕ) (number : ℕ) (left : List ℕ) (calls : List CallBytes) → FreshCall img old number left → number ≡ 0 → ChainBytes img left calls
    → TokenRule img (state_in left) (map on_state calls) (cycles_of img 0 (map on_state calls))
token_rule_c img old number left calls fresh z chain =
    let b = fresh-back fresh z in
    let a = accepted img b.0 in
    let s = fresh_state img in
    let rest = drop state_length old in
    let kept : Kept img a rest s = (fitting-fresh img a, ranged-fresh img a) in
    let same : state_in left ≡ s = kept_back img a rest s kept (b.1) in
    subst (λ (t : State). TokenRule img t (map on_state calls) (cycles_of img 0 (map on_state calls))) (sym same)
    (token_rule img (tells 0 s) (map on_state calls) b.0
    (record { answered = fresh-made img s b.0 refl })
    (chain_done img a rest calls s kept (rw (b.1) at chain)))
