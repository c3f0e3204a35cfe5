-- Laws of a list of calls that did what their contracts ensure: the state that is returned last is the one that the cycles of the list leave.
-- Assumes nothing.
use Rattle.std.specs.Prelude.{Bool, not, ◌&&◌, ◌≡◌, ℕ, suc, ◌+◌, ◌<◌, ◌≤◌, ltb}
use Rattle.std.proofs.Math.Bool.{true, false}
use mathlib.Core.List.{List, [], ◌∷◌, ◌++◌, append_assoc}
use Rattle.std.proofs.Math.Path.{refl, sym, ap}
use Rattle.std.proofs.Common.{◌∙◌, zero-add, arith, ltb-true, length-append}
use Rattle.std.proofs.Math.ListN.{length}
use Rattle.std.proofs.lemmas.Bool.{not-true}
use Rattle.std.proofs.lemmas.List.Elements.{All-nil, All-cons, All-append}
use Rattle.laws.specs.Choice.{◌if◌else◌}
use Rattle.laws.specs.Laws.Cases.{and_right}
use Rattle.laws.specs.Lists.{one_if}
use Rattle.image.specs.Image.{nodes}
use Rattle.verdict.specs.Accepted.{Accepted}
use Rattle.state.specs.declared.State.{State}
use Rattle.cycle.specs.Cycle.{state_after, after}
use Rattle.fitting.specs.Fitting.{Fitting}
use Rattle.cycle.specs.Word.{sets_above, Own}
use Rattle.cycle.specs.Laws.After.{after-append, cycles-after, fitting-after}
use Rattle.token_rule.specs.Calls.{Call, step, run, returned, Done, Chain, last_state, goes, roomy, makes, run_cycles, cycles_in, cycles_of}
use Rattle.token_rule.proofs.AnswersLaws.{step-done, run-done}

-- ---- a chain, cut in two
pub chain_first : (img : List ℕ) (before later : List Call) (s : State) → Chain img s (before ++ later) → Chain img s before
unfolding Chain
chain_first img [] later s chain = tt
chain_first img (call ∷ before) later s chain = (chain.0, chain_first img before later (returned call) chain.1)

pub chain_second : (img : List ℕ) (before later : List Call) (s : State) → Chain img s (before ++ later) → Chain img (last_state s before) later
unfolding Chain last_state
chain_second img [] later s chain = chain
chain_second img (call ∷ before) later s chain = chain_second img before later (returned call) chain.1

-- ---- the cycles of the calls
cycles-append :
    (img : List ℕ) (d : ℕ) (before later : List Call)
    → cycles_of img d (before ++ later) ≡ cycles_of img d before ++ cycles_of img (d + length (cycles_of img d before)) later
unfolding cycles_of
cycles-append img d [] later = ap (λ k. cycles_of img k later) (omega arith)
cycles-append img d (call ∷ before) later =
    let us = cycles_in img d call in
    let vs = cycles_of img (d + length us) before in
    let e : d + length us + length vs ≡ d + length (us ++ vs) = omega (arith, length-append us vs) in
    rw (cycles-append img (d + length us) before later, e) (sym (append_assoc us vs (cycles_of img (d + length (us ++ vs)) later)))

-- wherever a list is cut, the cycles of the later calls stand behind those of the calls before them
pub cycles_placed :
    (img : List ℕ) (before later : List Call)
    → cycles_of img 0 (before ++ later) ≡ cycles_of img 0 before ++ cycles_of img (length (cycles_of img 0 before)) later
cycles_placed img before later =
    cycles-append img 0 before later ∙ ap (λ d. cycles_of img 0 before ++ cycles_of img d later) (zero-add (length (cycles_of img 0 before)))

-- the cycles made never pass 1,000,000
run_few : (img words : List ℕ) (d : ℕ) → d ≤ 1000000 → d + length (run_cycles img d words) ≤ 1000000
unfolding run_cycles goes
run_few img [] d h = omega arith
run_few img (w ∷ words) d h =
    turn (ltb d 1000000) (sets_above (nodes img) w) (run_cycles img (suc d) words) (λ l. run_few img words (suc d) (ltb-true d 1000000 l))
  where
    turn : (p q : Bool) (made : List ℕ) → (p ≡ true → suc d + length made ≤ 1000000) → d + length ((w ∷ made) if p && not q else []) ≤ 1000000
    turn true false made f = omega (arith, f refl)
    turn true true made f = omega arith
    turn false q made f = omega arith

call_few : (img : List ℕ) (call : Call) (d : ℕ) → d ≤ 1000000 → d + length (cycles_in img d call) ≤ 1000000
unfolding cycles_in makes goes
call_few img (step x) d h = one (ltb d 1000000) (sets_above (nodes img) x.word) (roomy img x) (ltb-true d 1000000)
  where
    one : (p q r : Bool) → (p ≡ true → d < 1000000) → d + length (one_if ((p && not q) && r) x.word) ≤ 1000000
    one true false true l = omega (arith, l refl)
    one true false false l = omega arith
    one true true r l = omega arith
    one false q r l = omega arith
call_few img (run x) d h = run_few img x.words d h

pub cycles_few : (img : List ℕ) (calls : List Call) (d : ℕ) → d ≤ 1000000 → d + length (cycles_of img d calls) ≤ 1000000
unfolding cycles_of
cycles_few img [] d h = omega arith
cycles_few img (call ∷ calls) d h =
    let us = cycles_in img d call in
    omega (arith, cycles_few img calls (d + length us) (call_few img call d h), length-append us (cycles_of img (d + length us) calls))

-- no word of the cycles sets a bit at or above N
goes-own : (img : List ℕ) (d word : ℕ) → goes img d word ≡ true → sets_above (nodes img) word ≡ false
unfolding goes
goes-own img d word e = not-true (sets_above (nodes img) word) (and_right (ltb d 1000000) (not (sets_above (nodes img) word)) e)

module _ (img : List ℕ) where
  abbrev Good : ℕ → Type 0
  Good word = sets_above (nodes img) word ≡ false

  run_own : (words : List ℕ) (d : ℕ) → Own (nodes img) (run_cycles img d words)
  unfolding run_cycles
  run_own [] d = All-nil Good
  run_own (w ∷ words) d = turn (goes img d w) (goes-own img d w) (run_own words (suc d))
    where
      turn :
          (p : Bool) → (p ≡ true → Good w) → Own (nodes img) (run_cycles img (suc d) words)
          → Own (nodes img) ((w ∷ run_cycles img (suc d) words) if p else [])
      turn true f rest = All-cons Good w (run_cycles img (suc d) words) (f refl) rest
      turn false f rest = All-nil Good

  call_own : (d : ℕ) (call : Call) → Own (nodes img) (cycles_in img d call)
  unfolding cycles_in makes
  call_own d (step x) = one (goes img d x.word) (roomy img x) (goes-own img d x.word)
    where
      one : (p q : Bool) → (p ≡ true → Good x.word) → Own (nodes img) (one_if (p && q) x.word)
      one true true f = All-cons Good x.word [] (f refl) (All-nil Good)
      one true false f = All-nil Good
      one false q f = All-nil Good
  call_own d (run x) = run_own x.words d

  pub cycles_own : (d : ℕ) (calls : List Call) → Own (nodes img) (cycles_of img d calls)
  unfolding cycles_of
  cycles_own d [] = All-nil Good
  cycles_own d (call ∷ calls) =
      let us = cycles_in img d call in
      All-append Good us (cycles_of img (d + length us) calls) (call_own d call) (cycles_own (d + length us) calls)

-- ---- the state that a call returned is the one that its cycles leave, and so of the whole list
module _ (img : List ℕ) (a : Accepted img) where
  call-state :
      (s : State) → Fitting img s → (d : ℕ) → s.cycles ≡ d → (call : Call) → Done img s call → returned call ≡ after img s (cycles_in img d call)
  unfolding returned cycles_in after
  call-state s ok d e (step x) done = (step-done img a s ok d e x done).stated ∙ one (makes img d x)
    where
      one : (b : Bool) → (state_after img x.word s if b else s) ≡ after img s (one_if b x.word)
      one true = refl
      one false = refl
  call-state s ok d e (run x) done = (run-done img a s ok d e x done).stated

  pub chain-state :
      (calls : List Call) (s : State) → Fitting img s → (d : ℕ) → s.cycles ≡ d → Chain img s calls
      → last_state s calls ≡ after img s (cycles_of img d calls)
  unfolding Chain last_state cycles_of after
  chain-state [] s ok d e chain = refl
  chain-state (call ∷ calls) s ok d e chain =
      let us = cycles_in img d call in
      let rest = cycles_of img (d + length us) calls in
      let same = call-state s ok d e call chain.0 in
      let few = call_few img call d (omega (arith, ok.cycled)) in
      let fit : Fitting img (returned call) = rw same (fitting-after img a us s ok (omega (arith, e, few))) in
      let count : (returned call).cycles ≡ d + length us = ap (λ (t : State). t.cycles) same ∙ cycles-after img s us ∙ ap (λ k. k + length us) e in
      chain-state calls (returned call) fit (d + length us) count chain.1
      ∙ ap (λ (t : State). after img t rest) same
      ∙ sym (after-append img s us rest)
