-- What each way out of a run answers, and which cycles a run makes. Assumes nothing.
use Rattle.std.specs.Prelude.{Bool, List, [], ◌∷◌, eqb, length, drop, get_or}
use Rattle.std.proofs.Math.Bool.{true, false, true≢false}
use Rattle.std.proofs.Math.Path.{◌≡◌, refl, sym}
use Rattle.std.proofs.Common.{ap, ◌∙◌, add-zero, zero-add, drop_of_length-le, drop-cons}
use Prim.Native.Nat.{ℕ, suc, ◌+◌, ◌<◌, ◌≤◌}
use Rattle.std.proofs.Math.Decide.{ℕ_discrete}
use Rattle.std.proofs.lemmas.List.Elements.{All-head, All-tail}
use Rattle.std.proofs.Math.Seq.{take-length}
use Rattle.std.proofs.Math.Numerals.{add-one}
use native.Mathlib.Omega.{arith}
use borrow.Author.Tests.{eq-eqb, ne_eqb}
use Rattle.laws.specs.Choice.{◌if◌else◌}
use Rattle.image.specs.Image.{nodes}
use Rattle.state.specs.declared.State.{State}
use Rattle.state.specs.State.{state_of}
use Rattle.cycle.specs.Cycle.{state_after, after}
use Rattle.cycle.specs.Laws.Cycle.{cycles-next}
use Rattle.fitting.specs.Fits.{state_number}
use Rattle.cycle.specs.Run.{RunTold, no_step, step_more, ran_from, run_answer}
use Rattle.cycle.specs.Word.{sets_above, Own}
use Rattle.cycle.specs.Loops.Taken.{TakenTold, taken, take_more, taken_from, taken_after, ran_by}

-- ---- the run: the loop over its words, from the first on
pub taken_first : (n d : ℕ) (words : List ℕ) → taken_from n d words ≡ taken_after n d words 0
unfolding taken_after
taken_first n d words = rw (add-zero, zero-add)

-- a run all of whose words were found good takes them all
pub taken_all : (n d : ℕ) (words : List ℕ) (i : ℕ) → length words ≤ i → taken_after n d words i ≡ taken i 0
unfolding taken_after taken_from
taken_all n d words i h = rw (drop_of_length-le words h, add-zero)

module _ (n d : ℕ) (words : List ℕ) (i : ℕ) (h : i < length words) where
  -- which words a run takes, by the word at place i
  next_word :
      taken_after n d words i ≡
      (let t = taken 0 22 if eqb (d + i) 1000000 else
      taken 0 12 if sets_above n (get_or words i 0) else
      take_more (taken_from n (suc (d + i)) (drop (suc i) words)) in
      record t { steps = i + t.steps })
  unfolding taken_after taken_from
  next_word = rw (drop-cons words i 0 h)

  pub taken_22 : d + i ≡ 1000000 → taken_after n d words i ≡ taken i 22
  taken_22 e = next_word ∙ rw (eq-eqb (d + i) 1000000 e, add-zero)

  pub taken_12 : (d + i ≡ 1000000 → ⊥) → sets_above n (get_or words i 0) ≡ true → taken_after n d words i ≡ taken i 12
  taken_12 e w = next_word ∙ rw (ne_eqb (d + i) 1000000 e, w, add-zero)

  pub taken_next : (d + i ≡ 1000000 → ⊥) → sets_above n (get_or words i 0) ≡ false → taken_after n d words i ≡ taken_after n d words (i + 1)
  unfolding taken_after take_more
  taken_next e w =
      let t = taken_from n (suc (d + i)) (drop (suc i) words) in
      let k : d + suc i ≡ suc (d + i) = omega arith in
      let s : i + suc t.steps ≡ suc i + t.steps = omega arith in
      next_word ∙ rw (ne_eqb (d + i) 1000000 e, w, add-one i, k, s)

-- a run takes no more words than there are, nor than cycles are left
pub taken_few :
    (n d : ℕ) (words : List ℕ) → d ≤ 1000000 → let t = taken_from n d words in (t.steps ≤ length words) × (d + t.steps ≤ 1000000)
unfolding taken_from take_more
taken_few n d [] h = (omega arith, omega arith)
taken_few n d (word ∷ words) h = go (eqb d 1000000) (sets_above n word) refl (λ l. taken_few n (suc d) words l)
  where
    t : TakenTold
    t = taken_from n (suc d) words

    go :
        (a b : Bool) → eqb d 1000000 ≡ a → (suc d ≤ 1000000 → (t.steps ≤ length words) × (suc d + t.steps ≤ 1000000))
        → let u = taken 0 22 if a else taken 0 12 if b else take_more t in
        (u.steps ≤ suc (length words)) × (d + u.steps ≤ 1000000)
    go true b e r = (omega arith, omega arith)
    go false true e r = (omega arith, omega arith)
    go false false e r =
        let n : d ≡ 1000000 → ⊥ = λ q. true≢false (sym (eq-eqb d 1000000 q) ∙ e) in
        let k : suc d ≤ 1000000 = omega (arith, n) in
        (omega (arith, r k), omega (arith, r k))

-- a run takes all of its words where none sets a bit at or above n, and as many cycles are left
taken_own : (n d : ℕ) (words : List ℕ) → Own n words → d + length words ≤ 1000000 → taken_from n d words ≡ taken (length words) 0
unfolding taken_from take_more
taken_own n d [] own few = refl
taken_own n d (word ∷ words) own few =
    let good : ℕ → Type 0 = λ w. sets_above n w ≡ false in
    rw (ne_eqb d 1000000 (λ q. omega (arith, q)), All-head good word words own)
    (ap take_more (taken_own n (suc d) words (All-tail good word words own) (omega arith)))

-- a run is told by the words that it takes and the state after their cycles
pub ran_taken :
    (img : List ℕ) (words : List ℕ) (s : State)
    → ran_by img s words (taken_from (nodes img) s.cycles words) ≡ ran_from img s words
unfolding taken_from ran_from after take_more step_more state_after state_of
ran_taken img [] s = refl
ran_taken img (word ∷ words) s = go (eqb s.cycles 1000000) (sets_above (nodes img) word) (ran_taken img words (state_after img word s))
  where
    t : TakenTold
    t = taken_from (nodes img) (suc s.cycles) words

    go :
        (a b : Bool) → ran_by img (state_after img word s) words t ≡ ran_from img (state_after img word s) words
        → ran_by img s (word ∷ words) (taken 0 22 if a else taken 0 12 if b else take_more t) ≡
        (no_step 22 s if a else no_step 12 s if b else step_more (ran_from img (state_after img word s) words))
    go true b e = refl
    go false true e = refl
    go false false e = ap step_more e

-- what each cycle up to the last cycle count keeps of a state, a run keeps
pub ran_kept :
    (img : List ℕ) (P : State → Type 0) → ((word : ℕ) (s : State) → P s → (s.cycles ≡ 1000000 → ⊥) → P (state_after img word s))
    → (words : List ℕ) (s : State) → P s → P (ran_from img s words).state
unfolding ran_from step_more
ran_kept img P next [] s p = p
ran_kept img P next (word ∷ words) s p =
    go (eqb s.cycles 1000000) (sets_above (nodes img) word) refl (λ n. ran_kept img P next words (state_after img word s) (next word s p n))
  where
    go :
        (a b : Bool) → eqb s.cycles 1000000 ≡ a → ((s.cycles ≡ 1000000 → ⊥) → P (ran_from img (state_after img word s) words).state)
        → P (no_step 22 s if a else no_step 12 s if b else step_more (ran_from img (state_after img word s) words)).state
    go true b e r = p
    go false true e r = p
    go false false e r = r (λ q. true≢false (sym (eq-eqb s.cycles 1000000 q) ∙ e))

-- "steps equal the rise of the cycle count"
pub ran_rise : (img words : List ℕ) (s : State) → (ran_from img s words).state.cycles ≡ s.cycles + (ran_from img s words).steps
unfolding ran_from step_more
ran_rise img [] s = sym (add-zero s.cycles)
ran_rise img (word ∷ words) s = go (eqb s.cycles 1000000) (sets_above (nodes img) word) (ran_rise img words (state_after img word s))
  where
    go :
        (a b : Bool) → (ran_from img (state_after img word s) words).state.cycles ≡
        (state_after img word s).cycles + (ran_from img (state_after img word s) words).steps
        → let r = no_step 22 s if a else no_step 12 s if b else step_more (ran_from img (state_after img word s) words) in
        r.state.cycles ≡ s.cycles + r.steps
    go true b e = sym (add-zero s.cycles)
    go false true e = sym (add-zero s.cycles)
    go false false e = e ∙ rw (cycles-next img word s) (omega arith)

-- what a run returns: where image or state is refused, and where it takes its words
module _ (img : List ℕ) (s : State) (words : List ℕ) where
  pub run_none : (number : ℕ) → number ≡ state_number img s → (number ≡ 0 → ⊥) → no_step number s ≡ run_answer img s words
  unfolding run_answer
  run_none number e n = rw (← e, ne_eqb number 0 n)

  pub run-made : 0 ≡ state_number img s → ran_from img s words ≡ run_answer img s words
  unfolding run_answer
  run-made e = rw (← e)

  -- a run that makes no step returns the state that it was handed
  pub run_still : (run_answer img s words).steps ≡ 0 → (run_answer img s words).state ≡ s
  unfolding after
  run_still z = at (ℕ_discrete (state_number img s) 0)
    where
      at : Dec (state_number img s ≡ 0) → (run_answer img s words).state ≡ s
      at (no n) = sym (ap (λ (a : RunTold). a.state) (run_none _ refl n))
      at (yes e) =
          let r = ran_taken img words s ∙ run-made (sym e) in
          let t : (taken_from (nodes img) s.cycles words).steps ≡ 0 = ap (λ (a : RunTold). a.steps) r ∙ z in
          sym (ap (λ (a : RunTold). a.state) r) ∙ rw t

  -- a run whose words set no bit at or above N makes a cycle with each of them, up to the last cycle count
  pub run_all :
      state_number img s ≡ 0 → Own (nodes img) words → s.cycles + length words ≤ 1000000
      → let r = run_answer img s words in (r.steps ≡ length words) × (r.number ≡ 0) × (r.state ≡ after img s words)
  run_all e own few =
      let r : run_answer img s words ≡ ran_by img s words (taken (length words) 0) =
      sym (ran_taken img words s ∙ run-made (sym e)) ∙ ap (ran_by img s words) (taken_own (nodes img) s.cycles words own few) in (
        ap (λ (a : RunTold). a.steps) r,
        ap (λ (a : RunTold). a.number) r,
        ap (λ (a : RunTold). a.state) r ∙ ap (after img s) (take-length words),
      )
