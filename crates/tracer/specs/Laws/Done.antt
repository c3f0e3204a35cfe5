-- What each way out of a call for a line has done. Assumes nothing.
use Rattle.std.specs.Prelude.{not, List, ◌≡◌, refl, ℕ, zero, suc, ◌≤◌, ◌<◌, eqb, ℤ, pos, length, drop, Result, Ok, Err}
use Rattle.std.proofs.Common.{sym, ◌∙◌, arith}
use Rattle.std.proofs.Math.Path.{ap}
use borrow.Author.Tests.{ne_eqb}
use Rattle.std.proofs.Math.ListN.{take, get_or, get_or-append}
use Rattle.laws.specs.Choice.{◌if◌else◌, ◌then◌}
use Rattle.laws.specs.Laws.Choice.{past_number}
use Rattle.laws.specs.Table.{table}
use Rattle.laws.specs.Laws.Table.{length-table, table_at, table_same, take-table}
use Rattle.image.specs.Image.{nodes, channels}
use Rattle.verdict.specs.Judge.{judge}
use Rattle.refusal.specs.Number.{number}
use Rattle.refusal.specs.Laws.Number.{number_positive}
use Rattle.refusal.specs.declared.Refusal.{Refusal}
use Rattle.relay.specs.declared.Reading.{Reading}
use Rattle.verdict.specs.Laws.Accepted.{accepted}
use Rattle.state.specs.declared.State.{State}
use Rattle.state.specs.State.{firings_at}
use Rattle.cycle.specs.Cycle.{reading_at, state_after, letters_of, values_of}
use Rattle.fitting.specs.Fits.{state_number}
use Rattle.fitting.specs.Laws.Number.{state_ok}
use Rattle.engine.specs.Answer.{StepTold, step_number, number_of_step, step_answer, letters_written, values_written, StepDone}
use Rattle.engine.specs.Laws.Answer.{number_ok}
use Rattle.text.specs.Lines.{line_text, closing_text, reading_in}
use Rattle.writer.specs.Write.{written_answer, WriteDone, WriteTold, write_refusal, write_told}
use Rattle.writer.specs.Laws.Write.{told_ok}
use Rattle.tracer.specs.Trace.{cycle_text, firings_of}
use Rattle.tracer.specs.Done.{LineTold, line_refusal, line_reply, line_answer, line_over, LineDone, closing_answer, closing_over, ClosingDone}

-- ---- a step that is lent 96 places
module _
    {img : List ℕ} {s : State} {word : ℕ} {letters : List ℕ} {values : List ℤ} {stepped : StepTold} {letters_left : List ℕ} {values_left : List ℤ}
    (d : StepDone img s word letters values stepped letters_left values_left) (l : length letters ≡ 96) (v : length values ≡ 96) where
  pub step-number : stepped.number ≡ step_number img s word 96 96
  unfolding step_answer number_of_step
  step-number = ap (λ (a : StepTold). a.number) d.answered ∙ rw (l, v)

  -- the image was accepted, and the first C places have the cycle's letters and values
  module _ (e : stepped.number ≡ 0) where
    zero_of : number_of_step img s word letters values ≡ 0
    unfolding number_of_step
    zero_of = rw (l, v) (sym step-number ∙ e)

    pub step-accepted : (judge img ≡ 0) × (channels img ≤ 96)
    step-accepted =
        let n = number_ok img s word 96 96 (sym step-number ∙ e) in
        ((state_ok img s n.0).0, n.3)

    pub step-state : stepped.state ≡ state_after img word s
    unfolding step_answer
    step-state = ap (λ (a : StepTold). a.state) d.answered ∙ rw zero_of

    -- each channel's letter and value in the lent arrays are the channel's reading
    step_reading : (c : ℕ) → c < channels img → reading_in letters_left values_left c ≡ reading_at img s c
    unfolding letters_written values_written reading_in letters_of values_of
    step_reading c h =
        let n = channels img in
        let a : get_or letters_left c 0 ≡ (reading_at img s c).letter =
        ap (λ x. get_or x c 0) d.lettered
        ∙ rw zero_of (get_or-append (letters_of img s) (drop n letters) 0 c (rw length-table h) ∙ table_at (λ k. (reading_at img s k).letter) n c 0 h) in
        let b : get_or values_left c (pos 0) ≡ (reading_at img s c).value =
        ap (λ x. get_or x c (pos 0)) d.valued
        ∙ rw zero_of
        (get_or-append (values_of img s) (drop n values) (pos 0) c (rw length-table h) ∙ table_at (λ k. (reading_at img s k).value) n c (pos 0) h) in
        rw (a, b)

    pub step_text :
        {readings : List Reading} → readings ≡ table (reading_in letters_left values_left) 96 → line_text s.cycles (take (channels img) readings) ≡ cycle_text img s
    unfolding cycle_text
    step_text e =
        rw (e, take-table (reading_in letters_left values_left) (channels img) 96 step-accepted.1)
        (ap (line_text s.cycles) (table_same (reading_in letters_left values_left) (reading_at img s) (channels img) step_reading))

  -- a refused step hands back the state that it was handed
  pub step_refused : (stepped.number ≡ 0 → ⊥) → stepped.state ≡ s
  unfolding step_answer number_of_step
  step_refused n =
      ap (λ (a : StepTold). a.state) d.answered
      ∙ rw (l, v, ne_eqb (step_number img s word 96 96) 0 (λ q. n (step-number ∙ q)))

-- ---- a cycle's line
module _ (img : List ℕ) (s : State) (word : ℕ) (out : List ℕ) where
  -- a call for a cycle's line whose step is refused
  pub line_refused :
      {number : ℕ} → number ≡ step_number img s word 96 96 → (number ≡ 0 → ⊥)
      → LineDone img s word out (line_refusal number s) out
  unfolding line_answer line_over
  line_refused {number} e n = let q = ne_eqb number 0 n in record { answered = rw (← e, q, q); over = rw (← e, q) }

  module _ {text left : List ℕ} (e : 0 ≡ step_number img s word 96 96) (t : text ≡ cycle_text img s) where
    -- a call for a cycle's line that is longer than the slice
    pub line_long :
        {refusal : Refusal} → WriteDone text out (Err refusal) left
        → LineDone img s word out (line_refusal (number refusal) s) left
    unfolding line_answer line_over
    line_long {refusal} d =
        let n = ne_eqb (number refusal) 0 (λ z. absurd (omega (arith, z, number_positive refusal))) in
        record { answered = rw (← e, ← t, ← d.answered, n); over = d.over ∙ rw (← e, t) }

    -- a call for a cycle's line that was written
    pub line_written :
        {n : ℕ} {after : State} → WriteDone text out (Ok n) left → after ≡ state_after img word s
        → LineDone img s word out (line_reply n after) left
    unfolding line_answer line_over
    line_written d a = record { answered = rw (← e, ← t, ← d.answered, a); over = d.over ∙ rw (← e, t) }

-- ---- the closing line
module _ (img : List ℕ) (s : State) (out : List ℕ) where
  pub closing_refused :
      {number : ℕ} → number ≡ state_number img s → (number ≡ 0 → ⊥) → ClosingDone img s out (write_refusal number) out
  unfolding closing_answer closing_over
  closing_refused {number} e n = let q = ne_eqb number 0 n in record { answered = rw (← e, q); over = rw (← e, q) }

  pub closing_written :
      {left : List ℕ} {answer : Result ℕ Refusal} → 0 ≡ state_number img s
      → WriteDone (closing_text (take (nodes img) (table (firings_at s) 64))) out answer left → ClosingDone img s out (write_told answer) left
  unfolding closing_answer closing_over firings_of
  closing_written e d =
      let j = (state_ok img s (sym e)).0 in
      let t = take-table (firings_at s) (nodes img) 64 (accepted img j).few_nodes in
      record { answered = ap write_told d.answered ∙ rw (← e, t); over = d.over ∙ rw (← e, t) }

-- ---- for callers: an answer of number 0 says that the line was written, that the cycle was made, and that nothing was refused before
-- a call answers a refusal by a number, or a reply where that is 0: an answer of number 0 is the reply
replied :
    {A : Type 0} (told : A → ℕ) (refusal : ℕ → A) → ((n : ℕ) → told (refusal n) ≡ n) → (number : ℕ) {answer reply : A}
    → answer ≡ (refusal number if not (eqb number 0) else reply) → told answer ≡ 0 → (number ≡ 0) × (answer ≡ reply)
replied told refusal same zero e z = (refl, e)
replied told refusal same (suc k) {answer} e z =
    let h : answer ≡ refusal (suc k) = rw (ne_eqb (suc k) 0 (λ q. omega arith)) at e in
    let n : told answer ≡ suc k = ap told h ∙ same (suc k) in
    absurd (omega (arith, n, z))

pub line_made :
    {img : List ℕ} {s : State} {word : ℕ} {out left : List ℕ} {answer : LineTold}
    → LineDone img s word out answer left → answer.number ≡ 0
    → WriteDone (cycle_text img s) out (Ok answer.length) left × (answer.state ≡ state_after img word s) × (step_number img s word 96 96 ≡ 0)
unfolding line_answer line_over
line_made {img} {s} {word} {out} d z =
    let step = step_number img s word 96 96 in
    let written = written_answer (cycle_text img s) out in
    let r = replied (λ (a : LineTold). a.number) (λ n. line_refusal n s) (λ n. refl) (step then (write_told written).number) d.answered z in
    let n = past_number step _ r.0 in (
      record { answered = told_ok written (sym n.1) (ap (λ (a : LineTold). a.length) r.1); over = d.over ∙ rw n.0 },
      ap (λ (a : LineTold). a.state) r.1,
      n.0,
    )

pub closing_made :
    {img : List ℕ} {s : State} {out left : List ℕ} {answer : WriteTold} → ClosingDone img s out answer left → answer.number ≡ 0
    → WriteDone (closing_text (firings_of img s)) out (Ok answer.length) left
unfolding closing_answer closing_over
closing_made {img} {s} {out} d z =
    let written = written_answer (closing_text (firings_of img s)) out in
    let r = replied (λ (a : WriteTold). a.number) write_refusal (λ n. refl) (state_number img s) d.answered z in
    record {
      answered = told_ok written (sym z ∙ ap (λ (a : WriteTold). a.number) r.1) (ap (λ (a : WriteTold). a.length) r.1);
      over = d.over ∙ rw r.0;
    }
