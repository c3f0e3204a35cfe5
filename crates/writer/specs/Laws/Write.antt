-- What a writer answers, where the slice is too short and where it is not. Assumes nothing.
use Rattle.std.specs.Prelude.{List, ◌++◌, true, false, ◌≡◌, refl, ℕ, ◌≤◌, ◌<◌, Result, Ok, Err}
use Rattle.std.proofs.Math.Logic.{⊎_elim}
use Rattle.std.proofs.Math.Path.{sym}
use Rattle.std.proofs.Common.{ap, ◌∙◌, arith, take_at}
use Rattle.std.proofs.Math.Nat.{zero-add}
use borrow.Author.Tests.{lt-ltb, le-ltb}
use Rattle.std.proofs.Math.Dec.{ltb}
use Rattle.std.proofs.Math.ListN.{length, take, drop, length-append}
use Rattle.laws.specs.Laws.Cases.{true_or_false}
use Rattle.refusal.specs.Laws.Number.{number_positive}
use Rattle.refusal.specs.declared.Refusal.{Refusal}
use Rattle.refusal.specs.declared.Refusal.TheVariants.{Room}
use Rattle.writer.specs.Put.{Put}
use Rattle.writer.specs.Laws.Put.{put_front}
use Rattle.writer.specs.Write.{written_answer, written_over, WriteDone, write_told, Begins}

module _ (text out : List ℕ) where
  pub write_none : length out < length text → WriteDone text out (Err Room) out
  unfolding written_answer written_over
  write_none h = let e = lt-ltb (length out) (length text) h in record { answered = rw e; over = rw e }

  pub write_made :
      (left : List ℕ) (end : ℕ) → length text ≤ length out → Put text 0 out left end
      → WriteDone text out (Ok end) left
  unfolding written_answer written_over
  write_made left end h s =
      let e = le-ltb (length out) (length text) h in
      let n : end ≡ length text = s.next ∙ zero-add (length text) in
      record { answered = rw (e, n); over = rw e (put_front h s) }

  -- where there is room the text was written
  pub write_done :
      {answer : Result ℕ Refusal} {left : List ℕ} → WriteDone text out answer left → length text ≤ length out
      → (answer ≡ Ok (length text)) × (left ≡ text ++ drop (length text) out)
  unfolding written_answer written_over
  write_done d h = let e = le-ltb (length out) (length text) h in (d.answered ∙ rw e, d.over ∙ rw e)

-- ---- for callers: a slice begins with the text that was written
pub written_begins : {text out left : List ℕ} {n : ℕ} → WriteDone text out (Ok n) left → Begins left n text
unfolding written_answer written_over
written_begins {text} {out} {left} {n} d =
    ⊎_elim
    (λ (e : ltb (length out) (length text) ≡ true). let q : Ok n ≡ Err Room = d.answered ∙ rw e in absurd (cc q))
    (λ (e : ltb (length out) (length text) ≡ false).
    let q : Ok n ≡ Ok (length text) = d.answered ∙ rw e in
    let m : n ≡ length text = cc q in
    let l : left ≡ text ++ drop (length text) out = d.over ∙ rw e in
    let t : take n left ≡ text = rw (m, l) (take_at text (drop (length text) out) (length text) refl) in
    record { counts = (rw (m, l, length-append) (omega arith), m ∙ sym (ap length t)); text_is = t })
    (true_or_false (ltb (length out) (length text)))

-- a writer's answer that tells number 0 and n bytes is Ok n
pub told_ok : (answer : Result ℕ Refusal) {n : ℕ} → 0 ≡ (write_told answer).number → n ≡ (write_told answer).length → Ok n ≡ answer
told_ok (Ok m) z e = ap Ok e
told_ok (Err refusal) z e = absurd (omega (arith, z, number_positive refusal))
