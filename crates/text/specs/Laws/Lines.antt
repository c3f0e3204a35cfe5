-- Laws of a line of two parts and a line feed, as every line is. Assumes nothing.
use Rattle.std.specs.Prelude.{List, [], ◌∷◌, ◌++◌, ◌≡◌, ℕ, ◌+◌, ◌-◌, ◌<◌, set, Ok, Err}
use Rattle.std.proofs.Common.{arith}
use Rattle.std.proofs.Math.ListN.{length, length-append}
use Rattle.refusal.specs.declared.Refusal.TheVariants.{Room}
use Rattle.writer.specs.Put.{Put}
use Rattle.writer.specs.Laws.Put.{put_one, put-after}
use Rattle.writer.specs.Write.{WriteDone}
use Rattle.writer.specs.Laws.Write.{write_none, write_made}
use Rattle.text.specs.Ascii.{ascii}

module _ (first rest out : List ℕ) where
  length_line : length (first ++ (rest ++ ascii "\n")) ≡ length first + length rest + 1
  unfolding ascii
  length_line = simp length-append (omega arith)

  -- a line whose two parts leave no room for its line feed is refused
  pub line_none : length out - length first - length rest ≡ 0 → WriteDone (first ++ (rest ++ ascii "\n")) out (Err Room) out
  line_none e = write_none (first ++ (rest ++ ascii "\n")) out (omega (arith, e, length_line))

  pub line_made :
      {a b : List ℕ} {j k : ℕ} → length first + length rest < length out → Put first 0 out a j → Put rest j a b k
      → WriteDone (first ++ (rest ++ ascii "\n")) out (Ok (k + 1)) (set b k 10)
  unfolding ascii
  line_made {a} {b} {j} {k} h p q =
      write_made (first ++ (rest ++ (10 ∷ []))) out (set b k 10) (k + 1) (omega (arith, h, length_line))
      (put-after p (put-after q (put_one 10 k b)))
