-- The number of an input of any length is given by its length and its first 33,570 bytes: no image is longer than 802 and 4,096 words take 32,768, so
-- in a longer input no word is looked at, and it is refused.
use Rattle.std.specs.Prelude.{not, List, ◌≡◌, ℕ, ◌-◌, ◌/◌, ◌%◌, ◌<◌, ◌≤◌, min, eqb, take}
use Rattle.std.proofs.Math.Logic.{⊎_elim}
use Rattle.std.proofs.Common.{sym, ◌∙◌, arith, lt-ltb, eqb-true, length-take, take_all, take-take}
use Rattle.std.proofs.lemmas.Bool.{not-false}
use Rattle.std.proofs.Math.Path.{ap}
use Rattle.std.proofs.Math.ListN.{length}
use Rattle.std.proofs.Math.Seq.{get_or-take}
use Rattle.laws.specs.Laws.Cases.{lt-or-ge}
use Rattle.laws.specs.Laws.Choice.{alike, alike_number}
use Rattle.image.specs.Image.{nodes, channels, length_due}
use Rattle.verdict.specs.Judge.{sizes_number}
use Rattle.verdict.specs.Laws.Sized.{sized}
use Rattle.verdict.specs.Laws.Head.{head_sizes, head_all}
use Rattle.trace_input.specs.Input.{image_of, input_number}
use Rattle.trace_input.specs.Laws.Input.{image_sizes, clear}

-- two stretches taken from the front of a list may be taken in either order
take_both : (a b : ℕ) (l : List ℕ) → take a (take b l) ≡ take b (take a l)
take_both a b l =
    ⊎_elim
    (λ (h : a < b).
    take-take a b l (omega arith) ∙ sym (take_all b (take a l) (rw length-take (omega arith))))
    (λ (h : b ≤ a). take_all a (take b l) (rw length-take (omega arith)) ∙ sym (take-take b a l h))
    (lt-or-ge a b)

module _ (input : List ℕ) (k : ℕ) (h : 33570 ≤ k) where
  -- an input's first k bytes, 33,570 or more, have the N and C of the whole input
  head_due : length_due (take k input) ≡ length_due input
  unfolding nodes channels
  head_due = rw (get_or-take k input 0 0 (omega arith), get_or-take k input 1 0 (omega arith))

  head_image : image_of (take k input) ≡ take k (image_of input)
  unfolding image_of
  head_image = rw head_due (take_both (length_due input) k input)

  -- an input longer than k, with sound sizes and whole words behind the image, has over 4,096 of them
  head_long :
      k < length input → sizes_number (image_of input) ≡ 0 → (length input - length_due input) % 8 ≡ 0
      → 4096 < (length input - length_due input) / 8
  head_long l e t =
      let z = sized (image_of input) e in
      omega (arith, z.few_nodes, z.few_channels, image_sizes input)

  pub head_decides : input_number (take k input) (length input) ≡ input_number input (length input)
  unfolding input_number
  head_decides =
      let tail = length input - length_due input in
      ⊎_elim
      (λ (l : k < length input).
      rw (head_image, head_due, head_sizes (image_of input) k (omega arith))
      (alike_number (sizes_number (image_of input)) _ _ λ z.
      rw (head_all (image_of input) k (omega arith) z)
      (alike 3 _ _ (not (eqb (tail % 8) 0)) λ t.
      rw (lt-ltb 4096 (tail / 8) (head_long l z (eqb-true (tail % 8) 0 (not-false (eqb (tail % 8) 0) t)))))))
      (λ (l : length input ≤ k). ap (λ i. input_number i (length input)) (take_all k input l))
      (lt-or-ge k (length input))

-- an input that is not refused was kept whole
pub head_whole : (head : List ℕ) (size : ℕ) → length head ≡ min size 33570 → input_number head size ≡ 0 → size ≡ length head
head_whole head size l e =
    let n = clear head size e in
    let z = sized (image_of head) n.sizes in
    omega (arith, l, n.no_3, n.no_14, z.few_nodes, z.few_channels, image_sizes head)
