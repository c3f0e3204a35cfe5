-- Laws of an input: how long its image is, where its words lie, and what its number says. Assumes nothing.
use Rattle.std.specs.Prelude.{false, List, ◌≡◌, refl, eqb, get_or, take, drop}
use Rattle.std.specs.Int.{from_le_bytes, w64}
use Rattle.std.specs.Simd.{first_chunks}
use Rattle.std.proofs.Common.{⊎_elim, sym, ap, ◌∙◌, not-suc-le-zero, mul-zero, mul-suc, eqb-true, ltb-false, drop-drop}
use Prim.Native.Nat.{ℕ, zero, suc, ◌+◌, ◌*◌, ◌-◌, ◌/◌, ◌%◌, ◌<◌, ◌≤◌, min}
use native.Mathlib.Omega.{arith}
use Rattle.std.proofs.lemmas.Bool.{not-false}
use Rattle.std.proofs.lemmas.List.Elements.{All-from_get_or}
use Rattle.std.proofs.Math.ListN.{length, length-take, replicate, get_or-eq_default}
use Rattle.std.proofs.Math.Seq.{get_or-take}
use Rattle.laws.specs.Below.{any_below}
use Rattle.laws.specs.Laws.Below.{any_none, any_same}
use Rattle.laws.specs.Laws.Cases.{lt-or-ge}
use Rattle.laws.specs.Laws.Choice.{past, past_number}
use Rattle.laws.specs.Laws.Lists.{take_min}
use Rattle.laws.specs.Laws.Table.{length-table, table_at}
use Rattle.numbers.specs.Laws.Numbers.{eight_same}
use Rattle.image.specs.Image.{nodes, channels, length_due}
use Rattle.verdict.specs.Judge.{sizes_number, contents_number, judge}
use Rattle.verdict.specs.Laws.Sized.{sized, judge_sized}
use Rattle.cycle.specs.Word.{sets_above, Own}
use Rattle.trace_input.specs.Input.{image_of, word_at, word_count, words_of, above_at, any_above, input_number}

-- ---- the image
module _ (input : List ℕ) where
  -- the image of an input is as long as is due, or as the input
  pub image_length : length (image_of input) ≡ min (length_due input) (length input)
  unfolding image_of
  image_length = length-take (length_due input) input

  -- as many bytes of an input as are due, or as it has, are its image
  pub image_first : (n : ℕ) → n ≡ min (length_due input) (length input) → take n input ≡ image_of input
  unfolding image_of
  image_first n e = rw e (sym (take_min (length_due input) input))

  pub image_within : length (image_of input) ≤ length input
  image_within = omega (arith, image_length)

  -- the image of an input has the input's N and C
  pub image_sizes : (nodes (image_of input) ≡ nodes input) × (channels (image_of input) ≡ channels input)
  unfolding image_of nodes channels
  image_sizes = (get_or-take (length_due input) input 0 0 (omega arith), get_or-take (length_due input) input 1 0 (omega arith))

-- ---- the words
chunk_at : {A : Type 0} (n k : ℕ) (xs : List A) (i : ℕ) (d : List A) → i < k → get_or (first_chunks n k xs) i d ≡ take n (drop (n * i) xs)
chunk_at n zero xs i d h = absurd (not-suc-le-zero h)
chunk_at n (suc k) xs zero d h = rw mul-zero
chunk_at n (suc k) xs (suc i) d h =
    let e : n * suc i ≡ n + n * i = rw mul-suc (omega arith) in
    chunk_at n k (drop n xs) i d (omega (arith, h)) ∙ rw (drop-drop, e)

length_chunks : {A : Type 0} (n k : ℕ) (xs : List A) → length (first_chunks n k xs) ≡ k
length_chunks n zero xs = refl
length_chunks n (suc k) xs = ap suc (length_chunks n k (drop n xs))

module _ (input : List ℕ) where
  -- what follows the image, counted in whole words
  pub tail_words : (length input - length (image_of input)) / 8 ≡ word_count input
  unfolding word_count
  tail_words =
      let e : length input - min (length_due input) (length input) ≡ length input - length_due input = omega arith in
      rw (image_length input, e)

  pub word_there : (k : ℕ) → k < word_count input → get_or (words_of input) k 0 ≡ word_at input k
  unfolding words_of
  word_there k h = table_at (word_at input) (word_count input) k 0 h

  pub length-words : length (words_of input) ≡ word_count input
  unfolding words_of
  length-words = length-table (word_at input) (word_count input)

  pub word_past : (k : ℕ) → word_count input ≤ k → get_or (words_of input) k 0 ≡ 0
  word_past k h = get_or-eq_default (words_of input) 0 (rw length-words h)

  -- word k of an input, as the code reads it
  pub word_read :
      (k : ℕ) → from_le_bytes w64 (get_or (first_chunks 8 (word_count input) (drop (length (image_of input)) input)) k (replicate 8 0)) ≡ get_or (words_of input) k 0
  unfolding word_at word_count
  word_read k =
      ⊎_elim
      (λ (h : k < word_count input).
      let due : length (image_of input) ≡ length_due input = omega (arith, image_length input, h) in
      rw (chunk_at 8 (word_count input) (drop (length (image_of input)) input) k (replicate 8 0) h, drop-drop, due, word_there k h) (eight_same input (length_due input + 8 * k)))
      (λ (h : word_count input ≤ k).
      let none = get_or-eq_default (first_chunks 8 (word_count input) (drop (length (image_of input)) input)) (replicate 8 0) {n = k} (rw length_chunks h) in
      rw (word_past k h, none))
      (lt-or-ge k (word_count input))

-- whether some word sets a bit at or above N, as the code looks at them
pub above_read : (input : List ℕ) → any_below (λ k. sets_above (nodes input) (get_or (words_of input) k 0)) (word_count input) ≡ any_above input
above_read input =
    any_same (λ k. sets_above (nodes input) (get_or (words_of input) k 0)) (above_at input) (word_count input) (λ k h. rw (word_there input k h))

-- ---- the number
-- none of an input's numbers has a cause in it
pub record Clear (input : List ℕ) (size : ℕ) : Type 0 where
  pub sizes : sizes_number (image_of input) ≡ 0
  pub no_3 : (size - length_due input) % 8 ≡ 0
  pub contents : contents_number (image_of input) ≡ 0
  pub no_14 : (size - length_due input) / 8 ≤ 4096
  pub no_12 : any_above input ≡ false

pub clear : (input : List ℕ) (size : ℕ) → input_number input size ≡ 0 → Clear input size
unfolding input_number
clear input size e =
    let tail = size - length_due input in
    let sizes = past_number (sizes_number (image_of input)) _ e in
    let h3 = past 2 _ _ sizes.1 in
    let contents = past_number (contents_number (image_of input)) _ h3.1 in
    let h14 = past 13 _ _ contents.1 in
    let h12 = past 11 _ _ h14.1 in
    record {
      sizes = sizes.0;
      no_3 = eqb-true (tail % 8) 0 (not-false (eqb (tail % 8) 0) h3.0);
      contents = contents.0;
      no_14 = ltb-false 4096 (tail / 8) h14.0;
      no_12 = h12.0;
    }

-- ---- an input whose number is 0
module _ (input : List ℕ) (e : input_number input (length input) ≡ 0) where
  abbrev none : Clear input (length input)
  none = clear input (length input) e

  -- an input whose number is 0 has an accepted image
  pub input-accepted : judge (image_of input) ≡ 0
  input-accepted = judge_sized (image_of input) none.sizes ∙ none.contents

  -- an input whose number is 0 is its image and whole words, with nothing missing or left over
  pub input-whole : length input ≡ length (image_of input) + 8 * length (words_of input)
  unfolding word_count
  input-whole =
      let whole = (sized (image_of input) none.sizes).whole in
      rw (length-words input) (omega (arith, whole, image_sizes input, image_length input, none.no_3))

  -- an input whose number is 0 has at most 4,096 words
  pub words_few : length (words_of input) ≤ 4096
  unfolding word_count
  words_few = rw (length-words input) none.no_14

  -- no word of an input whose number is 0 sets a bit at or above N
  pub words_own : Own (nodes (image_of input)) (words_of input)
  words_own =
      All-from_get_or (λ word. sets_above (nodes (image_of input)) word ≡ false) (words_of input) 0 λ k h.
      let l : k < word_count input = rw (length-words input) at h in
      rw ((image_sizes input).0, word_there input k l) (any_none (above_at input) k (word_count input) none.no_12 l)
