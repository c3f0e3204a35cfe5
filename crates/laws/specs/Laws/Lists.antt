-- Laws of lists that are filled at the end and emptied at the front, and of the arrays that hold them. Assumes nothing.
use Rattle.std.specs.Prelude.{Bool, true, false, ◌≡◌, refl, leb, get_or, drop, set}
use Rattle.std.proofs.lemmas.Bool.{false≢true}
use mathlib.Core.List.{List, [], ◌∷◌, ◌++◌, append_assoc}
use Rattle.std.proofs.Math.Logic.{⊎_elim}
use Rattle.std.proofs.Math.Path.{ap, sym}
use Rattle.std.proofs.Common.{◌∙◌, le-leb, length-take, take_all, get_or-append-add}
use Prim.Native.Nat.{ℕ, zero, suc, ◌+◌, ◌-◌, ◌<◌, ◌≤◌, min}
use Rattle.std.proofs.Math.Numerals.{add-one}
use native.Mathlib.Omega.{arith}
use Rattle.std.proofs.Math.ListN.{length, take, replicate, length-append, get_or-append, get_or-eq_default}
use Rattle.std.proofs.lemmas.List.{length-replicate, replicate-append-replicate}
use Rattle.std.proofs.Math.Seq.{take-length, take-append_seam, set-append_seam, append_snoc, get_or-take, ext_get_or}
use Rattle.laws.specs.Laws.Cases.{lt-or-ge}
use Rattle.laws.specs.Choice.{◌if◌else◌}
use Rattle.laws.specs.Laws.Choice.{one_few}
use Rattle.laws.specs.Lists.{holds, holds_two, one_if, drop_if, padded, Stored}

module _ {A : Type 0} where
  -- what `drop_if` takes from two lists, one behind the other, comes from the first of them, where that has an element
  pub drop_if-append : (xs ys : List A) (b : Bool) → (b ≡ true → holds xs ≡ true) → drop_if b (xs ++ ys) ≡ drop_if b xs ++ ys
  drop_if-append xs ys false h = refl
  drop_if-append [] ys true h = absurd (false≢true (h refl))
  drop_if-append (x ∷ xs) ys true h = refl

  pub length-drop_if : (b : Bool) (xs : List A) → length (drop_if b xs) ≤ length xs
  length-drop_if false xs = omega arith
  length-drop_if true [] = omega arith
  length-drop_if true (x ∷ xs) = omega arith

  -- `drop_if` takes one element where the test holds and the list has one, and none where the test fails
  pub length_dropped : (b : Bool) (xs : List A) → (b ≡ true → holds xs ≡ true) → length (drop_if b xs) + (1 if b else 0) ≡ length xs
  length_dropped false xs h = omega arith
  length_dropped true [] h = absurd (false≢true (h refl))
  length_dropped true (x ∷ xs) h = omega arith

  -- `one_if` has one element where the test holds, and none where it fails
  pub length-one_if : (b : Bool) (x : A) → length (one_if b x) ≡ (1 if b else 0)
  length-one_if true x = refl
  length-one_if false x = refl

  pub one_if_few : (b : Bool) (x : A) → length (one_if b x) ≤ 1
  one_if_few b x = rw (length-one_if b x) (one_few b)

  pub holds_one : (b : Bool) (x : A) → holds (one_if b x) ≡ b
  holds_one true x = refl
  holds_one false x = refl

  -- a list holds two elements or more exactly if its length is two or more
  pub two_count : (xs : List A) → holds_two xs ≡ leb 2 (length xs)
  two_count [] = refl
  two_count (x ∷ []) = refl
  two_count (x ∷ y ∷ xs) = sym (le-leb 2 (suc (suc (length xs))) (omega arith))

  -- `take n` reaches no further than the end of the list
  pub take_min : (n : ℕ) (xs : List A) → take n xs ≡ take (min n (length xs)) xs
  take_min n xs =
      ⊎_elim
      (λ (h : n < length xs). let e : min n (length xs) ≡ n = omega arith in rw e)
      (λ (h : length xs ≤ n). let e : min n (length xs) ≡ length xs = omega arith in rw (e, take_all n xs h, take-length))
      (lt-or-ge n (length xs))

  -- ---- padded lists: the elements come back, and what follows them is d
  pub length-padded : (n : ℕ) (d : A) (xs : List A) → length xs ≤ n → length (padded n d xs) ≡ n
  unfolding padded
  length-padded n d xs h = rw (length-append, length-replicate) (omega arith)

  pub take-padded : (n : ℕ) (d : A) (xs : List A) → take (length xs) (padded n d xs) ≡ xs
  unfolding padded
  take-padded n d xs = take-append_seam xs (replicate (n - length xs) d)

  -- every element of a list of n times d is d, and so is what is read past its end
  pub replicate_rest : (n k : ℕ) (d : A) → get_or (replicate n d) k d ≡ d
  replicate_rest zero k d = refl
  replicate_rest (suc n) zero d = refl
  replicate_rest (suc n) (suc k) d = replicate_rest n k d

  pub padded_rest : (n : ℕ) (d : A) (xs : List A) (k : ℕ) → length xs ≤ k → get_or (padded n d xs) k d ≡ d
  unfolding padded
  padded_rest n d xs k h =
      let e : k ≡ length xs + (k - length xs) = omega arith in
      rw (e, get_or-append-add) (replicate_rest (n - length xs) (k - length xs) d)

  -- a list padded with d reads as it did before, where what is past the end reads d
  pub get_or-padded : (n : ℕ) (d : A) (xs : List A) (k : ℕ) → get_or (padded n d xs) k d ≡ get_or xs k d
  unfolding padded
  get_or-padded n d xs k =
      ⊎_elim
      (λ (h : k < length xs). get_or-append xs (replicate (n - length xs) d) d k h)
      (λ (h : length xs ≤ k). padded_rest n d xs k h ∙ sym (get_or-eq_default xs d h))
      (lt-or-ge k (length xs))

  -- an element written to the first place of a padded list that is free stands behind the others
  pub padded-set : (n : ℕ) (d : A) (xs : List A) (x : A) → length xs < n → set (padded n d xs) (length xs) x ≡ padded n d (xs ++ (x ∷ []))
  unfolding padded
  padded-set n d xs x h =
      let e : n - length xs ≡ suc (n - suc (length xs)) = omega arith in
      let l : length (xs ++ (x ∷ [])) ≡ suc (length xs) = length-append xs (x ∷ []) ∙ add-one (length xs) in
      rw (l, e, set-append_seam) (sym (append_snoc xs x (replicate (n - suc (length xs)) d)))

  -- a padded list without its first element, and with d at the end, is the rest of the list, padded
  pub padded-drop : (n : ℕ) (d : A) (x : A) (xs : List A) → length xs < n → drop 1 (padded n d (x ∷ xs)) ++ (d ∷ []) ≡ padded n d xs
  unfolding padded
  padded-drop n d x xs h =
      let e : n - suc (length xs) + 1 ≡ n - length xs = omega arith in
      append_assoc xs (replicate (n - suc (length xs)) d) (d ∷ [])
      ∙ ap (λ (t : List A). xs ++ t) (replicate-append-replicate (n - suc (length xs)) 1 d ∙ ap (λ (k : ℕ). replicate k d) e)

  -- a padded list is `Stored`, and an array that is `Stored` is its own elements, padded
  pub stored-padded : (n : ℕ) (d : A) (xs : List A) → length xs ≤ n → Stored n d (padded n d xs) (length xs)
  stored-padded n d xs h = record { few = h; long = length-padded n d xs h; rest = λ k l. padded_rest n d xs k l }

  pub stored_count : (n : ℕ) (d : A) (l : List A) (count : ℕ) → Stored n d l count → length (take count l) ≡ count
  stored_count n d l count s = rw (length-take, s.long) (omega (arith, s.few))

  pub stored_own : (n : ℕ) (d : A) (l : List A) (count : ℕ) → Stored n d l count → l ≡ padded n d (take count l)
  unfolding padded
  stored_own n d l count s =
      let xs = take count l in
      let k = stored_count n d l count s in
      let j : length xs ≤ n = omega (arith, s.few) in
      ext_get_or d l (padded n d xs) (s.long ∙ sym (length-padded n d xs j))
      (λ i h.
      ⊎_elim
      (λ (g : i < count).
      let m : i < length xs = omega arith in
      sym (get_or-append xs (replicate (n - length xs) d) d i m ∙ get_or-take count l i d g))
      (λ (g : count ≤ i). let m : length xs ≤ i = omega arith in s.rest i g ∙ sym (padded_rest n d xs i m))
      (lt-or-ge i count))
