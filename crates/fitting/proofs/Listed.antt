-- A test of the first elements of a list, of those behind them, and of a part of it, one by one. Assumes nothing.
use Rattle.std.specs.Prelude.{Bool, ◌≡◌, ◌||◌, ℕ, zero, suc, ◌+◌, ◌-◌, ◌<◌, ◌≤◌, ltb, length, take, drop, get_or}
use mathlib.Core.List.{List}
use Rattle.std.proofs.Common.{sym, ap, refl, ◌∙◌, arith, ⊎_elim, lt-ltb, le-ltb, length-drop}
use Rattle.std.proofs.Math.Bool.{and-true}
use Rattle.std.proofs.Math.Seq.{take-suc, take_all}
use Rattle.std.proofs.Math.ListN.{drop_of_length-le}
use Rattle.std.specs.List.{list_all}
use Rattle.std.proofs.lemmas.List.Folds.{list_all-append}
use Rattle.laws.specs.Below.{all_below, sum_below}
use Rattle.std.proofs.lemmas.List.{get_or-drop, get_or-take, length-take-le}
use Rattle.laws.specs.Laws.Below.{all_from, all_same, sum_same}
use Rattle.laws.specs.Laws.Cases.{lt-or-ge}
use Rattle.relay.specs.declared.Station.{Station}
use Rattle.relay.specs.Station.{no_station}
use Rattle.fitting.specs.Loops.Passes.{counted}

module _ {A : Type 0} (test : A → Bool) (d : A) where
  pub front : (l : List A) (n : ℕ) → n ≤ length l → list_all test (take n l) ≡ all_below (λ i. test (get_or l i d)) n
  unfolding all_below
  front l zero h = refl
  front l (suc n) h = rw (take-suc l n d h, list_all-append, front l n (omega arith), and-true)

  -- what is said of the numbers from n on, of n + k numbers
  from_n : (f : ℕ → Bool) (n k : ℕ) → all_below (λ i. f (n + i)) k ≡ all_below (λ i. ltb i n || f i) (n + k)
  unfolding all_below
  from_n f n zero =
      let e : n + 0 ≡ n = omega arith in
      sym (rw e (all_from (λ i. ltb i n || f i) n (λ i h. rw (lt-ltb i n h))))
  from_n f n (suc k) =
      let e : n + suc k ≡ suc (n + k) = omega arith in
      rw (e, from_n f n k, le-ltb (n + k) n (omega arith))

  pub rest : (l : List A) (n m : ℕ) → length l ≡ m → list_all test (drop n l) ≡ all_below (λ i. ltb i n || test (get_or l i d)) m
  rest l n m long =
      ⊎_elim
      (λ (g : n < m).
      let k = m - n in
      let sum : n + k ≡ m = omega arith in
      let left : length (drop n l) ≡ k = rw length-drop (omega (arith, long)) in
      ap (list_all test) (sym (take_all k (drop n l) (omega (arith, left)))) ∙ front (drop n l) k (omega (arith, left))
      ∙ all_same (λ i. test (get_or (drop n l) i d)) (λ i. test (get_or l (n + i) d)) k (λ i h. rw get_or-drop)
      ∙ rw sum at (from_n (λ i. test (get_or l i d)) n k))
      (λ (g : m ≤ n).
      let none : length l ≤ n = omega (arith, long, g) in
      rw (drop_of_length-le l none) (sym (all_from (λ i. ltb i n || test (get_or l i d)) m (λ i h. rw (lt-ltb i n (omega (arith, g, h)))))))
      (lt-or-ge n m)

  -- a test of the elements behind the first n, as a part up to the end of the list
  pub behind : (l : List A) (n m : ℕ) → length l ≡ m → list_all test (take (m - n) (drop n l)) ≡ all_below (λ i. ltb i n || test (get_or l i d)) m
  behind l n m long =
      ap (list_all test) (take_all (m - n) (drop n l) (rw length-drop (omega (arith, long)))) ∙ rest l n m long

  -- a test of a part of the list, element by element
  pub part : (l : List A) (a n : ℕ) → a + n ≤ length l → list_all test (take n (drop a l)) ≡ all_below (λ i. test (get_or l (a + i) d)) n
  part l a n h =
      front (drop a l) n (rw length-drop (omega (arith, h)))
      ∙ all_same (λ i. test (get_or (drop a l) i d)) (λ i. test (get_or l (a + i) d)) n (λ i k. rw get_or-drop)

  -- a test of a part of the list from its place n on, element by element
  pub part_rest :
      (l : List A) (a n m : ℕ) → n ≤ m → a + m ≤ length l
      → list_all test (take (m - n) (drop (a + n) l)) ≡ all_below (λ i. ltb i n || test (get_or l (a + i) d)) m
  part_rest l a n m h k =
      let sum : n + (m - n) ≡ m = omega arith in
      part l (a + n) (m - n) (omega (arith, h, k))
      ∙ all_same (λ i. test (get_or l (a + n + i) d)) (λ i. test (get_or l (a + (n + i)) d)) (m - n)
      (λ i q. let e : a + n + i ≡ a + (n + i) = omega arith in rw e)
      ∙ rw sum at (from_n (λ i. test (get_or l (a + i) d)) n (m - n))

-- how many tokens the stations of a part of an array hold
pub counted_part :
    (l : List Station) (a n : ℕ) → a + n ≤ length l → counted (take n (drop a l)) ≡ sum_below (λ j. (get_or l (a + j) no_station).count) n
unfolding counted
counted_part l a n h =
    let long : length (take n (drop a l)) ≡ n = length-take-le n (drop a l) (rw length-drop (omega (arith, h))) in
    rw long
    (sum_same (λ j. (get_or (take n (drop a l)) j no_station).count) (λ j. (get_or l (a + j) no_station).count) n
    (λ j k. rw (get_or-take n (drop a l) j no_station k, get_or-drop)))
