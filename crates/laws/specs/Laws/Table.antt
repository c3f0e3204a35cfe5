-- Laws of tables. Assumes nothing.
use Rattle.std.specs.Prelude.{Bool, false, ◌&&◌, ◌||◌, ◌≡◌, eqb, get_or, set, take}
use Rattle.std.proofs.Math.Bool.{or-false}
use mathlib.Core.List.{List, [], ◌∷◌, ◌++◌, append_assoc}
use Rattle.std.proofs.Math.Logic.{⊎_elim}
use Rattle.std.proofs.Math.Path.{refl, ap}
use Rattle.std.proofs.Common.{sym, ◌∙◌, not-suc-le-zero, le_of_suc-le-suc, add-zero, add-suc, add-one, append-nil, eq-eqb, ne_eqb, length-append, length-set, drop-cons, get_or-set_same, get_or-set_other, ext_get_or}
use Prim.Native.Nat.{ℕ, zero, suc, ◌+◌, ◌-◌, ◌<◌, ◌≤◌}
use Rattle.std.proofs.Math.Decide.{ℕ_discrete}
use native.Mathlib.Omega.{arith}
use Rattle.std.proofs.Math.ListN.{length, drop, replicate, get_or-append}
use Rattle.std.proofs.lemmas.List.{length-replicate, get_or_at}
use Rattle.std.proofs.Math.Seq.{take-append_seam, drop-append-add, set_at}
use Rattle.laws.specs.Laws.Cases.{lt-or-ge, below_suc}
use Rattle.laws.specs.Lists.{padded}
use Rattle.laws.specs.Laws.Lists.{length-padded, replicate_rest, padded_rest, padded-set}
use Rattle.laws.specs.Table.{table, table_over}

module _ {A : Type 0} where
  -- an element of a list reads the same, whatever is read past the end of the list
  pub get_d_any : (l : List A) (i : ℕ) (d e : A) → i < length l → get_or l i d ≡ get_or l i e
  get_d_any [] i d e h = absurd (not-suc-le-zero h)
  get_d_any (x ∷ l) zero d e h = refl
  get_d_any (x ∷ l) (suc i) d e h = get_d_any l i d e (le_of_suc-le-suc h)

  pub length-table : (f : ℕ → A) (n : ℕ) → length (table f n) ≡ n
  unfolding table
  length-table f zero = refl
  length-table f (suc n) = rw (length-append, length-table f n) (omega arith)

  -- the entry of a table at place i is f i
  pub table_at : (f : ℕ → A) (n i : ℕ) (d : A) → i < n → get_or (table f n) i d ≡ f i
  unfolding table
  table_at f zero i d h = absurd (not-suc-le-zero h)
  table_at f (suc n) i d h =
      ⊎_elim
      (λ (q : i ≡ n). rw q (get_or_at (table f n) (f n) [] d n (length-table f n)))
      (λ (l : i < n). get_or-append (table f n) (f n ∷ []) d i (rw length-table l) ∙ table_at f n i d l)
      (below_suc h)

  -- tables of functions that agree at each place are the same
  pub table_same : (f g : ℕ → A) (n : ℕ) → ((i : ℕ) → i < n → f i ≡ g i) → table f n ≡ table g n
  unfolding table
  table_same f g zero h = refl
  table_same f g (suc n) h = rw (table_same f g n (λ i l. h i (omega arith)), h n (omega arith))

  -- a table of e + n places is one of e, and one of the n behind them
  pub table_add : (f : ℕ → A) (e n : ℕ) → table f (e + n) ≡ table f e ++ table (λ k. f (e + k)) n
  unfolding table
  table_add f e zero = rw add-zero (sym (append-nil (table f e)))
  table_add f e (suc n) = rw (add-suc, table_add f e n) (append_assoc (table f e) (table (λ k. f (e + k)) n) (f (e + n) ∷ []))

  -- the first n places of a table are the table of n places
  pub take-table : (f : ℕ → A) (n m : ℕ) → n ≤ m → take n (table f m) ≡ table f n
  take-table f n m h =
      let e : m ≡ n + (m - n) = omega arith in
      ap (λ k. take n (table f k)) e
      ∙ ap (take n) (table_add f n (m - n))
      ∙ rw (length-table f n) at (take-append_seam (table f n) (table (λ k. f (n + k)) (m - n)))

  -- writing f n to place n carries a table over n places of a list on to n + 1 places
  pub over_set : (f : ℕ → A) (n : ℕ) (l : List A) → n < length l → set (table_over f n l) n (f n) ≡ table_over f (suc n) l
  unfolding table table_over
  over_set f n [] h = absurd (not-suc-le-zero h)
  over_set f n (x ∷ l) h =
      rw (drop-cons (x ∷ l) n x h, set_at (table f n) (get_or (x ∷ l) n x) (drop (suc n) (x ∷ l)) (f n) n (length-table f n), append_assoc)

  -- a loop that writes a table over an array: one turn
  pub over_next :
      (f : ℕ → A) (l : List A) {n : ℕ} {xs : List A} {x : A} → n < length l → xs ≡ table_over f n l → x ≡ f n → set xs n x ≡ table_over f (n + 1) l
  over_next f l {n} h e q = rw (e, q, add-one n) (over_set f n l h)

  -- where a table is written over a list, the list has the table's entry at each of the table's places
  pub over_at : (f : ℕ → A) (n : ℕ) (l : List A) (i : ℕ) (d : A) → i < n → get_or (table_over f n l) i d ≡ f i
  unfolding table_over
  over_at f n l i d h = get_or-append (table f n) (drop n l) d i (rw length-table h) ∙ table_at f n i d h

  -- a place of a list that already has the table's entry need not be written: one such place, and all from a on
  pub over_same_at : (f : ℕ → A) (d : A) (k : ℕ) (l : List A) → k < length l → f k ≡ get_or l k d → table_over f k l ≡ table_over f (suc k) l
  unfolding table_over table
  over_same_at f d k l h e = rw (drop-cons l k d h, ← e, append_assoc)

  pub over_skip :
      (f : ℕ → A) (d : A) (a n : ℕ) (l : List A) → a + n ≤ length l
      → ((i : ℕ) → a ≤ i → i < a + n → f i ≡ get_or l i d) → table_over f a l ≡ table_over f (a + n) l
  over_skip f d a zero l h same = let e : a + 0 ≡ a = omega arith in rw e
  over_skip f d a (suc n) l h same =
      let e : a + suc n ≡ suc (a + n) = omega arith in
      over_skip f d a n l (omega arith) (λ i p q. same i p (omega arith))
      ∙ rw e (over_same_at f d (a + n) l (omega arith) (same (a + n) (omega arith) (omega arith)))

  -- tables that agree leave the same, written over the front of the same list
  pub over_same : (f g : ℕ → A) (n : ℕ) (l : List A) → ((i : ℕ) → i < n → f i ≡ g i) → table_over f n l ≡ table_over g n l
  unfolding table_over
  over_same f g n l h = rw (table_same f g n h)

  drop-replicate : (k m : ℕ) (d : A) → drop k (replicate m d) ≡ replicate (m - k) d
  drop-replicate zero m d = let e : m - 0 ≡ m = omega arith in rw e
  drop-replicate (suc k) zero d = let e : 0 - suc k ≡ 0 = omega arith in rw e
  drop-replicate (suc k) (suc m) d = let e : suc m - suc k ≡ m - k = omega arith in rw e (drop-replicate k m d)

  -- a table written over a padded list that is no longer than the table is the table, padded
  pub over_padded : (f : ℕ → A) (n m : ℕ) (d : A) (xs : List A) → length xs ≤ n → table_over f n (padded m d xs) ≡ padded m d (table f n)
  unfolding table_over padded
  over_padded f n m d xs h =
      let e : n ≡ length xs + (n - length xs) = omega arith in
      let r : m - length xs - (n - length xs) ≡ m - n = omega arith in
      let rest : drop n (xs ++ replicate (m - length xs) d) ≡ replicate (m - n) d =
      ap (λ k. drop k (xs ++ replicate (m - length xs) d)) e ∙ drop-append-add xs (replicate (m - length xs) d) (n - length xs)
      ∙ drop-replicate (n - length xs) (m - length xs) d ∙ ap (λ k. replicate k d) r in
      rw (rest, length-table)

  -- a table written over a padded table of as many places is the first of them, padded
  pub over_table : (f g : ℕ → A) (n m : ℕ) (d : A) (l : List A) → l ≡ padded m d (table g n) → table_over f n l ≡ padded m d (table f n)
  over_table f g n m d l e = ap (table_over f n) e ∙ over_padded f n m d (table g n) (rw length-table (omega arith))

  -- ---- a table that is padded
  pub padded_long : (f : ℕ → A) (n m : ℕ) (d : A) → n ≤ m → length (padded m d (table f n)) ≡ m
  padded_long f n m d h = length-padded m d (table f n) (rw length-table h)

  -- writing f n to place n of a padded table of n entries makes it one of n + 1 entries
  pub padded-table : (f : ℕ → A) (n m : ℕ) (d : A) → n < m → set (padded m d (table f n)) n (f n) ≡ padded m d (table f (suc n))
  unfolding table
  padded-table f n m d h = rw length-table at (padded-set m d (table f n) (f n) (rw length-table h))

  -- a loop that fills a padded table: one turn
  pub padded_next :
      (f : ℕ → A) (m : ℕ) (d : A) {n : ℕ} {xs : List A} {x : A} → n < m → xs ≡ padded m d (table f n) → x ≡ f n
      → set xs n x ≡ padded m d (table f (n + 1))
  padded_next f m d {n} h e q = rw (e, q, add-one n) (padded-table f n m d h)

  -- an entry of a padded table is f i, whatever is read past the end
  pub padded-at : (f : ℕ → A) (n m i : ℕ) (d e : A) → i < n → get_or (padded m d (table f n)) i e ≡ f i
  unfolding padded
  padded-at f n m i d e h = get_or-append (table f n) (replicate (m - length (table f n)) d) e i (rw length-table h) ∙ table_at f n i e h

  -- past its entries a padded table has d
  pub padded_past : (f : ℕ → A) (n m i : ℕ) (d e : A) → n ≤ i → i < m → get_or (padded m d (table f n)) i e ≡ d
  padded_past f n m i d e h l =
      let few : n ≤ m = omega arith in
      get_d_any (padded m d (table f n)) i e d (rw (padded_long f n m d few) l) ∙ padded_rest m d (table f n) i (rw length-table h)

  -- a list that has the entries of a table, and d in its other places, is the table, padded
  pub padded_own :
      (f : ℕ → A) (n m : ℕ) (d e : A) (l : List A) → n ≤ m → length l ≡ m
      → ((i : ℕ) → i < n → get_or l i e ≡ f i) → ((i : ℕ) → n ≤ i → i < m → get_or l i e ≡ d) → l ≡ padded m d (table f n)
  padded_own f n m d e l few long front rest =
      ext_get_or e l (padded m d (table f n)) (long ∙ sym (padded_long f n m d few))
      (λ i h.
      ⊎_elim
      (λ (g : i < n). front i g ∙ sym (padded-at f n m i d e g))
      (λ (g : n ≤ i). let b : i < m = omega arith in rest i g b ∙ sym (padded_past f n m i d e g b))
      (lt-or-ge i n))

  -- a padded table whose entries all are d is nothing but d
  pub padded_same : (f : ℕ → A) (n m : ℕ) (d : A) → n ≤ m → ((i : ℕ) → i < n → f i ≡ d) → replicate m d ≡ padded m d (table f n)
  padded_same f n m d few same =
      padded_own f n m d d (replicate m d) few (length-replicate m d)
      (λ i h. replicate_rest m i d ∙ sym (same i h)) (λ i h l. replicate_rest m i d)

-- ---- tables of lists, and of flags
-- a list is the table of its own elements
pub table_own : {A : Type 0} (l : List A) (d : A) → l ≡ table (λ i. get_or l i d) (length l)
table_own {A = A} l d =
    let f : ℕ → A = λ i. get_or l i d in
    ext_get_or d l (table f (length l)) (sym (length-table f (length l))) (λ i h. sym (table_at f (length l) i d h))

-- raising the flag at place i of a table of flags leaves the table of the flags with that one raised
pub table_raise :
    (f : ℕ → Bool) (n i : ℕ) (b : Bool) → i < n → set (table f n) i (get_or (table f n) i false || b) ≡ table (λ k. f k || (eqb i k && b)) n
table_raise f n i b h =
    let old = table f n in
    let new = set old i (get_or old i false || b) in
    let goal = table (λ k. f k || (eqb i k && b)) n in
    let long : length new ≡ n = rw length-set (length-table f n) in
    ext_get_or false new goal (long ∙ sym (length-table (λ k. f k || (eqb i k && b)) n))
    (λ k l.
    let m : k < n = rw (← long) l in
    rw (table_at (λ k. f k || (eqb i k && b)) n k false m) (at k m (ℕ_discrete i k)))
  where
    at : (k : ℕ) → k < n → Dec (i ≡ k) → get_or (set (table f n) i (get_or (table f n) i false || b)) k false ≡ f k || (eqb i k && b)
    at k m (yes e) =
        rw (← e, eq-eqb i i refl, get_or-set_same (table f n) i (get_or (table f n) i false || b) false (rw length-table h), table_at f n i false h)
    at k m (no e) =
        rw (
          get_or-set_other (table f n) i k (get_or (table f n) i false || b) false (λ q. e (sym q)),
          ne_eqb i k e,
          table_at f n k false m,
          or-false,
        )
