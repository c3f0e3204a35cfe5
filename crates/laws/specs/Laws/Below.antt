-- Laws of what is said of all numbers below n. Assumes nothing.
use Rattle.std.specs.Prelude.{◌≡◌, refl, ◌↔◌, Bool, true, false, not, ℕ, zero, suc, ◌+◌, ◌-◌, ◌<◌, ◌≤◌}
use Rattle.std.proofs.Common.{sym, ap, ◌∙◌, ⊎_elim, not-suc-le-zero, add-zero, add-suc, arith}
use mathlib.Core.List.{List, [], ◌∷◌, ◌++◌}
use Rattle.std.specs.List.{list_any, list_all, range_with_len}
use Rattle.std.proofs.lemmas.List.Folds.{list_any-append, list_all-append}
use Rattle.std.proofs.Math.Bool.{or-true, or-false, and-true, not-not}
use Rattle.std.proofs.lemmas.Bool.{false≢true, not-true, not-false}
use Rattle.laws.specs.Choice.{◌if◌else◌}
use Rattle.laws.specs.Below.{all_below, any_below, sum_below, most_below, pick_below}
use Rattle.laws.specs.Laws.Cases.{true_or_false, or_left, or_right, not-or, below_suc}

-- a test that holds at one number below n holds at some number below n
pub any_hit : (f : ℕ → Bool) (k n : ℕ) → k < n → f k ≡ true → any_below f n ≡ true
unfolding any_below
any_hit f k zero h e = absurd (not-suc-le-zero h)
any_hit f k (suc n) h e =
    ⊎_elim (λ (q : k ≡ n). rw (← q, e) (or-true (any_below f k))) (λ (l : k < n). rw (any_hit f k n l e)) (below_suc h)

-- where a test holds at some number below n, a number at which it holds
pub any_where : (f : ℕ → Bool) (n : ℕ) → any_below f n ≡ true → (k : ℕ) × (k < n) × (f k ≡ true)
unfolding any_below
any_where f zero e = absurd (false≢true e)
any_where f (suc n) e =
    ⊎_elim
    (λ (q : any_below f n ≡ true). let r = any_where f n q in (r.0, omega (arith, r.1), r.2))
    (λ (q : any_below f n ≡ false). (n, omega arith, rw q at e))
    (true_or_false (any_below f n))

-- where a test holds at no number below n, it fails at each
pub any_none : (f : ℕ → Bool) (k n : ℕ) → any_below f n ≡ false → k < n → f k ≡ false
unfolding any_below
any_none f k zero e h = absurd (not-suc-le-zero h)
any_none f k (suc n) e h =
    ⊎_elim (λ (q : k ≡ n). rw q (or_right (any_below f n) (f n) e)) (λ (l : k < n). any_none f k n (or_left (any_below f n) (f n) e) l) (below_suc h)

-- a test that fails at each number below n holds at none of them
pub none_any : (f : ℕ → Bool) (n : ℕ) → ((k : ℕ) → k < n → f k ≡ false) → any_below f n ≡ false
unfolding any_below
none_any f zero h = refl
none_any f (suc n) h = rw (none_any f n (λ k l. h k (omega arith)), h n (omega arith))

-- a test holds at all numbers below n exactly if its opposite holds at none
pub all_any : (f : ℕ → Bool) (n : ℕ) → all_below f n ≡ not (any_below (λ k. not (f k)) n)
unfolding all_below any_below
all_any f zero = refl
all_any f (suc n) = rw (all_any f n, not-or, not-not)

-- what holds at all numbers below n holds at each
pub all_at : (f : ℕ → Bool) (k n : ℕ) → k < n → all_below f n ≡ true → f k ≡ true
all_at f k n h e = not-false (f k) (any_none (λ i. not (f i)) k n (not-true (any_below (λ i. not (f i)) n) (sym (all_any f n) ∙ e)) h)

-- what holds at each number below n holds at all of them
pub all_from : (f : ℕ → Bool) (n : ℕ) → ((k : ℕ) → k < n → f k ≡ true) → all_below f n ≡ true
unfolding all_below
all_from f zero h = refl
all_from f (suc n) h = rw (all_from f n (λ k l. h k (omega arith)), h n (omega arith))

-- of two tests that agree below n, both hold at some number below n or neither does
pub any_same : (f g : ℕ → Bool) (n : ℕ) → ((k : ℕ) → k < n → f k ≡ g k) → any_below f n ≡ any_below g n
unfolding any_below
any_same f g zero h = refl
any_same f g (suc n) h = rw (any_same f g n (λ k l. h k (omega arith)), h n (omega arith))

pub all_same : (f g : ℕ → Bool) (n : ℕ) → ((k : ℕ) → k < n → f k ≡ g k) → all_below f n ≡ all_below g n
all_same f g n h =
    all_any f n ∙ ap not (any_same (λ k. not (f k)) (λ k. not (g k)) n (λ k l. ap not (h k l))) ∙ sym (all_any g n)

-- a test that fails at each number where P holds, and only there, fails at all below n exactly if P holds at all of them
pub none-iff : {P : ℕ → Type 0} (f : ℕ → Bool) (n : ℕ) → ((k : ℕ) → (f k ≡ false) ↔ P k) → (any_below f n ≡ false) ↔ ((k : ℕ) → k < n → P k)
none-iff f n iff = (λ e k h. (iff k).0 (any_none f k n e h), λ h. none_any f n (λ k l. (iff k).1 (h k l)))

-- a test that holds at each number where P holds, and only there, holds at all below n exactly if P holds at all of them
pub all_iff : {P : ℕ → Type 0} (f : ℕ → Bool) (n : ℕ) → ((k : ℕ) → (f k ≡ true) ↔ P k) → (all_below f n ≡ true) ↔ ((k : ℕ) → k < n → P k)
all_iff f n iff = (λ e k h. (iff k).0 (all_at f k n h e), λ h. all_from f n (λ k l. (iff k).1 (h k l)))

-- ---- sums, and the largest
-- counts that agree below n have the same sum there
pub sum_same : (f g : ℕ → ℕ) (n : ℕ) → ((k : ℕ) → k < n → f k ≡ g k) → sum_below f n ≡ sum_below g n
unfolding sum_below
sum_same f g zero h = refl
sum_same f g (suc n) h = rw (sum_same f g n (λ k l. h k (omega arith)), h n (omega arith))

-- a sum over the numbers below e + n is one over those below e, and one over the n behind them
pub sum_add : (f : ℕ → ℕ) (e n : ℕ) → sum_below f (e + n) ≡ sum_below f e + sum_below (λ k. f (e + k)) n
unfolding sum_below
sum_add f e zero = omega (arith, ap (sum_below f) (add-zero e))
sum_add f e (suc n) = rw add-suc (omega (arith, sum_add f e n))

-- what f counts at a number below n is in the sum
pub sum_at : (f : ℕ → ℕ) (k n : ℕ) → k < n → f k ≤ sum_below f n
unfolding sum_below
sum_at f k zero h = absurd (not-suc-le-zero h)
sum_at f k (suc n) h = ⊎_elim (λ (e : k ≡ n). rw e (omega arith)) (λ (l : k < n). omega (arith, sum_at f k n l)) (below_suc h)

-- what f counts at a number below n is at most the largest that it counts there
pub most-at : (f : ℕ → ℕ) (k n : ℕ) → k < n → f k ≤ most_below f n
unfolding most_below
most-at f k zero h = absurd (not-suc-le-zero h)
most-at f k (suc n) h = ⊎_elim (λ (e : k ≡ n). rw e (omega arith)) (λ (l : k < n). omega (arith, most-at f k n l)) (below_suc h)

-- the largest is within every bound of all
pub most_few : (f : ℕ → ℕ) (b n : ℕ) → ((k : ℕ) → k < n → f k ≤ b) → most_below f n ≤ b
unfolding most_below
most_few f b zero h = omega arith
most_few f b (suc n) h = omega (arith, most_few f b n (λ k l. h k (omega arith)), h n (omega arith))

-- ---- what is picked
-- a pick is d, or f at a number below n: what holds of d and of each of these holds of the pick
pub pick_one :
    {A : Type 0} (P : A → Type 0) (test : ℕ → Bool) (f : ℕ → A) (d : A) (n : ℕ)
    → P d → ((k : ℕ) → k < n → P (f k)) → P (pick_below test f d n)
unfolding pick_below
pick_one P test f d zero z h = z
pick_one {A = A} P test f d (suc n) z h =
    either (test n) (f n) (pick_below test f d n) (h n (omega arith)) (pick_one P test f d n z (λ k l. h k (omega arith)))
  where
    either : (b : Bool) (x y : A) → P x → P y → P (x if b else y)
    either true x y p q = p
    either false x y p q = q

-- a function of a pick is a pick of the function
pub pick_map :
    {A B : Type 0} (g : A → B) (test : ℕ → Bool) (f : ℕ → A) (d : A) (n : ℕ) → g (pick_below test f d n) ≡ pick_below test (λ k. g (f k)) (g d) n
unfolding pick_below
pick_map g test f d zero = refl
pick_map g test f d (suc n) =
    ⊎_elim (λ (e : test n ≡ true). rw e) (λ (e : test n ≡ false). rw e (pick_map g test f d n)) (true_or_false (test n))

-- picks by tests that agree, from functions that agree where the tests hold, are the same
pub pick_same :
    {A : Type 0} (s t : ℕ → Bool) (f g : ℕ → A) (d : A) (n : ℕ)
    → ((k : ℕ) → k < n → s k ≡ t k) → ((k : ℕ) → k < n → t k ≡ true → f k ≡ g k) → pick_below s f d n ≡ pick_below t g d n
unfolding pick_below
pick_same s t f g d zero h l = refl
pick_same s t f g d (suc n) h l =
    rw (h n (omega arith))
    (⊎_elim
    (λ (e : t n ≡ true). rw e (l n (omega arith) e))
    (λ (e : t n ≡ false). rw e (pick_same s t f g d n (λ k b. h k (omega arith)) (λ k b. l k (omega arith))))
    (true_or_false (t n)))

module _ {A : Type 0} (test : ℕ → Bool) (f : ℕ → A) where
  -- a pick from the numbers below e + n is one from the n behind e, which falls back on one from those below e
  pick_add : (d : A) (e n : ℕ) → pick_below test f d (e + n) ≡ pick_below (λ k. test (e + k)) (λ k. f (e + k)) (pick_below test f d e) n
  unfolding pick_below
  pick_add d e zero = rw add-zero
  pick_add d e (suc n) = rw (add-suc, pick_add d e n)

  -- where the test holds nowhere, nothing is picked
  pub pick_none : (d : A) (n : ℕ) → ((k : ℕ) → k < n → test k ≡ false) → pick_below test f d n ≡ d
  unfolding pick_below
  pick_none d zero h = refl
  pick_none d (suc n) h = rw (h n (omega arith)) (pick_none d n (λ k l. h k (omega arith)))

-- where the test holds only at numbers from e to e + n, only these count
pub pick_window :
    {A : Type 0} (test : ℕ → Bool) (f : ℕ → A) (d : A) (e n m : ℕ) → e + n ≤ m
    → ((k : ℕ) → k < m → test k ≡ true → (e ≤ k) × (k < e + n))
    → pick_below test f d m ≡ pick_below (λ k. test (e + k)) (λ k. f (e + k)) d n
pick_window test f d e n m there only =
    let r = m - (e + n) in
    let q : m ≡ e + n + r = omega arith in
    ap (pick_below test f d) q
    ∙ pick_add test f d (e + n) r
    ∙ pick_none (λ k. test (e + n + k)) (λ k. f (e + n + k)) (pick_below test f d (e + n)) r (λ k l. not_at (e + n + k) (omega arith) (λ b. omega arith))
    ∙ pick_add test f d e n
    ∙ ap (λ x. pick_below (λ k. test (e + k)) (λ k. f (e + k)) x n) (pick_none test f d e (λ k l. not_at k (omega arith) (λ b. omega arith)))
  where
    not_at : (k : ℕ) → k < m → ((e ≤ k) × (k < e + n) → ⊥) → test k ≡ false
    not_at k l none = ⊎_elim (λ (t : test k ≡ true). absurd (none (only k l t))) (λ (t : test k ≡ false). t) (true_or_false (test k))

-- where the test holds at one number below n alone, the pick is f at that number
pub pick_only :
    {A : Type 0} (test : ℕ → Bool) (f : ℕ → A) (d : A) (k n : ℕ)
    → k < n → test k ≡ true → ((j : ℕ) → j < n → test j ≡ true → j ≡ k) → pick_below test f d n ≡ f k
unfolding pick_below
pick_only test f d k n h e only =
    pick_window test f d k 1 n (omega (arith, h)) (λ j l t. let q = only j l t in (omega (arith, q), omega (arith, q))) ∙ rw (add-zero, e)

-- a pick of true, and of false where the test holds at no number, says whether the test holds at some number below n
pub pick_any : (test : ℕ → Bool) (n : ℕ) → pick_below test (λ k. true) false n ≡ any_below test n
unfolding pick_below any_below
pick_any test zero = refl
pick_any test (suc n) =
    ⊎_elim
    (λ (e : test n ≡ true). rw (e, or-true))
    (λ (e : test n ≡ false). rw (e, or-false) (pick_any test n))
    (true_or_false (test n))

-- ---- the numbers below n as the list that a range yields

numbers_next : (a n last : ℕ) → a + n ≡ last → range_with_len a (suc n) ≡ range_with_len a n ++ (last ∷ [])
numbers_next a zero last e = ap (λ (k : ℕ). k ∷ []) (omega (arith, e))
numbers_next a (suc n) last e = ap (λ (l : List ℕ). a ∷ l) (numbers_next (a + 1) n last (omega (arith, e)))

-- whether a test holds at some number of the list 0, 1, .., n - 1
pub any_range : (f : ℕ → Bool) (n : ℕ) → list_any f (range_with_len 0 n) ≡ any_below f n
unfolding any_below
any_range f zero = refl
any_range f (suc n) =
    ap (list_any f) (numbers_next 0 n n (omega arith)) ∙ rw (list_any-append, any_range f n, or-false)

-- whether a test holds at all numbers of the list 0, 1, .., n - 1
pub all_range : (f : ℕ → Bool) (n : ℕ) → list_all f (range_with_len 0 n) ≡ all_below f n
unfolding all_below
all_range f zero = refl
all_range f (suc n) =
    ap (list_all f) (numbers_next 0 n n (omega arith)) ∙ rw (list_all-append, all_range f n, and-true)
