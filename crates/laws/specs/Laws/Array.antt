-- What `std::array::from_fn` makes is a table. Assumes nothing.
use Rattle.std.specs.Prelude.{◌≡◌, List, ℕ, zero, suc, ◌+◌, ◌<◌, ◌≤◌, get_or}
use Rattle.std.proofs.Common.{⊎_elim, ◌∙◌, arith, zero-add, eq-or-lt_of_le}
use Rattle.std.specs.Array.{IsFromFnResult, IsFromFnResultFrom}
use Rattle.std.specs.Fn.{Called, Mut}
use Rattle.laws.specs.Table.{table}
use Rattle.laws.specs.Laws.Table.{table_same, table_own}

module _ {F B : Type 0} (g : Mut F (ℕ × Unit {0}) B) (f : F) (h : ℕ → B) where
  -- each call of the closure f at a number below n gives what h gives, and leaves the closure as it was
  abbrev pub Gives : ℕ → Type 0
  Gives n = (i : ℕ) (y : B) (q : F) → i < n → Called g f (i, tt) y q → (q ≡ f) × (y ≡ h i)

  made_at :
      (ys : List B) (n i k : ℕ) (d : B) → Gives (i + n) → IsFromFnResultFrom g f ys i n → i ≤ k → k < i + n → get_or ys k d ≡ h k
  made_at ys zero i k d gives made least most = absurd (omega arith)
  made_at ys (suc n) i k d gives made least most =
      let r = gives i made.1 made.0 (omega arith) made.3 in
      let e : i + 1 + n ≡ i + suc n = omega arith in
      ⊎_elim
      (λ (q : i ≡ k). rw (← q) (made.2.1 d ∙ r.1))
      (λ (l : i < k).
      made_at ys n (i + 1) k d (rw e gives) (rw r.0 at made.4) (omega arith) (omega arith))
      (eq-or-lt_of_le least)

pub made_table :
    {F B : Type 0} {g : Mut F (ℕ × Unit {0}) B} {f : F} (h : ℕ → B) {ys : List B} {n : ℕ} → IsFromFnResult g f ys n → Gives g f h n → ys ≡ table h n
made_table {g = g} {f = f} h {ys} {n} made gives =
    table_own ys (h 0) ∙ rw made.long
    (table_same (λ i. get_or ys i (h 0)) h n (λ i l. made_at g f h ys n 0 i (h 0) (rw zero-add gives) made.each (omega arith) (rw zero-add l)))
