-- Laws of the table of kinds. Assumes nothing.
use Rattle.std.specs.Prelude.{true, ◌⊎◌, ◌≡◌, refl, map, ℕ, suc, ◌+◌, ◌/◌, ◌%◌, ◌<◌, ◌≤◌, leb, ℤ, pos, negsuc, ◌+ℤ◌, get_or}
use Rattle.std.specs.Int.{int_max}
use Rattle.std.proofs.lemmas.Int.{ints, clamps}
use Rattle.std.proofs.Common.{inl, inr, ⊎_elim, ap, arith, leb-true}
use Rattle.std.proofs.Math.ListN.{get_or-eq_default, get_or-map}
use Rattle.laws.specs.Below.{all_below}
use Rattle.laws.specs.Laws.Below.{all_at}
use Rattle.laws.specs.Laws.Cases.{lt-or-ge}
use Rattle.laws.specs.Laws.Signed.{sub_below}
use Rattle.kinds.specs.Kinds.{halve, larger, Line, no_line, kinds, last_kind, inputs}

-- halving rounds down: a is twice its half, or that and 1
pub halve_down : (a : ℤ) → (a ≡ halve a +ℤ halve a) ⊎ (a ≡ (halve a +ℤ halve a) +ℤ pos 1)
unfolding halve
halve_down (pos n) =
    ⊎_elim (λ (h : n % 2 < 1). inl (ap pos (omega arith))) (λ (h : 1 ≤ n % 2). inr (ap pos (omega arith))) (lt-or-ge (n % 2) 1)
halve_down (negsuc n) =
    ⊎_elim
    (λ (h : n % 2 < 1). inr (rw (sub_below 1 (suc (suc (n / 2 + n / 2))) (omega arith)) (ap negsuc (omega arith))))
    (λ (h : 1 ≤ n % 2). inl (ap negsuc (omega arith)))
    (lt-or-ge (n % 2) 1)

-- the greater of two numbers is what the library's `int_max` says
pub larger-int_max : (a b : ℤ) → int_max a b ≡ larger a b
unfolding larger
larger-int_max a b = grind (arith, ints, clamps)

-- no line stands past the last kind
none_past : (k : ℕ) → last_kind < k → get_or kinds k no_line ≡ no_line
none_past k h = get_or-eq_default kinds no_line (omega (arith, h))

-- so a number past the table has no inputs
pub inputs-none : (k : ℕ) → last_kind < k → inputs k ≡ 0
unfolding inputs
inputs-none k h = rw (none_past k h)

-- no kind has more than three inputs
few : all_below (λ k. leb (inputs k) 3) (suc last_kind) ≡ true
unfolding all_below inputs
few = refl

pub inputs_few : (k : ℕ) → inputs k ≤ 3
unfolding inputs
inputs_few k =
    ⊎_elim
    (λ (h : k < suc last_kind). leb-true (inputs k) 3 (all_at (λ i. leb (inputs i) 3) k (suc last_kind) h few))
    (λ (h : suc last_kind ≤ k). rw (inputs-none k h) (omega arith))
    (lt-or-ge k (suc last_kind))

-- the inputs are a column of the table, 0 past its end
pub inputs_column : (k : ℕ) → get_or (map (λ (l : Line). l.inputs) kinds) k 0 ≡ inputs k
unfolding inputs
inputs_column k = get_or-map (λ (l : Line). l.inputs) kinds k no_line
