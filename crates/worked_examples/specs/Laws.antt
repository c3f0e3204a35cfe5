-- The definitions of crate `laws`, computed at small numbers and at the ends of the signed range.
use Rattle.std.specs.Prelude.{true, false, List, [], ◌∷◌, ◌≡◌, refl, ℕ, ◌+◌, ◌-◌, ◌^◌, ltb, eqb, pos, negsuc}
use Rattle.laws.specs.Below.{all_below, any_below, sum_below, most_below, pick_below}
use Rattle.laws.specs.Choice.{◌if◌else◌}
use Rattle.laws.specs.Range.{outside}
use Rattle.laws.specs.Signed.{signed}
use Rattle.laws.specs.Lists.{holds, holds_two, one_if, drop_if, padded, zero_from}
use Rattle.laws.specs.Table.{table, table_over}
use Rattle.laws.specs.Stretch.{Stretch}

-- 0, 1, 2 are all below 3, and 3 is not; 2 is found below 3 and not below 2; 0 + 1 + 2 + 3 + 4; the largest of 9, 8 and 7, and of nothing; of the
-- numbers over 1, 3 is the last below 4, and below 2 there is none
below : (all_below (λ k. ltb k 3) 3 ≡ true) × (all_below (λ k. ltb k 3) 4 ≡ false) ×
    (any_below (eqb 2) 3 ≡ true) × (any_below (eqb 2) 2 ≡ false) × (sum_below (λ k. k) 5 ≡ 10) ×
    (most_below (λ k. 9 - k) 3 ≡ 9) × (most_below (λ k. k) 0 ≡ 0) ×
    (pick_below (ltb 1) (λ k. k + 10) 0 4 ≡ 13) × (pick_below (ltb 1) (λ k. k + 10) 0 2 ≡ 0)
unfolding all_below any_below sum_below most_below pick_below
below = (refl, refl, refl, refl, refl, refl, refl, refl, refl)

-- the first test that holds decides
choice : (◌≡◌ {A = ℕ} (1 if false else 2 if true else 3 if true else 0) 2) × (◌≡◌ {A = ℕ} (1 if false else 2 if false else 0) 0)
choice = (refl, refl)

tables : (table (λ k. k + 10) 3 ≡ 10 ∷ 11 ∷ 12 ∷ []) × (table_over (λ k. k) 2 (7 ∷ 8 ∷ 9 ∷ []) ≡ 0 ∷ 1 ∷ 9 ∷ [])
unfolding table table_over
tables = (refl, refl)

-- 11, 12 go on from place 1 of 10, 11, 12, ..
stretches : Stretch (λ k. k + 10) 1 (11 ∷ 12 ∷ [])
unfolding Stretch
stretches = (refl, (refl, tt))

ranges : (outside 1 9 0 ≡ true) × (outside 1 9 1 ≡ false) × (outside 1 9 9 ≡ false) × (outside 1 9 10 ≡ true)
ranges = (refl, refl, refl, refl)

tokens :
    let one : List ℕ = 7 ∷ [] in
    let pair : List ℕ = 7 ∷ 8 ∷ [] in
    (holds {A = ℕ} [] ≡ false) × (holds one ≡ true) × (holds_two one ≡ false) × (holds_two pair ≡ true) ×
    (one_if {A = ℕ} true 7 ≡ one) × (one_if {A = ℕ} false 7 ≡ []) × (drop_if true pair ≡ 8 ∷ []) × (drop_if false pair ≡ pair) ×
    (padded 3 0 one ≡ 7 ∷ 0 ∷ 0 ∷ []) × (padded 2 0 pair ≡ pair)
unfolding padded
tokens = (refl, refl, refl, refl, refl, refl, refl, refl, refl, refl)

-- the signed numbers 0, the largest, the least and -1 by their bits
ends : (signed 0 ≡ pos 0) × (signed (2 ^ 31 - 1) ≡ pos 2147483647) × (signed (2 ^ 31) ≡ negsuc 2147483647) × (signed (2 ^ 32 - 1) ≡ negsuc 0)
unfolding signed
ends = (refl, refl, refl, refl)

-- what the first `count` places hold is not looked at
zeros : (zero_from 3 1 (pos 5 ∷ pos 0 ∷ pos 0 ∷ []) ≡ true) × (zero_from 3 1 (pos 5 ∷ pos 0 ∷ negsuc 6 ∷ []) ≡ false) ×
    (zero_from 2 0 (pos 5 ∷ pos 0 ∷ []) ≡ false) × (zero_from 2 9 (pos 5 ∷ pos 6 ∷ []) ≡ true)
unfolding zero_from all_below
zeros = (refl, refl, refl, refl)
