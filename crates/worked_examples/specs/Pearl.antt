-- Next values, computed: the whole table, what wraps, and numbers that are no kind. The starred edges are in `starred`.
use Rattle.std.specs.Prelude.{[], ◌∷◌, Ok, Err, ◌≡◌, refl, ◌+◌, pos, negsuc, length}
use Rattle.laws.specs.Signed.{signed}
use Rattle.laws.specs.Table.{table}
use Rattle.refusal.specs.declared.Refusal.TheVariants.{Kind as NoKind}
use Rattle.kinds.specs.Kinds.{halve, larger, choose, kinds, last_kind, exact}
use Rattle.pearl.specs.Wrap.{wrap}
use Rattle.pearl.specs.Next.{next_value, next}

-- the table has a line for each kind beside line 0, which is no kind's
lines : length kinds ≡ last_kind + 1
lines = refl

-- kinds 0 to 10 at s = 5, a = -3, b = 7, c = 11, and at s = 5, a = 8, b = 7, c = 11 (`negsuc n` is - (n + 1))
rows :
    (table (λ k. next_value k (pos 5) (negsuc 2) (pos 7) (pos 11)) 11 ≡
    pos 0 ∷ pos 6 ∷ negsuc 2 ∷ pos 2 ∷ pos 3 ∷ negsuc 1 ∷ pos 4 ∷ negsuc 9 ∷ pos 7 ∷ pos 7 ∷ pos 0 ∷ []) ×
    (table (λ k. next_value k (pos 5) (pos 8) (pos 7) (pos 11)) 11 ≡
    pos 0 ∷ pos 6 ∷ pos 8 ∷ pos 13 ∷ negsuc 7 ∷ pos 4 ∷ pos 15 ∷ pos 1 ∷ pos 8 ∷ pos 11 ∷ pos 0 ∷ [])
unfolding table wrap signed halve larger choose exact next_value
rows = (refl, refl)

-- 2^31 and -2^31 - 1 are one off the range; 2^32 and -2^32 are a whole turn
turns :
    (wrap (pos 2147483648) ≡ negsuc 2147483647) × (wrap (negsuc 2147483648) ≡ pos 2147483647) ×
    (wrap (pos 4294967296) ≡ pos 0) × (wrap (negsuc 4294967295) ≡ pos 0)
unfolding wrap signed
turns = (refl, refl, refl, refl)

-- the least value and the largest, added to themselves and taken from each other, halved
ends :
    (next_value 6 (pos 0) (negsuc 2147483647) (negsuc 2147483647) (pos 0) ≡ pos 0) ×
    (next_value 6 (pos 0) (pos 2147483647) (pos 2147483647) (pos 0) ≡ negsuc 1) ×
    (next_value 7 (pos 0) (pos 2147483647) (negsuc 2147483647) (pos 0) ≡ negsuc 0) ×
    (next_value 7 (pos 0) (negsuc 2147483647) (pos 2147483647) (pos 0) ≡ pos 1) ×
    (next_value 5 (pos 0) (negsuc 2147483647) (pos 0) (pos 0) ≡ negsuc 1073741823) ×
    (next_value 5 (pos 0) (pos 2147483647) (pos 0) (pos 0) ≡ pos 1073741823)
unfolding wrap signed halve exact next_value
ends = (refl, refl, refl, refl, refl, refl)

-- 1 and 9 are kinds; 0, 10 and 255 are none
numbers :
    (next 1 (pos 5) (pos 8) (pos 7) (pos 11) ≡ Ok (pos 6)) ×
    (next 9 (pos 5) (pos 8) (pos 7) (pos 11) ≡ Ok (pos 11)) ×
    (next 0 (pos 5) (pos 8) (pos 7) (pos 11) ≡ Err NoKind) ×
    (next 10 (pos 5) (pos 8) (pos 7) (pos 11) ≡ Err NoKind) ×
    (next 255 (pos 5) (pos 8) (pos 7) (pos 11) ≡ Err NoKind)
unfolding wrap signed choose exact next_value next
numbers = (refl, refl, refl, refl, refl)
