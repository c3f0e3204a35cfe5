-- Laws of numbers in decimal: all that callers use of the definitions. Assumes nothing.
use Rattle.std.specs.Prelude.{true, false, [], ◌∷◌, ◌++◌, ◌≡◌, refl, ℕ, zero, suc, ◌+◌, ◌*◌, ◌-◌, ◌^◌, ◌/◌, ◌%◌, ◌<◌, ◌≤◌, ℤ, pos, negsuc, nat_abs, length, Option, None, Some, IfNone, IfSome, unwrap_or}
use Rattle.std.proofs.Common.{true≢false, ⊎_elim, sym, ◌∙◌, pow-suc, add-suc, add-one, div-lt_iff_lt-mul, not-suc-le-zero, arith, lt-ltb, le-ltb, length-append}
use Prim.Native.Char.{code}
use Rattle.std.proofs.Math.Nat.{one-le-pow}
use Rattle.std.specs.Int.Signed.{lt_z, mag}
use Rattle.io.specs.Digits.{last_digits, IsDigitCount, hex_digit_ascii}
use Rattle.laws.specs.Laws.Cases.{lt-or-ge}
use Rattle.text.specs.Decimal.{digit, places, decimal, signed_text}

places_small : (f n : ℕ) → n < 10 → places f n ≡ digit n ∷ []
unfolding places
places_small zero n h = refl
places_small (suc f) n h = rw (lt-ltb n 10 h)

tenth : (n k : ℕ) → n < 10 ^ suc (suc k) → n / 10 < 10 ^ suc k
tenth n k h =
    let ten : 0 < 10 = omega arith in
    let g : n < 10 ^ suc k * 10 = rw (pow-suc 10 (suc k)) at h in
    (div-lt_iff_lt-mul ten).1 g

-- more places than a number needs change nothing
places_enough : (f g n : ℕ) → n < 10 ^ suc f → n < 10 ^ suc g → places f n ≡ places g n
unfolding places
places_enough zero g n h k = sym (places_small g n h)
places_enough (suc f) zero n h k = places_small (suc f) n k
places_enough (suc f) (suc g) n h k =
    ⊎_elim
    (λ (l : n < 10). rw (lt-ltb n 10 l))
    (λ (l : 10 ≤ n). rw (le-ltb n 10 l, places_enough f g (n / 10) (tenth n f h) (tenth n g k)))
    (lt-or-ge n 10)

-- the places of `decimal` are enough for every number
powers : (q : ℕ) → suc q * 10 ^ 19 ≤ 10 ^ suc (19 + q)
powers zero = omega arith
powers (suc q) = rw (add-suc 19 q, pow-suc 10 (suc (19 + q))) (omega (arith, powers q))

room : (n : ℕ) → n < 10 ^ suc (19 + n / 10 ^ 19)
room n = omega (arith, powers (n / 10 ^ 19))

pub decimal_small : (n : ℕ) → n < 10 → decimal n ≡ digit n ∷ []
unfolding decimal
decimal_small n h = places_small (19 + n / 10 ^ 19) n h

pub decimal_step : (n : ℕ) → 10 ≤ n → decimal n ≡ decimal (n / 10) ++ (digit n ∷ [])
unfolding decimal places
decimal_step n h =
    let q = n / 10 ^ 19 in
    let k = n / 10 / 10 ^ 19 in
    let e : 19 + q ≡ suc (18 + q) = omega arith in
    rw (e, le-ltb n 10 h, places_enough (18 + q) (19 + k) (n / 10) (tenth n (18 + q) (rw e at (room n))) (room (n / 10)))

pub length_small : (n : ℕ) → n < 10 → length (decimal n) ≡ 1
length_small n h = rw (decimal_small n h)

pub length-step : (n : ℕ) → 10 ≤ n → length (decimal n) ≡ length (decimal (n / 10)) + 1
length-step n h = rw (decimal_step n h, length-append)

-- a number below 10^k has at most k digits
pub decimal_short : (k n : ℕ) → n < 10 ^ suc k → length (decimal n) ≤ suc k
decimal_short zero n h = rw (length_small n h) (omega arith)
decimal_short (suc k) n h =
    ⊎_elim
    (λ (l : n < 10). rw (length_small n l) (omega arith))
    (λ (l : 10 ≤ n). rw (length-step n l) (omega (arith, decimal_short k (n / 10) (tenth n k h))))
    (lt-or-ge n 10)

-- the library's digit is the definition's
glyph_digit : (n : ℕ) → hex_digit_ascii (n % 10) ≡ digit n
glyph_digit n = rw (lt-ltb (n % 10) 10 (omega arith))

one_less : (k : ℕ) → suc k - 1 ≡ k
one_less k = omega arith

-- the fewest digits that hold a number are its decimal
pub digits_decimal : (k n : ℕ) → IsDigitCount 10 1 n k → last_digits 10 k n ≡ decimal n
digits_decimal zero n h = absurd (not-suc-le-zero h.0)
digits_decimal (suc zero) n h = rw (glyph_digit n, decimal_small n h.1)
digits_decimal (suc (suc k)) n h =
    let least : 10 ^ k * 10 ≤ n = rw (one_less (suc k), pow-suc 10 k) at (h.2 (omega arith)) in
    let some = one-le-pow k 10 (omega arith) in
    let rest : IsDigitCount 10 1 (n / 10) (suc k) = (omega arith, tenth n k h.1, λ l. rw (one_less k) (omega arith)) in
    rw (decimal_step n (omega arith), digits_decimal (suc k) (n / 10) rest, glyph_digit n)

-- the decimal of a number of k digits has k bytes
pub decimal_long : (k n : ℕ) → IsDigitCount 10 1 n k → length (decimal n) ≡ k
decimal_long zero n h = absurd (not-suc-le-zero h.0)
decimal_long (suc zero) n h = length_small n h.1
decimal_long (suc (suc k)) n h =
    let least : 10 ^ k * 10 ≤ n = rw (one_less (suc k), pow-suc 10 k) at (h.2 (omega arith)) in
    let some = one-le-pow k 10 (omega arith) in
    let rest : IsDigitCount 10 1 (n / 10) (suc k) = (omega arith, tenth n k h.1, λ l. rw (one_less k) (omega arith)) in
    length-step n (omega arith) ∙ rw (decimal_long (suc k) (n / 10) rest) (add-one (suc k))

-- ---- signed values
pub signed_minus : (z : ℤ) → lt_z z (pos 0) ≡ true → signed_text z ≡ code "-" ∷ decimal (nat_abs z)
unfolding signed_text
signed_minus (pos n) h = absurd (true≢false (sym h ∙ le-ltb n 0 (omega arith)))
signed_minus (negsuc n) h = refl

pub signed_plain : (z : ℤ) → lt_z z (pos 0) ≡ false → signed_text z ≡ decimal (nat_abs z)
unfolding signed_text
signed_plain (pos n) h = refl
signed_plain (negsuc n) h = absurd (true≢false h)

-- a value of 32 bits takes at most 11 bytes
pub signed_short : (z : ℤ) → mag z < 2 ^ 31 → length (signed_text z) ≤ 11
unfolding signed_text
signed_short (pos n) h = let e = decimal_short 9 n (omega arith) in omega arith
signed_short (negsuc n) h = let e = decimal_short 9 (suc n) (omega arith) in omega arith

-- the decimal of a number is one longer than its logarithm, which 0 has not
pub decimal_log :
    (log : Option ℕ) (n : ℕ) {k : ℕ}
    → IfNone log (n ≡ 0) → IfSome log (λ j. 10 ^ j ≤ n) → IfSome log (λ j. n < 10 * 10 ^ j) → k ≡ unwrap_or log 0 → k + 1 ≡ length (decimal n)
decimal_log None n zero_is least above e = let z : n ≡ 0 = zero_is in rw (e, z) (sym (length_small 0 (omega arith)))
decimal_log (Some j) n zero_is least above e =
    let a : n < 10 ^ suc j = rw (pow-suc 10 j) (omega (arith, above)) in
    let l : 1 < suc j → 10 ^ (suc j - 1) ≤ n = λ q. rw (one_less j) least in
    rw e (sym (rw (add-one j) (decimal_long (suc j) n (omega arith, a, l))))
