-- A number that was written is read back, whatever follows it. Assumes nothing.
use Rattle.std.specs.Prelude.{List, ◌++◌, ◌≡◌, ℕ, suc, ◌+◌, ◌*◌, ◌-◌, ◌/◌, ◌%◌, ◌^◌, ◌<◌, ℤ, pos, negsuc}
use Rattle.std.proofs.Common.{ap, ◌∙◌, arith}
use Rattle.std.proofs.Math.Arith.{digits_div}
use Rattle.std.specs.Int.Signed.{mag}
use Rattle.laws.specs.Signed.{signed}
use Rattle.laws.specs.Laws.Signed.{signed_low, signed_high}
use Rattle.numbers.specs.Numbers.{number_bytes, bits_of, signed_bytes, four_bytes, signed_in}
use Rattle.numbers.specs.Laws.Numbers.{bits_few}

pub number_front : (n : ℕ) (ys : List ℕ) → n < 2 ^ 32 → four_bytes (number_bytes n ++ ys) 0 ≡ n
unfolding number_bytes
number_front n ys h =
    let b : n / 256 ≡ 256 * (n / 65536) + n / 256 % 256 = omega (arith, second) in
    let c : n / 65536 ≡ 256 * (n / 16777216) + n / 65536 % 256 = omega (arith, third) in
    let few : n / 16777216 < 256 = omega arith in
    let d : n / 16777216 % 256 ≡ n / 16777216 = omega (arith, few) in
    omega (arith, b, c, d)
  where
    second : n / 65536 ≡ n / 256 / 256
    second =
        let a = n / 256 in
        let e : n ≡ a / 256 * 65536 + (a % 256 * 256 + n % 256) = omega arith in
        ap (λ k. k / 65536) e ∙ digits_div (a / 256) (omega arith)

    third : n / 16777216 ≡ n / 65536 / 256
    third =
        let a = n / 65536 in
        let e : n ≡ a / 256 * 16777216 + (a % 256 * 65536 + n % 65536) = omega arith in
        ap (λ k. k / 16777216) e ∙ digits_div (a / 256) (omega arith)

signed-bits : (z : ℤ) → mag z < 2 ^ 31 → signed (bits_of z) ≡ z
unfolding bits_of
signed-bits (pos n) h = signed_low n h
signed-bits (negsuc n) h = signed_high (2 ^ 32 - suc n) (omega arith) ∙ ap negsuc (omega arith)

pub signed_front : (z : ℤ) (ys : List ℕ) → mag z < 2 ^ 31 → signed_in (signed_bytes z ++ ys) 0 ≡ z
unfolding signed_bytes
signed_front z ys h = rw (number_front (bits_of z) ys (bits_few z h)) (signed-bits z h)
