-- Laws of numbers as bytes. Assumes nothing.
use Rattle.std.specs.Prelude.{List, ◌++◌, ◌≡◌, refl, ℕ, ◌+◌, ◌^◌, ◌<◌, ℤ, pos, negsuc, length, get_or, take, drop}
use Rattle.std.specs.Int.{from_le_bytes, w32, w64}
use Rattle.std.specs.Int.Signed.{mag}
use Rattle.std.proofs.Common.{◌∙◌, arith, of_z, get_or-append-add, get_or-drop}
use Rattle.std.proofs.Math.Nat.{add_assoc}
use Rattle.std.proofs.Math.Seq.{get_or-take}
use Rattle.numbers.specs.Numbers.{number_bytes, bits_of, signed_bytes, four_bytes, eight_bytes, signed_in}

-- ---- written
pub number_long : (n : ℕ) → length (number_bytes n) ≡ 4
unfolding number_bytes
number_long n = refl

pub signed_long : (z : ℤ) → length (signed_bytes z) ≡ 4
unfolding signed_bytes
signed_long z = number_long (bits_of z)

pub bits_few : (z : ℤ) → mag z < 2 ^ 31 → bits_of z < 2 ^ 32
unfolding bits_of
bits_few (pos n) h = let l : n < 2 ^ 31 = h in omega arith
bits_few (negsuc n) h = omega arith

-- the machine's bits of a signed number are the definition's
pub bits_same : (z : ℤ) → of_z w32 z ≡ bits_of z
unfolding bits_of
bits_same (pos n) = refl
bits_same (negsuc n) = refl

-- ---- read behind other bytes
module _ (xs ys : List ℕ) where
  pub byte_behind : (k j : ℕ) → get_or (xs ++ ys) (length xs + k + j) 0 ≡ get_or ys (k + j) 0
  byte_behind k j = rw (add_assoc (length xs) k j) (get_or-append-add xs ys (k + j) 0)

  pub number-behind : (k : ℕ) → four_bytes (xs ++ ys) (length xs + k) ≡ four_bytes ys k
  number-behind k = rw (get_or-append-add xs ys k 0, byte_behind k 1, byte_behind k 2, byte_behind k 3)

  pub signed-behind : (k : ℕ) → signed_in (xs ++ ys) (length xs + k) ≡ signed_in ys k
  signed-behind k = rw (number-behind k)

-- ---- eight bytes
-- byte i of the eight bytes from a place on
eight_at : (bytes : List ℕ) (at i : ℕ) → i < 8 → get_or (take 8 (drop at bytes)) i 0 ≡ get_or bytes (at + i) 0
eight_at bytes at i h = get_or-take 8 (drop at bytes) i 0 h ∙ get_or-drop at bytes i 0

-- the library's number of the eight bytes from a place on is the definition's
pub eight_same : (bytes : List ℕ) (at : ℕ) → from_le_bytes w64 (take 8 (drop at bytes)) ≡ eight_bytes bytes at
eight_same bytes at =
    let b = eight_at bytes at in
    let e5 : at + 4 + 1 ≡ at + 5 = omega arith in
    let e6 : at + 4 + 2 ≡ at + 6 = omega arith in
    let e7 : at + 4 + 3 ≡ at + 7 = omega arith in
    let e0 : at + 0 ≡ at = omega arith in
    rw (
      b 0 (omega arith),
      b 1 (omega arith),
      b 2 (omega arith),
      b 3 (omega arith),
      b 4 (omega arith),
      b 5 (omega arith),
      b 6 (omega arith),
      b 7 (omega arith),
      e0,
      e5,
      e6,
      e7,
    )
    (omega arith)
