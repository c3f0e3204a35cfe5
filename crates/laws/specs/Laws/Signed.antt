-- Laws of signed numbers of 32 and of 64 bits: what proofs say of `to_z w (of_z w z)`. Assumes nothing.
use Rattle.std.specs.Prelude.{◌≡◌, refl, true, false, ◌↔◌, ℕ, suc, ◌-◌, ◌^◌, ◌<◌, ◌≤◌, T, eqb, ℤ, pos, negsuc, ◌-ℤ◌, nat_abs}
use Rattle.std.proofs.Common.{sym, ap, ◌∙◌, true≢false, ⊎_elim, zero-add, arith, rules, lt-ltb, le-ltb, ltb-true, ne_eqb, eqb-true, SFits, of_z}
use Rattle.std.proofs.Math.IntN.{sub_ℕ}
use Rattle.std.specs.Int.Signed.{mag, lt_z, non_neg}
use Rattle.std.specs.Int.{w32, w64}
use Rattle.std.proofs.Math.Facts.{sfits_widen}
use Rattle.laws.specs.Laws.Cases.{lt-or-ge}
use Rattle.laws.specs.Signed.{signed, is_zero}

-- a number that fits 32 bits fits 64
pub widen : {z : ℤ} → SFits w32 z → SFits w64 z
widen f = sfits_widen tt f

-- the range of a call's result, or of an element that was read, in the form that a need asks for
pub told : (z : ℤ) → mag z < 2 ^ 31 → SFits w32 z
told z h = record { sfits = h }

pub ruleset ints = (rules, widen)

-- a - b of two naturals: below 0 where a is below b, and else a natural
pub sub_below : (a b : ℕ) → a < b → sub_ℕ a b ≡ negsuc (b - suc a)
sub_below a b h = rw lt-ltb

pub sub_above : (a b : ℕ) → b ≤ a → sub_ℕ a b ≡ pos (a - b)
sub_above a b h = rw le-ltb

-- 0 - z of a number z below 0 is a natural, and so is a number that is not below 0
pub negated : (z : ℤ) → lt_z z (pos 0) ≡ true → pos 0 -ℤ z ≡ pos (nat_abs z)
negated (pos n) e = let h : n < 0 = ltb-true n 0 e in absurd (omega arith)
negated (negsuc n) e = rw zero-add

pub not_negative : (z : ℤ) → lt_z z (pos 0) ≡ false → T (non_neg z)
not_negative (pos n) e = tt
not_negative (negsuc n) e = absurd (true≢false e)

-- a number below 2 ^ 31 stands for itself in 32 bits, and one from 2 ^ 31 on for 2 ^ 32 less
pub signed_low : (n : ℕ) → n < 2 ^ 31 → signed n ≡ pos n
unfolding signed
signed_low n h = rw lt-ltb

pub signed_high : (n : ℕ) → 2 ^ 31 ≤ n → signed n ≡ negsuc (2 ^ 32 - suc n)
unfolding signed
signed_high n h = rw le-ltb

pub signed_less : (n : ℕ) → 2 ^ 31 ≤ n → n < 2 ^ 32 → pos n -ℤ pos 4294967296 ≡ signed n
signed_less n h l = sub_below n 4294967296 l ∙ sym (signed_high n h)

-- a signed number fits 32 bits, whatever number it is read from
pub signed-fits : (n : ℕ) → SFits w32 (signed n)
signed-fits n =
    ⊎_elim
    (λ (h : n < 2 ^ 31). rw (signed_low n h) (told (pos n) h))
    (λ (h : 2 ^ 31 ≤ n). rw (signed_high n h) (told (negsuc (2 ^ 32 - suc n)) (let k : 2 ^ 32 - suc n < 2 ^ 31 = omega arith in k)))
    (lt-or-ge n (2 ^ 31))

-- the bits of a signed number are 0 exactly if the number is 0: `t == 0` in the code tests the bits
pub zero_bits : (z : ℤ) → SFits w32 z → eqb (of_z w32 z) 0 ≡ is_zero z
zero_bits (pos n) f = refl
zero_bits (negsuc n) f = let h : n < 2 ^ 31 = f.sfits in ne_eqb (2 ^ 32 - suc n) 0 (λ e. omega arith)

zero_is : (z : ℤ) → is_zero z ≡ true → z ≡ pos 0
zero_is (pos n) e = ap pos (eqb-true n 0 e)
zero_is (negsuc n) e = absurd (true≢false (sym e))

pub zero_iff : (z : ℤ) → (is_zero z ≡ true) ↔ (z ≡ pos 0)
zero_iff z = (zero_is z, λ e. rw e)
