-- Laws of `wrap`. Assumes nothing.
use Rattle.std.specs.Prelude.{true, false, ◌≡◌, refl, suc, ◌-◌, ◌%◌, ◌^◌, ◌<◌, ◌≤◌, ℤ, pos, negsuc, ◌+ℤ◌, ◌-ℤ◌}
use Rattle.std.proofs.lemmas.Bool.{false≢true}
use Rattle.std.proofs.Common.{sym, ap, ◌∙◌, arith, ltb-true, ltb-false, SFits}
use Rattle.std.proofs.Math.IntN.{neg_ℤ, +ℤ_idl}
use Rattle.std.specs.Int.Signed.{mag, lt_z}
use Rattle.std.specs.Int.{w32, int_wrapping_add, int_wrapping_sub, int_wrapping_neg, int_wrap}
use Rattle.std.proofs.lemmas.Int.{wrapping_add_is, wrapping_sub_is, wrapping_neg_is}
use Rattle.laws.specs.Signed.{signed}
use Rattle.laws.specs.Laws.Signed.{sub_below, sub_above, signed_low, signed_high, signed-fits}
use Rattle.pearl.specs.Wrap.{wrap}

-- what is wrapped fits 32 bits
pub wrap_range : (z : ℤ) → SFits w32 (wrap z)
unfolding wrap
wrap_range (pos n) = signed-fits (n % 2 ^ 32)
wrap_range (negsuc n) = signed-fits (2 ^ 32 - suc (n % 2 ^ 32))

-- a number that fits 32 bits is wrapped to itself
pub wrap-fits : (z : ℤ) → SFits w32 z → wrap z ≡ z
unfolding wrap
wrap-fits (pos n) f =
    let h : n < 2 ^ 31 = f.sfits in
    let m : n % 2 ^ 32 ≡ n = omega arith in
    rw m (signed_low n h)
wrap-fits (negsuc n) f =
    let h : n < 2 ^ 31 = f.sfits in
    let m : n % 2 ^ 32 ≡ n = omega arith in
    rw m (signed_high (2 ^ 32 - suc n) (omega arith) ∙ ap negsuc (omega arith))

-- a number above the range of 32 bits is wrapped to 2 ^ 32 less, and one below it to 2 ^ 32 more, unless it lies further off
pub wrap_above : (z : ℤ) → mag z < 2 ^ 32 → lt_z (pos 2147483647) z ≡ true → SFits w32 (z -ℤ pos 4294967296) × (z -ℤ pos 4294967296 ≡ wrap z)
unfolding wrap
wrap_above (pos n) h g =
    let l : 2147483647 < n = ltb-true _ _ g in
    let m : n % 2 ^ 32 ≡ n = omega arith in
    rw (sub_below n 4294967296 h) (record { sfits = omega arith }, rw m (sym (signed_high n (omega arith))))
wrap_above (negsuc n) h g = absurd (false≢true g)

pub wrap_below :
    (z : ℤ) → mag z < 2 ^ 32 → lt_z z (negsuc 2147483647) ≡ true → SFits w32 (z +ℤ pos 4294967296) × (z +ℤ pos 4294967296 ≡ wrap z)
unfolding wrap
wrap_below (pos n) h g = absurd (false≢true g)
wrap_below (negsuc n) h g =
    let l : 2147483647 < n = ltb-true _ _ g in
    let m : n % 2 ^ 32 ≡ n = omega arith in
    rw (sub_above 4294967296 (suc n) h) (record { sfits = omega arith }, rw m (sym (signed_low (4294967296 - suc n) (omega arith))))

-- a number that is neither above nor below the range of 32 bits fits 32 bits
pub within : (z : ℤ) → lt_z (pos 2147483647) z ≡ false → lt_z z (negsuc 2147483647) ≡ false → SFits w32 z
within (pos n) g k = record { sfits = let l : n ≤ 2147483647 = ltb-false _ _ g in omega arith }
within (negsuc n) g k = record { sfits = let l : n ≤ 2147483647 = ltb-false _ _ k in omega arith }

-- what the library says is left of a sum, of a difference and of a negated number in 32 bits is what `wrap` says
wrap-int_wrap : (z : ℤ) → int_wrap w32 z ≡ wrap z
unfolding int_wrap wrap signed
wrap-int_wrap (pos n) = refl
wrap-int_wrap (negsuc n) =
    let e : 2 ^ 32 - 1 - n % 2 ^ 32 ≡ 2 ^ 32 - suc (n % 2 ^ 32) = omega arith in
    rw e

pub wrapping_sum : (a b : ℤ) → SFits w32 a → SFits w32 b → int_wrapping_add w32 a b ≡ wrap (a +ℤ b)
wrapping_sum a b f g = wrapping_add_is w32 a b f g ∙ wrap-int_wrap (a +ℤ b)

pub wrapping_difference : (a b : ℤ) → SFits w32 a → SFits w32 b → int_wrapping_sub w32 a b ≡ wrap (a -ℤ b)
wrapping_difference a b f g = wrapping_sub_is w32 a b f g ∙ wrap-int_wrap (a -ℤ b)

pub wrapping_negation : (a : ℤ) → SFits w32 a → int_wrapping_neg w32 a ≡ wrap (pos 0 -ℤ a)
wrapping_negation a f = wrapping_neg_is w32 a f ∙ wrap-int_wrap (neg_ℤ a) ∙ ap wrap (sym (+ℤ_idl (neg_ℤ a)))

-- the laws of `wrap` among which a check looks: a number that fits 32 bits, and the library's three
pub ruleset wrapped = (wrap-fits, wrapping_sum, wrapping_difference, wrapping_negation)
