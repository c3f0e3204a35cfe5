-- What a test says, both ways: `ltb a b` is a < b, an `&&` is both of its parts. Assumes nothing.
use Rattle.std.specs.Prelude.{Bool, true, false, not, ◌&&◌, ◌||◌, ◌↔◌, ◌≡◌, refl, ℕ, ◌+◌, ◌<◌, ◌≤◌, eqb, leb, ltb}
use Rattle.std.proofs.Common.{true≢false, sym, ap, arith, ltb-true, ltb-false, leb-true, leb-false, eqb-true, lt-ltb, le-ltb, le-leb, eq-eqb}
use Rattle.std.proofs.lemmas.Bool.{false≢true, not-true, lt-leb}
use Rattle.laws.specs.Laws.Cases.{and_left, and_right, or_left, or_right}
use Rattle.laws.specs.Choice.{◌if◌else◌}

-- ---- numbers
pub lt_iff : (a b : ℕ) → (ltb a b ≡ true) ↔ (a < b)
lt_iff a b = (ltb-true a b, lt-ltb a b)

pub ge-iff : (a b : ℕ) → (ltb a b ≡ false) ↔ (b ≤ a)
ge-iff a b = (ltb-false a b, le-ltb a b)

pub le_iff : (a b : ℕ) → (leb a b ≡ true) ↔ (a ≤ b)
le_iff a b = (leb-true a b, le-leb a b)

pub gt-iff : (a b : ℕ) → (leb a b ≡ false) ↔ (b < a)
gt-iff a b = (leb-false a b, lt-leb a b)

pub eq_iff : (a b : ℕ) → (eqb a b ≡ true) ↔ (a ≡ b)
eq_iff a b = (eqb-true a b, eq-eqb a b)

-- ---- tests put together
pub not_iff : {A : Type 0} (a : Bool) → ((a ≡ false) ↔ A) → (not a ≡ true) ↔ A
not_iff a f = (λ e. f.0 (not-true a e), λ h. ap not (f.1 h))

module _ {A B : Type 0} where
  -- an `&&` holds exactly if both parts hold, and an `||` fails exactly if both parts fail
  pub and-iff : (a b : Bool) → ((a ≡ true) ↔ A) → ((b ≡ true) ↔ B) → ((a && b) ≡ true) ↔ (A × B)
  and-iff a b f g = (λ e. (f.0 (and_left a b e), g.0 (and_right a b e)), λ h. rw (f.1 h.0, g.1 h.1))

  pub nor-iff : (a b : Bool) → ((a ≡ false) ↔ A) → ((b ≡ false) ↔ B) → ((a || b) ≡ false) ↔ (A × B)
  nor-iff a b f g = (λ e. (f.0 (or_left a b e), g.0 (or_right a b e)), λ h. rw (f.1 h.0, g.1 h.1))

  -- an `||` holds exactly if its second part holds where the first fails, and an `&&` fails exactly if its second part fails where the first holds
  pub or-iff : (a b : Bool) → ((a ≡ false) ↔ A) → ((b ≡ true) ↔ B) → ((a || b) ≡ true) ↔ (A → B)
  or-iff true b f g = (λ e h. absurd (true≢false (f.1 h)), λ h. refl)
  or-iff false b f g = (λ e h. g.0 e, λ h. g.1 (h (f.0 refl)))

  pub nand-iff : (a b : Bool) → ((a ≡ true) ↔ A) → ((b ≡ false) ↔ B) → ((a && b) ≡ false) ↔ (A → B)
  nand-iff true b f g = (λ e h. g.0 e, λ h. g.1 (h (f.0 refl)))
  nand-iff false b f g = (λ e h. absurd (false≢true (f.1 h)), λ h. refl)

  -- a test that is made only where another holds passes exactly if what the other says implies what it says
  pub if-iff : (a b : Bool) → ((a ≡ true) ↔ A) → ((b ≡ true) ↔ B) → ((b if a else true) ≡ true) ↔ (A → B)
  if-iff true b f g = (λ e h. g.0 e, λ h. g.1 (h (f.0 refl)))
  if-iff false b f g = (λ e h. absurd (false≢true (f.1 h)), λ h. refl)

-- ---- tests that are the same
-- tests that say the same are the same
pub test_same : {A : Type 0} (a b : Bool) → ((a ≡ true) ↔ A) → ((b ≡ true) ↔ A) → a ≡ b
test_same true b f g = sym (g.1 (f.0 refl))
test_same false true f g = f.1 (g.0 refl)
test_same false false f g = refl

-- `ltb a b` is the opposite of `leb b a`
pub ltb_leb : (a b : ℕ) → ltb a b ≡ not (leb b a)
ltb_leb a b = test_same (ltb a b) (not (leb b a)) (lt_iff a b) (not_iff (leb b a) (gt-iff b a))

-- two numbers are in the same order with k added to both
pub leb_shift : (k a b : ℕ) → leb (k + a) (k + b) ≡ leb a b
leb_shift k a b =
    let same = le_iff (k + a) (k + b) in
    test_same (leb (k + a) (k + b)) (leb a b) (λ e. omega (arith, same.0 e), λ h. same.1 (omega arith)) (le_iff a b)
