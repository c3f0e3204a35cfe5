-- Laws of stretches: their parts, and that one from the start is a table. Assumes nothing.
use Rattle.std.specs.Prelude.{Bool, ◌≡◌, length, get_or}
use Rattle.std.proofs.Math.Bool.{true, false}
use Rattle.std.proofs.lemmas.Bool.{false≢true}
use mathlib.Core.List.{List, [], ◌∷◌, ◌++◌}
use Rattle.std.proofs.Math.Path.{refl}
use Rattle.std.proofs.Common.{sym, ap, ◌∙◌, not-suc-le-zero, le_of_suc-le-suc, zero-add, add-suc, suc-add, ext_get_or}
use Prim.Native.Nat.{ℕ, zero, suc, ◌+◌, ◌<◌}
use Rattle.std.proofs.Math.Nat.{add-zero}
use Rattle.std.proofs.Math.Numerals.{add-one}
use Rattle.laws.specs.Choice.{◌if◌else◌}
use Rattle.laws.specs.Lists.{holds, one_if, drop_if}
use Rattle.laws.specs.Table.{table}
use Rattle.laws.specs.Laws.Table.{length-table, table_at}
use Rattle.laws.specs.Stretch.{Stretch}

module _ {A : Type 0} (f : ℕ → A) where
  -- two stretches, of which the second begins where the first ends, are together one stretch
  pub stretch-append : (a : ℕ) (xs ys : List A) → Stretch f a xs → Stretch f (a + length xs) ys → Stretch f a (xs ++ ys)
  unfolding Stretch
  stretch-append a [] ys s t = rw add-zero at t
  stretch-append a (x ∷ xs) ys s t = (s.0, stretch-append (suc a) xs ys s.1 (rw (suc-add, ← (add-suc a (length xs))) t))

  pub stretch-first : (a : ℕ) (xs ys : List A) → Stretch f a (xs ++ ys) → Stretch f a xs
  unfolding Stretch
  stretch-first a [] ys s = tt
  stretch-first a (x ∷ xs) ys s = (s.0, stretch-first (suc a) xs ys s.1)

  pub stretch_second : (a : ℕ) (xs ys : List A) → Stretch f a (xs ++ ys) → Stretch f (a + length xs) ys
  unfolding Stretch
  stretch_second a [] ys s = rw add-zero s
  stretch_second a (x ∷ xs) ys s = rw (add-suc, ← (suc-add a (length xs))) (stretch_second (suc a) xs ys s.1)

  -- a list of one element or none is a stretch from a, if its element is f a
  pub stretch_one : (a : ℕ) (b : Bool) (x : A) → (b ≡ true → x ≡ f a) → Stretch f a (one_if b x)
  unfolding Stretch
  stretch_one a true x h = (h refl, tt)
  stretch_one a false x h = tt

  -- a stretch without its first element is a stretch that begins one later
  pub stretch-drop : (a : ℕ) (b : Bool) (xs : List A) → (b ≡ true → holds xs ≡ true) → Stretch f a xs → Stretch f (a + (1 if b else 0)) (drop_if b xs)
  unfolding Stretch
  stretch-drop a false xs h s = rw add-zero s
  stretch-drop a true [] h s = absurd (false≢true (h refl))
  stretch-drop a true (x ∷ xs) h s = rw add-one s.1

  stretch-at : (a : ℕ) (xs : List A) (i : ℕ) (d : A) → Stretch f a xs → i < length xs → get_or xs i d ≡ f (a + i)
  unfolding Stretch
  stretch-at a [] i d s h = absurd (not-suc-le-zero h)
  stretch-at a (x ∷ xs) zero d s h = rw add-zero s.0
  stretch-at a (x ∷ xs) (suc i) d s h = rw (add-suc, ← (suc-add a i)) (stretch-at (suc a) xs i d s.1 (le_of_suc-le-suc h))

  -- a stretch from the start of the stream is a table of as many of its elements
  pub stretch-table : (xs : List A) → Stretch f 0 xs → xs ≡ table f (length xs)
  stretch-table xs s =
      ext_get_or (f 0) xs (table f (length xs)) (sym (length-table f (length xs)))
      (λ i h. stretch-at 0 xs i (f 0) s h ∙ ap f (zero-add i) ∙ sym (table_at f (length xs) i (f 0) h))
