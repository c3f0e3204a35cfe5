-- Laws of items one after another: what a loop over them has written before item i, and what room is left. Assumes nothing.
use mathlib.Core.List.{List, [], ◌∷◌, ◌++◌, append_assoc, append-nil, flat_map}
use Rattle.std.proofs.Common.{sym, ap, ◌∙◌, arith, length-append}
use Rattle.std.specs.Prelude.{◌≡◌, ℕ, suc, ◌+◌, ◌-◌, ◌<◌, ◌≤◌, length, get_or, take}
use Rattle.std.proofs.Math.Path.{refl}
use Rattle.std.proofs.lemmas.List.{take_more}
use Rattle.std.proofs.lemmas.List.Folds.{length-flat_map-take}
use Rattle.laws.specs.Table.{table}
use Rattle.laws.specs.Laws.Table.{table_own}
use Rattle.writer.specs.Put.{Put}
use Rattle.writer.specs.Laws.Put.{put-none, put-after, put_long}

module _ {A : Type 0} (f : A → List ℕ) where
  flat_append : (xs ys : List A) → flat_map f (xs ++ ys) ≡ flat_map f xs ++ flat_map f ys
  unfolding flat_map
  flat_append [] ys = refl
  flat_append (x ∷ xs) ys = rw (flat_append xs ys) (sym (append_assoc (f x) (flat_map f xs) (flat_map f ys)))

  module _ (g : ℕ → A) where
    -- a table of n + 1 items as text is the table of n items and then item n
    pub flat_next : (n : ℕ) → flat_map f (table g (suc n)) ≡ flat_map f (table g n) ++ f (g n)
    unfolding table flat_map
    flat_next n = flat_append (table g n) (g n ∷ []) ∙ rw append-nil

  -- ---- the items of a list one by one: x is item i
  module _ (xs : List A) (i : ℕ) (x : A) (h : i < length xs) (e : x ≡ get_or xs i x) where
    flat_more : flat_map f (take (i + 1) xs) ≡ flat_map f (take i xs) ++ f x
    unfolding flat_map
    flat_more = rw (take_more xs i x h, ← e) (flat_append (take i xs) (x ∷ []) ∙ rw append-nil)

    item_within : length (flat_map f (take i xs)) + length (f x) ≤ length (flat_map f xs)
    unfolding flat_map
    item_within = rw (← e) at (length-flat_map-take f xs i x h)

    -- what item i leaves of a room
    pub room_more : (room : ℕ) → room - length (flat_map f (take i xs)) - length (f x) ≡ room - length (flat_map f (take (i + 1) xs))
    room_more room = omega (arith, ap length flat_more ∙ length-append (flat_map f (take i xs)) (f x))

    -- item i has room behind the items before it
    pub put_inside :
        {at j : ℕ} {old mid : List ℕ} → Put (flat_map f (take i xs)) at old mid j → at + length (flat_map f xs) ≤ length old → j + length (f x) ≤ length mid
    put_inside p room = omega (arith, room, p.next, put_long p, item_within)

    -- item i is stored behind the items before it
    pub put_item :
        {at j k : ℕ} {old mid new : List ℕ} → Put (flat_map f (take i xs)) at old mid j → Put (f x) j mid new k
        → Put (flat_map f (take (i + 1) xs)) at old new k
    put_item p q = rw flat_more (put-after p q)

  -- before the first item nothing is stored
  pub put_nothing : (xs : List A) (at : ℕ) (old : List ℕ) → Put (flat_map f (take 0 xs)) at old old at
  unfolding flat_map
  put_nothing xs at old = put-none at old

  -- the items of a list as text, read one by one
  pub flat_own : (l : List A) (d : A) → flat_map f (table (λ i. get_or l i d) (length l)) ≡ flat_map f l
  flat_own l d = ap (flat_map f) (sym (table_own l d))
