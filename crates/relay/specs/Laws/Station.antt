-- Laws of a station: its tokens and its record say the same, it never holds more than two, and its unused places are 0. Assumes nothing.
use Rattle.std.specs.Prelude.{Some, Bool, not, ◌&&◌, ◌≡◌, ℕ, ◌≤◌, ◌<◌, min, leb, eqb, ℤ, pos, length}
use Rattle.std.proofs.Math.Bool.{true, false}
use Rattle.std.proofs.Math.Logic.{⊎_elim}
use mathlib.Core.List.{List, [], ◌∷◌, ◌++◌}
use Rattle.std.proofs.Math.Path.{refl, ap}
use Rattle.std.proofs.Common.{eqb-true, sym, ap₂, ◌∙◌, not-suc-le-zero, eq-eqb, length-take}
use native.Mathlib.Omega.{arith}
use Rattle.std.proofs.Math.ListN.{get_or, take}
use Rattle.std.proofs.Math.Seq.{take_all}
use Rattle.laws.specs.Laws.Cases.{and_left, and_right, lt-or-ge}
use Rattle.laws.specs.Table.{table}
use Rattle.laws.specs.Laws.Table.{table_own}
use Rattle.laws.specs.Lists.{holds_two, drop_if, Stored}
use Rattle.laws.specs.Laws.Lists.{two_count, take-padded, stored-padded, stored_own, stored_count}
use Rattle.laws.specs.Laws.Tests.{le_iff, test_same}
use Rattle.relay.specs.declared.Station.{Station}
use Rattle.relay.specs.Link.{Link, token, link_of}
use Rattle.relay.specs.Laws.Link.{link_take, token_few}
use Rattle.relay.specs.Station.{held, station_of, place_after}

-- the tokens that a station was written from are those that it holds
pub held_of : (tokens : List ℤ) → held (station_of tokens) ≡ tokens
unfolding held station_of
held_of tokens = take-padded 2 (pos 0) tokens

-- a place never holds more than two tokens after a cycle, whatever its link shows and whether it is stopped
pub place_few : (link place : List ℤ) (stop : Bool) → length link ≤ 1 → length place ≤ 2 → length (place_after link place stop) ≤ 2
unfolding place_after
place_few link [] true l h = omega arith
place_few link [] false l h = omega arith
place_few link (x ∷ []) true l h = omega arith
place_few link (x ∷ []) false l h = omega arith
place_few link (x ∷ y ∷ []) true l h = omega arith
place_few link (x ∷ y ∷ []) false l h = omega arith
place_few link (x ∷ y ∷ z ∷ place) stop l h = absurd (not-suc-le-zero {n = 0} (omega arith))

-- a station whose unused places are 0 holds as many tokens as it counts, and is what its tokens write
pub held_count : (s : Station) → Stored 2 (pos 0) s.tokens s.count → length (held s) ≡ s.count
unfolding held
held_count s h = stored_count 2 (pos 0) s.tokens s.count h

pub station_own : (s : Station) → Stored 2 (pos 0) s.tokens s.count → s ≡ station_of (held s)
unfolding held station_of
station_own s h =
    ap₂ {C = Station} (λ (t : List ℤ) (n : ℕ). record { tokens = t; count = n })
    (stored_own 2 (pos 0) s.tokens s.count h) (sym (held_count s h))

-- a station that was written from two tokens at most has 0 in its unused places
pub station-stored : (xs : List ℤ) → length xs ≤ 2 → Stored 2 (pos 0) (station_of xs).tokens (station_of xs).count
unfolding station_of
station-stored xs h = stored-padded 2 (pos 0) xs h

-- ---- the tokens that a record of two places holds, by its count
module _ (s : Station) (long : length s.tokens ≡ 2) where
  both : s.tokens ≡ get_or s.tokens 0 (pos 0) ∷ get_or s.tokens 1 (pos 0) ∷ []
  unfolding table
  both = table_own s.tokens (pos 0) ∙ ap (table (λ (i : ℕ). get_or s.tokens i (pos 0))) long

  pub held_none : s.count ≡ 0 → held s ≡ []
  unfolding held
  held_none e = rw e

  pub held_one : s.count ≡ 1 → held s ≡ get_or s.tokens 0 (pos 0) ∷ []
  unfolding held
  held_one e = rw e (ap (λ (t : List ℤ). take 1 t) both)

  pub held_two : 2 ≤ s.count → held s ≡ get_or s.tokens 0 (pos 0) ∷ get_or s.tokens 1 (pos 0) ∷ []
  unfolding held
  held_two h = take_all s.count s.tokens (omega arith) ∙ both

  -- the link, the stop and the next cycle of a station, by its count, are those of its tokens
  pub link_held : 0 < s.count → link_of (held s) ≡ Some (get_or s.tokens 0 (pos 0))
  unfolding held
  link_held h = link_take s.count s.tokens h (omega arith)

  length-held : length (held s) ≡ min s.count 2
  unfolding held
  length-held = rw (length-take, long)

  pub full_held : holds_two (held s) ≡ leb 2 s.count
  full_held =
      let same = le_iff 2 (length (held s)) in
      two_count (held s)
      ∙ test_same (leb 2 (length (held s))) (leb 2 s.count)
      (λ e. omega (arith, same.0 e, length-held), λ h. same.1 (omega (arith, length-held))) (le_iff 2 s.count)

  -- a station that keeps its one token holds that, and then what passes
  pub after_kept : (link : List ℤ) (stop : Bool) → eqb s.count 1 && stop ≡ true → place_after link (held s) stop ≡ get_or s.tokens 0 (pos 0) ∷ link
  unfolding place_after
  after_kept link stop e =
      let q : s.count ≡ 1 = eqb-true s.count 1 (and_left (eqb s.count 1) stop e) in
      rw (held_one q, and_right (eqb s.count 1) stop e)

  -- a station that is not full, and keeps no token, holds what passes
  pub after_clear : (link : List ℤ) (stop : Bool) → s.count < 2 → eqb s.count 1 && stop ≡ false → place_after link (held s) stop ≡ link
  unfolding place_after
  after_clear link stop l e =
      ⊎_elim
      (λ (z : s.count < 1). let q : s.count ≡ 0 = omega arith in rw (held_none q) (nothing stop))
      (λ (z : 1 ≤ s.count). let q : s.count ≡ 1 = omega arith in rw (held_one q) (rw (rw (eq-eqb s.count 1 q) at e)))
      (lt-or-ge s.count 1)
    where
      nothing : (stop : Bool) → drop_if (not stop) [] ++ link ≡ link
      nothing true = refl
      nothing false = refl

  -- whatever stood in a station, after a cycle it has two tokens at most, and 0 in every place that holds none
  pub after-stored :
      (link : Link) (stop : Bool)
      → let after = station_of (place_after (token link) (held s) stop) in Stored 2 (pos 0) after.tokens after.count
  after-stored link stop =
      station-stored (place_after (token link) (held s) stop) (place_few (token link) (held s) stop (token_few link) (omega (arith, length-held)))
