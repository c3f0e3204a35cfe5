-- Laws of the walk over a lent row, from the last record to the first. Assumes nothing.
use Rattle.std.specs.Prelude.{Bool, ◌≡◌, ℕ, zero, suc, ◌-◌, ◌≤◌, ◌<◌, ℤ, get_or, set}
use mathlib.Core.List.{List, [], map, append_assoc, append-nil}
use Rattle.std.proofs.Math.Bool.{and-true}
use Rattle.std.proofs.Math.Path.{refl, ap}
use Rattle.std.proofs.Common.{sym, ◌∙◌, not-suc-le-zero, arith, length-take, get_or-take, drop-cons, take_all, drop_of_length-le}
use Rattle.std.proofs.Math.ListN.{length, take, drop, get_or-append, get_or-map}
use Rattle.std.proofs.Math.Seq.{take-suc, set_at}
use Rattle.std.proofs.lemmas.List.{length-map}
use Rattle.std.specs.List.{list_all}
use Rattle.std.proofs.lemmas.List.Folds.{list_all-append}
use Rattle.laws.specs.Below.{all_below}
use Rattle.relay.specs.declared.Station.{Station}
use Rattle.relay.specs.Link.{Link, token, link_of}
use Rattle.relay.specs.Laws.Link.{link_of-take, token_of, token_few}
use Rattle.relay.specs.Station.{held, station_of, place_after, no_station}
use Rattle.relay.specs.Row.{stopped, row_after, link_at}
use Rattle.relay.specs.Laws.Row.{link_few, after-at, stopped_inside, stopped_end, length-after}
use Rattle.laws.specs.Lists.{holds_two}
use Rattle.bench.specs.Loops.Walk.{record_at, from_on}

-- a test of the first n records, one by one
first_listed :
    (test : Station → Bool) (records : List Station) (n : ℕ) → n ≤ length records
    → list_all test (take n records) ≡ all_below (λ i. test (record_at records i)) n
unfolding all_below
first_listed test records zero h = refl
first_listed test records (suc n) h =
    rw (take-suc records n no_station h, list_all-append, first_listed test records n (omega arith), and-true)

-- a test of all records, one by one
pub all_listed : (test : Station → Bool) (records : List Station) → list_all test records ≡ all_below (λ i. test (record_at records i)) (length records)
all_listed test records =
    ap (list_all test) (sym (take_all (length records) records (omega arith))) ∙ first_listed test records (length records) (omega arith)

-- ---- a list whose places from j on are changed
module _ {A : Type 0} (old new : List A) where
  -- at first no place is changed
  pub from_end : (j : ℕ) → length old ≡ j → length new ≡ j → from_on old new j ≡ old
  unfolding from_on
  from_end j p q =
      let none : length new ≤ j = omega (arith, q) in
      rw (take_all j old (omega (arith, p)), drop_of_length-le new none, append-nil)

  -- a place that is not changed yet
  pub before_on : (j i : ℕ) (d : A) → i < j → j ≤ length old → get_or (from_on old new j) i d ≡ get_or old i d
  unfolding from_on
  before_on j i d h k =
      get_or-append (take j old) (drop j new) d i (rw length-take (omega arith)) ∙ get_or-take j old i d h

  -- one more place is changed
  pub one_back :
      (j : ℕ) (d : A) (x : A) → j < length old → j < length new → x ≡ get_or new j d → set (from_on old new (suc j)) j x ≡ from_on old new j
  unfolding from_on
  one_back j d x h k e =
      rw (take-suc old j d h, append_assoc, set_at (take j old) (get_or old j d) (drop (suc j) new) x j (rw length-take (omega arith)), e, ← (drop-cons new j d k))

-- ---- a row of records
-- place i of a row is what record i holds
pub record_place : (row : List Station) (i : ℕ) → get_or (map held row) i [] ≡ held (record_at row i)
unfolding held
record_place row i = get_or-map held row i no_station

-- link j above 0 is the one that leaves record j - 1, counted from 0
pub link_above :
    (link : List ℤ) (row : List Station) (j : ℕ) → 0 < j → link_of (held (record_at row (j - 1))) ≡ link_of (link_at link (map held row) j)
unfolding link_at
link_above link row zero h = absurd (not-suc-le-zero h)
link_above link row (suc j) h =
    let e : suc j - 1 ≡ j = omega arith in
    rw (e, record_place row j) (sym (link_of-take (held (record_at row j))))

-- what a link of a row shows is no more than one token
token_link : (link : Link) (row : List (List ℤ)) (j : ℕ) → token (link_of (link_at (token link) row j)) ≡ link_at (token link) row j
token_link link row j = token_of (link_at (token link) row j) ∙ take_all 1 (link_at (token link) row j) (link_few (token link) row j (token_few link))

-- ---- the walk, on what its calls answer
module _ (row : List Station) (link : Link) (stop : Bool) where
  abbrev places : List (List ℤ)
  places = map held row

  -- the row after a cycle
  abbrev pub after : List Station
  after = map station_of (row_after (token link) places stop)

  pub after_long : length after ≡ length row
  after_long = rw (length-map, length-after, length-map)

  -- the row on the way: the records from j on are worked
  abbrev pub worked : ℕ → List Station
  worked j = from_on row after j

  -- link j is still that of the row as it was
  same_link : (j : ℕ) → j < length row → link_at (token link) (map held (worked (suc j))) j ≡ link_at (token link) places j
  unfolding link_at
  same_link zero h = refl
  same_link (suc j) h =
      ap (λ (p : List ℤ). take 1 p)
      (record_place (worked (suc (suc j))) j ∙ ap held (before_on row after (suc (suc j)) j no_station (omega arith) h) ∙ sym (record_place row j))

  same_record : (j : ℕ) → j < length row → record_at (worked (suc j)) j ≡ record_at row j
  same_record j h = before_on row after (suc j) j no_station (omega arith) h

  -- record j is worked, from its links as they were
  record_worked :
      (j : ℕ) → j < length row → (above : Link) (below : Bool)
      → above ≡ link_of (link_at (token link) (map held (worked (suc j))) j) → below ≡ stopped (drop (suc j) places) stop
      → set (worked (suc j)) j (station_of (place_after (token above) (held (record_at (worked (suc j)) j)) below)) ≡ worked j
  record_worked j h above below e f =
      let long : length places ≡ length row = length-map row held in
      one_back row after j (station_of []) _ h (rw after_long h) (
      rw (e, f, same_link j h, token_link, same_record j h, ← (record_place row j))
      (ap station_of (sym (after-at (token link) places stop j (rw long h))) ∙ sym (get_or-map station_of (row_after (token link) places stop) j []))
      )

  -- the stop that record j was to the one before it
  stop_kept : (j : ℕ) → j < length row → holds_two (held (record_at (worked (suc j)) j)) ≡ stopped (drop j places) stop
  stop_kept j h =
      let long : length places ≡ length row = length-map row held in
      rw (same_record j h, ← (record_place row j)) (sym (stopped_inside places stop j (rw long h)))

  -- what the walk holds when the records from j on are worked
  abbrev pub Walked : ℕ → List Station → Bool → Type 0
  Walked j now below = (j ≤ length row) × (now ≡ worked j) × (below ≡ stopped (drop j places) stop)

  pub walk_begins : Walked (length row) row stop
  walk_begins =
      let long : length places ≡ length row = length-map row held in
      (omega arith, sym (from_end row after (length row) refl after_long), sym (stopped_end places stop (length row) (rw long (omega arith))))

  pub walk_turn :
      (j : ℕ) (now : List Station) (above : Link) (below : Bool) → 0 < j → Walked j now below
      → above ≡ link_of (link_at (token link) (map held now) (j - 1))
      → let s = record_at now (j - 1) in
      Walked (j - 1) (set now (j - 1) (station_of (place_after (token above) (held s) below))) (holds_two (held s))
  walk_turn zero now above below h w e = absurd (not-suc-le-zero h)
  walk_turn (suc j) now above below h w e =
      let k : suc j - 1 ≡ j = omega arith in
      let l : j < length row = w.0 in
      rw (k, w.1) (omega (arith, l), record_worked j l above below (rw (k, w.1) at e) w.2, stop_kept j l)

  pub walk_ends : (j : ℕ) (now : List Station) (below : Bool) → j ≡ 0 → Walked j now below → now ≡ after
  unfolding from_on
  walk_ends j now below z w = w.1 ∙ rw z
