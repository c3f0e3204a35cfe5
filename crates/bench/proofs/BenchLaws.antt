-- Laws of the benches: each number from its cause, what the steps by value answer, and that a refusal changes nothing. Assumes nothing.
use Rattle.std.specs.Prelude.{Bool, not, ◌&&◌, ◌||◌, ◌≡◌, ℕ, ◌<◌, ◌≤◌, Result, Ok, Err, is_some}
use Rattle.std.proofs.Math.Bool.{true, false, or-true, or-false}
use Rattle.std.proofs.Common.{true≢false, ne_eqb, sym, ◌∙◌, ap₂, arith, lt-ltb}
use borrow.Author.Tests.{eqb-true, eqb-false, le-ltb}
use mathlib.Core.List.{List, [], ◌∷◌, map}
use Rattle.std.proofs.Math.Logic.{⊎_elim}
use Rattle.std.proofs.Math.Path.{refl, ap}
use Rattle.std.proofs.Math.Dec.{eqb, ltb}
use Rattle.std.proofs.Math.ListN.{length, get_or}
use Rattle.std.proofs.lemmas.List.{length-map}
use Rattle.std.specs.Result.{is_ok}
use Rattle.laws.specs.Below.{all_below}
use Rattle.laws.specs.Laws.Cases.{lt-or-ge, or_left, true_or_false}
use Rattle.laws.specs.Choice.{◌if◌else◌}
use Rattle.laws.specs.Lists.{holds, holds_two}
use Rattle.relay.specs.declared.Station.{Station}
use Rattle.relay.specs.Link.{Link, token, link_of, passing}
use Rattle.relay.specs.Laws.Link.{link_of-take, passing-holds}
use Rattle.relay.specs.Station.{held, station_of, place_after, no_station}
use Rattle.relay.specs.Row.{stopped, leaving, row_after, link_at}
use Rattle.relay.specs.Laws.Row.{length-after, leaving-at, stopped_inside}
use Rattle.bench.specs.declared.Answer.{Answer}
use Rattle.refusal.specs.declared.Refusal.{Refusal}
use Rattle.refusal.specs.Laws.Number.{number_positive}
use Rattle.bench.specs.Bench.{Told, told, fits, bench_number, refusal, reply, bench_answer, bench_after, BenchDone}
use Rattle.bench.specs.ByValue.{station_benched}
use Rattle.bench.proofs.WalkLaws.{record_place}

-- ---- an answer
-- an answer is refused exactly if it has a number
pub refused_number : (a : Result Answer Refusal) → is_ok a ≡ false → eqb (told a).number 0 ≡ false
unfolding refusal
refused_number (Ok answer) e = absurd (true≢false e)
refused_number (Err r) e = let p = number_positive r in ne_eqb _ 0 (λ z. absurd (omega (arith, z, p)))

-- ---- any row
-- a number with two causes is answered where the second holds
either : (k later : ℕ) (a b : Bool) → b ≡ true → (k if a || b else later) ≡ k
either k later a b e = rw (e, or-true)

-- a row of no records, or too long, is refused, whatever it holds
none_number : (row : List Station) → length row ≡ 0 → bench_number row ≡ 15
unfolding bench_number
none_number row h = rw h

long_number : (row : List Station) → 8 < length row → bench_number row ≡ 15
unfolding bench_number
long_number row h = either 15 _ (eqb (length row) 0) _ (lt-ltb _ (length row) (omega arith))

module _ (row : List Station) (link : Link) (stop : Bool) where
  -- a row has as many records after a bench as before
  pub length_bench : length (bench_after row link stop) ≡ length row
  unfolding bench_after
  length_bench = kept (eqb (bench_number row) 0)
    where
      kept : (t : Bool) → length (map station_of (row_after (token link) (map held row) stop) if t else row) ≡ length row
      kept true = rw (length-map, length-after, length-map)
      kept false = refl

  -- a row that is refused stays
  pub bench_stays : eqb (bench_answer row link stop).number 0 ≡ false → row ≡ bench_after row link stop
  unfolding bench_answer bench_after reply
  bench_stays e =
      ⊎_elim
      (λ (t : eqb (bench_number row) 0 ≡ true). absurd (true≢false (rw t at e)))
      (λ (t : eqb (bench_number row) 0 ≡ false). rw t)
      (true_or_false (eqb (bench_number row) 0))

  -- what a bench has done with a row of no records, or over 8
  bench_none : length row ≡ 0 → BenchDone row link stop (refusal 15) row
  unfolding bench_answer bench_after
  bench_none h = let n = none_number row h in record { answered = rw n; left = rw n }

  pub bench_long : 8 < length row → BenchDone row link stop (refusal 15) row
  unfolding bench_answer bench_after
  bench_long h = let n = long_number row h in record { answered = rw n; left = rw n }

  pub row_none : eqb (length row) 0 || ltb 8 (length row) ≡ true → BenchDone row link stop (refusal 15) row
  row_none e =
      ⊎_elim
      (λ (h : 8 < length row). bench_long h)
      (λ (h : length row ≤ 8). bench_none (eqb-true (length row) 0 (sym (or-false (eqb (length row) 0)) ∙ rw (le-ltb 8 (length row) h) at e)))
      (lt-or-ge 8 (length row))

  module _ (some : eqb (length row) 0 || ltb 8 (length row) ≡ false) where
    -- a row is refused of which a record does not fit
    pub row_unfit : all_below (λ i. fits (get_or row i no_station)) (length row) ≡ false → BenchDone row link stop (refusal 21) row
    unfolding bench_number bench_answer bench_after
    row_unfit e = record { answered = rw (some, e); left = rw (some, e) }

    -- a row that is accepted: what its links showed and took, and what the walk left
    pub row_walked :
        all_below (λ i. fits (get_or row i no_station)) (length row) ≡ true
        → {shows : Link} → shows ≡ link_of (link_at (token link) (map held row) (length row))
        → {after : List Station} → after ≡ map station_of (row_after (token link) (map held row) stop)
        → BenchDone row link stop (reply shows stop (is_some link && not (holds_two (held (get_or row 0 no_station))))) after
    unfolding bench_number bench_answer bench_after
    row_walked e {shows} l {after} a =
        let places = map held row in
        let long : length places ≡ length row = length-map row held in
        let one : 0 < length row = omega (arith, eqb-false (length row) 0 (or_left (eqb (length row) 0) (ltb 8 (length row)) some)) in
        let first : holds_two (held (get_or row 0 no_station)) ≡ stopped places stop = rw (← (record_place row 0)) (sym (stopped_inside places stop 0 (rw long one))) in
        let shown : shows ≡ link_of (leaving (token link) places) =
        l ∙ ap (λ n. link_of (link_at (token link) places n)) (sym long) ∙ ap link_of (sym (leaving-at (token link) places)) in
        let taken : is_some link && not (holds_two (held (get_or row 0 no_station))) ≡ holds (passing (token link) (stopped places stop)) =
        ap (λ s. is_some link && not s) first ∙ sym (passing-holds link (stopped places stop)) in
        record { answered = rw (some, e) (ap₂ (λ (x : Link) (t : Bool). reply x stop t) shown taken); left = rw (some, e) a }

-- ---- one station: the row of it alone
module _ (s : Station) (link : Link) (stop : Bool) where
  pub station_unfit : fits s ≡ false → BenchDone (s ∷ []) link stop (refusal 21) (s ∷ [])
  unfolding all_below
  station_unfit e = row_unfit (s ∷ []) link stop refl e

  pub station_stepped :
      fits s ≡ true
      → {after : Station} → after ≡ station_of (place_after (token link) (held s) stop)
      → BenchDone (s ∷ []) link stop (reply (link_of (held s)) stop (is_some link && not (holds_two (held s)))) (after ∷ [])
  unfolding all_below link_at row_after stopped
  station_stepped e {after} a = row_walked (s ∷ []) link stop refl e (sym (link_of-take (held s))) (ap (λ (t : Station). t ∷ []) a)

  -- what the bench of a station by value answers is what the bench of the row of it alone has done,
  pub station-done : let b = station_benched s link stop in BenchDone (s ∷ []) link stop b.answer (b.after ∷ [])
  unfolding station_benched
  station-done = record { answered = refl; left = single (bench_after (s ∷ []) link stop) (length_bench (s ∷ []) link stop) }
    where
      single : (l : List Station) → length l ≡ 1 → get_or l 0 no_station ∷ [] ≡ l
      single [] e = absurd (omega arith)
      single (x ∷ []) e = refl
      single (x ∷ y ∷ l) e = absurd (omega arith)

  -- and the other way round
  pub done-station :
      (answer : Told) (after : Station) → BenchDone (s ∷ []) link stop answer (after ∷ [])
      → let b = station_benched s link stop in (answer ≡ b.answer) × (after ≡ b.after)
  unfolding station_benched
  done-station answer after d = (d.answered, ap (λ l. get_or l 0 no_station) d.left)

  -- a station that is refused stays
  pub station_stays : let b = station_benched s link stop in eqb b.answer.number 0 ≡ false → s ≡ b.after
  unfolding station_benched
  station_stays e = ap (λ l. get_or l 0 no_station) (bench_stays (s ∷ []) link stop e)
