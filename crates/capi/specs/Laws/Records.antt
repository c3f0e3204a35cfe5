-- What each way out of the benches on bytes has done. Assumes nothing.
use Rattle.std.specs.Prelude.{Bool, false, ◌≡◌, refl, ℕ, ◌+◌, ◌*◌, ◌-◌, ◌≤◌, ◌<◌, eqb, ltb, ℤ, length, get_or, take, min, replicate, Result, Ok, Err}
use Rattle.std.specs.Result.{is_ok}
use Rattle.std.proofs.Math.Bool.{true}
use Rattle.std.proofs.Common.{true≢false, ◌∙◌, arith, length-take, take_at}
use mathlib.Core.List.{List, [], ◌∷◌, ◌++◌, flat_map}
use Rattle.std.proofs.Math.Logic.{⊎_elim}
use Rattle.std.proofs.Math.Path.{sym, ap}
use Rattle.std.proofs.Math.Decide.{ℕ_discrete}
use borrow.Author.Tests.{eqb-true, eqb-false, ne_eqb, leb-true, ltb-false}
use Rattle.std.proofs.Math.Dec.{leb}
use Rattle.laws.specs.Laws.Below.{all_at}
use Rattle.laws.specs.Laws.Cases.{true_or_false, lt-or-ge, or_left, or_right}
use Rattle.laws.specs.Lists.{padded}
use Rattle.laws.specs.Table.{table}
use Rattle.relay.specs.Station.{station_of, no_station}
use Rattle.laws.specs.Laws.Table.{length-table, table_at, padded_long}
use Rattle.relay.specs.declared.Station.{Station}
use Rattle.relay.specs.Link.{Link}
use Rattle.std.specs.Bool.{then_some}
use Rattle.bench.specs.declared.Answer.{Answer}
use Rattle.refusal.specs.declared.Refusal.{Refusal}
use Rattle.bench.specs.Bench.{Told, told, fits, bench_number, refusal, reply, bench_answer, bench_after, BenchDone}
use Rattle.bench.proofs.BenchLaws.{refused_number, bench_long, length_bench}
use Rattle.bench.proofs.Kept.{accepted_long, accepted-fits}
use Rattle.layout.specs.Bytes.{station_bytes, no_record, record_in, row_record, record_count, row_in}
use Rattle.layout.specs.Laws.Bytes.{all_stored, flat_long, station_long}
use Rattle.writer.specs.Write.{WriteDone}
use Rattle.writer.specs.Laws.Write.{write_done}
use Rattle.capi.specs.Calls.{BenchCall}

-- a bench's answer tells the bench's number
answer-number : (row : List Station) (link : Link) (stop : Bool) → (bench_answer row link stop).number ≡ bench_number row
unfolding bench_answer reply refusal
answer-number row link stop =
    ⊎_elim
    (λ (q : eqb (bench_number row) 0 ≡ true). rw q (sym (eqb-true (bench_number row) 0 q)))
    (λ (q : eqb (bench_number row) 0 ≡ false). rw q)
    (true_or_false (eqb (bench_number row) 0))

-- the record that bytes which are none are read as fits no bench
no_record-fits : fits no_record ≡ false
unfolding fits no_record
no_record-fits = refl

-- a bench that is not refused tells number 0
pub ok_number : (answer : Result Answer Refusal) → is_ok answer ≡ true → (told answer).number ≡ 0
ok_number (Ok a) e = refl
ok_number (Err r) e = absurd (true≢false (sym e))

pub err-number : (answer : Result Answer Refusal) → is_ok answer ≡ false → (told answer).number ≡ 0 → ⊥
err-number answer e z =
    let q : eqb 0 0 ≡ false = rw z at (refused_number answer e) in
    absurd (true≢false q)

-- what C is told of a call for a bench
pub told_call :
    (row : List Station) (bytes : List ℕ) (valid : Bool) (value : ℤ) (stop : Bool) (left : List ℕ) {t u : Told} → u ≡ t
    → BenchCall row bytes valid value stop t.number t.letter t.value t.taken left
    → BenchCall row bytes valid value stop u.number u.letter u.value u.taken left
told_call row bytes valid value stop left e call = rw e call

-- records stored over the bytes of as many are all of these bytes
records-left :
    (records : List Station) {bytes left : List ℕ} {written : Result ℕ Refusal} → WriteDone (flat_map station_bytes records) bytes written left
    → length bytes ≡ 9 * length records → left ≡ flat_map station_bytes records
records-left records {bytes} w e =
    let text = flat_map station_bytes records in
    let long = flat_long station_bytes 9 station_long records in
    all_stored bytes text (length text) (omega (arith, long, e)) (write_done text bytes w (omega (arith, long, e))).1

-- ---- a station
module _
    (bytes : List ℕ) (valid : Bool) (value : ℤ) (stop : Bool) {answer : Told} {after : Station}
    (d : BenchDone (record_in bytes ∷ []) (then_some valid value) stop answer (after ∷ [])) where
  abbrev row : List Station
  row = record_in bytes ∷ []

  record_sized : answer.number ≡ 0 → length bytes ≡ 9
  unfolding record_in
  record_sized z = at (ℕ_discrete (length bytes) 9)
    where
      number : bench_number row ≡ 0
      number = sym (answer-number row (then_some valid value) stop) ∙ sym (ap (λ (x : Told). x.number) d.answered) ∙ z

      at : Dec (length bytes ≡ 9) → length bytes ≡ 9
      at (yes e) = e
      at (no n) =
          let f : fits (record_in bytes) ≡ true = all_at (λ i. fits (get_or row i no_station)) 0 1 (omega arith) (accepted-fits row number) in
          absurd (true≢false (sym (rw (ne_eqb (length bytes) 9 n) at f) ∙ no_record-fits))

  pub station-called :
      {written : Result ℕ Refusal} {left : List ℕ} → answer.number ≡ 0 → WriteDone (flat_map station_bytes (after ∷ [])) bytes written left
      → BenchCall row bytes valid value stop answer.number answer.letter answer.value answer.taken left
  station-called z w = record { answered = d.answered; changed = records-left (after ∷ []) w (record_sized z) ∙ rw (z, ← d.left) }

  pub station_refused :
      (answer.number ≡ 0 → ⊥) → BenchCall row bytes valid value stop answer.number answer.letter answer.value
      answer.taken bytes
  station_refused n = record { answered = d.answered; changed = rw (ne_eqb answer.number 0 n) }

-- ---- a row
module _ (bytes : List ℕ) where
  length-row : length (row_in bytes) ≡ record_count bytes
  unfolding row_in
  length-row = length-table (row_record bytes) (record_count bytes)

  module _ (accepted : bench_number (row_in bytes) ≡ 0) where
    -- a row that is accepted has 1 to 8 records
    row_few : (record_count bytes ≡ 0 → ⊥) × (record_count bytes ≤ 8)
    row_few =
        let count = record_count bytes in
        let q = rw length-row at (accepted_long (row_in bytes) accepted) in
        (eqb-false count 0 (or_left (eqb count 0) (ltb 8 count) q), ltb-false 8 count (or_right (eqb count 0) (ltb 8 count) q))

    -- each record of a row that is accepted is whole
    record_whole : (i : ℕ) → i < record_count bytes → 9 * i + 9 ≤ length bytes
    unfolding row_in row_record
    record_whole i h =
        let f : fits (get_or (row_in bytes) i no_station) ≡ true =
        all_at (λ k. fits (get_or (row_in bytes) k no_station)) i (length (row_in bytes)) (rw length-row h) (accepted-fits (row_in bytes) accepted) in
        let g : fits (row_record bytes i) ≡ true = rw (table_at (row_record bytes) (record_count bytes) i no_station h) at f in
        ⊎_elim
        (λ (q : leb (9 * i + 9) (length bytes) ≡ true). leb-true (9 * i + 9) (length bytes) q)
        (λ (q : leb (9 * i + 9) (length bytes) ≡ false). absurd (true≢false (sym (rw q at g) ∙ no_record-fits)))
        (true_or_false (leb (9 * i + 9) (length bytes)))

    -- the records of a row that is accepted are all of its bytes
    row-whole : length bytes ≡ 9 * record_count bytes
    unfolding record_count
    row-whole = omega (arith, record_whole (record_count bytes - 1) (omega (arith, row_few.0)), row_few.0)

  abbrev n : ℕ
  n = record_count bytes

  -- the records that are lent: those of the row, nine where it has more than eight
  abbrev pub lent : List Station
  lent = take (min n 9) (padded 9 (station_of []) (table (row_record bytes) (min n 8)))

  lent_few : n ≤ 8 → lent ≡ row_in bytes
  unfolding row_in padded
  lent_few h =
      let a : min n 9 ≡ n = omega (arith, h) in
      let b : min n 8 ≡ n = omega (arith, h) in
      let t = table (row_record bytes) n in
      rw (a, b) (take_at t (replicate (9 - length t) (station_of [])) n (length-table (row_record bytes) n))

  lent_many : 8 < n → 8 < length lent
  lent_many h =
      let a : min n 9 ≡ 9 = omega (arith, h) in
      let b : min n 8 ≡ 8 = omega (arith, h) in
      rw (a, b, length-take, padded_long (row_record bytes) 8 9 (station_of []) (omega arith)) (omega arith)

  module _
      (valid : Bool) (value : ℤ) (stop : Bool) {answer : Told} {after : List Station} (d : BenchDone lent (then_some valid value) stop answer after)
    where
      row-answered : answer ≡ bench_answer (row_in bytes) (then_some valid value) stop
      row-answered =
          let link = then_some valid value in
          ⊎_elim
          (λ (h : 8 < n).
          d.answered ∙ sym (bench_long lent link stop (lent_many h)).answered ∙ (bench_long (row_in bytes) link stop (rw length-row h)).answered)
          (λ (h : n ≤ 8). d.answered ∙ ap (λ r. bench_answer r link stop) (lent_few h))
          (lt-or-ge 8 n)

      module _ (z : answer.number ≡ 0) where
        accepted-row : bench_number (row_in bytes) ≡ 0
        accepted-row = sym (answer-number (row_in bytes) (then_some valid value) stop) ∙ sym (ap (λ (x : Told). x.number) row-answered) ∙ z

        after-is : after ≡ bench_after (row_in bytes) (then_some valid value) stop
        after-is = d.left ∙ ap (λ r. bench_after r (then_some valid value) stop) (lent_few (row_few accepted-row).1)

        after_long : length after ≡ n
        after_long = ap length after-is ∙ length_bench (row_in bytes) (then_some valid value) stop ∙ length-row

        -- of the nine records those that were lent are written
        pub row-called :
            (rest : List Station) {written : Result ℕ Refusal} {left : List ℕ}
            → WriteDone (flat_map station_bytes (take (min n 9) (after ++ rest))) bytes written left
            → BenchCall (row_in bytes) bytes valid value stop answer.number answer.letter answer.value answer.taken left
        row-called rest w =
            let few : min n 9 ≡ n = omega (arith, (row_few accepted-row).1) in
            let l = records-left after (rw (few, take_at after rest n after_long) at w) (row-whole accepted-row ∙ ap (λ k. 9 * k) (sym after_long)) in
            record { answered = row-answered; changed = l ∙ rw (z, ← after-is) }

      pub row_refused :
          (answer.number ≡ 0 → ⊥) → BenchCall (row_in bytes) bytes valid value stop answer.number answer.letter answer.value answer.taken bytes
      row_refused h = record { answered = row-answered; changed = rw (ne_eqb answer.number 0 h) }
