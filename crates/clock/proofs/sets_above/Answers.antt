-- `clock::sets_above` meets its contract. Assumes nothing.
use Rattle.std.proofs.Common.{◌≡◌, ◌<◌, ◌≤◌, ◌^◌, ◌/◌, arith, sym, rules, tests}
use Rattle.std.specs.Prelude.{Option, Some, None, Bool, false, ℕ, not, eqb}
use Rattle.std.specs.Option.{SomeIff, MatchOption}
use native.Mathlib.Nat.{div-eq_of_lt, lt_of_lt_of_le}
use lib.Pow.{pow_mono}
use Rattle.cycle.specs.Word.{sets_above}
use Rattle.clock.proofs.sets_above.Goals as goal

-- a word has no bit from 64 on
none_above : (word n : ℕ) → word < 2 ^ 64 → (n < 64 → ⊥) → sets_above n word ≡ false
unfolding sets_above
none_above word n fits h =
    let l : 64 ≤ n = omega (arith, h) in
    rw (div-eq_of_lt (lt_of_lt_of_le fits (pow_mono l)))

-- the answer, by what is left of the word where it is shifted
shifted :
    (word n : ℕ) → word < 2 ^ 64 → (o : Option ℕ) (r : Bool) {Q : ℕ → Type 0}
    → SomeIff o (n < 64) (word / 2 ^ n) → MatchOption o (r ≡ false) Q → ((x : ℕ) → Q x → r ≡ not (eqb x 0)) → r ≡ sets_above n word
unfolding sets_above
shifted word n fits None r past e says = rw e (sym (none_above word n fits past))
shifted word n fits (Some x) r there e says = rw (← there.1) (says x e)

pub returns : goal.returns
returns c =
    shifted c.args.word c.args.n c.ranges.word.fits c.checked_shr.result c.is_some_and.result (rw c.from.ensures at c.checked_shr.ensures)
    c.is_some_and.ensures (λ x q. search (rules, tests))
