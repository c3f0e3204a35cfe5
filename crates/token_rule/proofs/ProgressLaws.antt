-- Progress: a node that is furthest behind, and awake, fires within R + 1 cycles. It holds from every steady state, reached or not. Assumes nothing.
use Rattle.std.specs.Prelude.{true, false, ◌≡◌, ℕ, zero, suc, ◌+◌, ◌<◌, ◌≤◌, length}
use mathlib.Core.List.{List, [], ◌∷◌}
use Rattle.std.proofs.Math.Logic.{⊎_elim}
use Rattle.std.proofs.Common.{not-suc-le-zero, arith}
use Rattle.laws.specs.Laws.Below.{most-at}
use Rattle.laws.specs.Laws.Cases.{true_or_false}
use Rattle.image.specs.Image.{nodes, channels, from, to, stations, most_stations}
use Rattle.verdict.specs.Accepted.{Accepted}
use Rattle.state.specs.declared.State.{State}
use Rattle.state.specs.State.{firings_at}
use Rattle.fitting.specs.Fitting.{Steady}
use Rattle.cycle.specs.Laws.Counters.{entered}
use Rattle.cycle.specs.Laws.Counting.{entered_source, entered_taken, limit_taken, entered-next, enabled-fires}
use Rattle.cycle.specs.Cycle.{fires, state_after}
use Rattle.cycle.specs.Word.{stalled}
use Rattle.cycle.specs.Laws.Cycle.{firings_next}
use Rattle.cycle.specs.Laws.Kept.{steady-next}
use Rattle.token_rule.specs.Cycles.{fired_in}
use Rattle.token_rule.specs.Progress.{Furthest, Awake}

stations-most : (img : List ℕ) (c : ℕ) → c < channels img → stations img c ≤ most_stations img
unfolding most_stations
stations-most img c h = most-at (stations img) c (channels img) h

-- node n is furthest behind, and its next token has entered the places up to k of each of its inputs
record Coming (img : List ℕ) (s : State) (n k : ℕ) : Type 0 where
  furthest : Furthest img s n
  ahead : (c : ℕ) → c < channels img → to img c ≡ n → (j : ℕ) → j ≤ k → j ≤ stations img c → firings_at s n < entered img s c j

module _ (img : List ℕ) (a : Accepted img) (n : ℕ) (there : n < nodes img) where
  -- a node whose next tokens stand before its queues fires if it is awake, for no node that it feeds is further behind
  coming-fires :
      (w : ℕ) (s : State) (k : ℕ) → Steady img s → Coming img s n k → ((c : ℕ) → c < channels img → stations img c ≤ k) → stalled w n ≡ false
      → fires img w s n ≡ true
  coming-fires w s k ok b near awake =
      enabled-fires img w s ok n
      (record {
        awake = awake;
        fed = λ c h e. b.ahead c h e (stations img c) (near c h) (omega arith);
        free = λ c h e. omega (arith, limit_taken img s c a h 0, b.furthest (to img c) (a.wires c h).1);
      })

  -- a cycle in which node n does not fire takes its next tokens one place further
  coming-next : (w : ℕ) (s : State) (k : ℕ) → Steady img s → Coming img s n k → fires img w s n ≡ false → Coming img (state_after img w s) n (suc k)
  coming-next w s k ok b idle = record { furthest = λ i h. omega (arith, still, firings_next img a w s i h, b.furthest i h); ahead = further }
    where
      still : firings_at (state_after img w s) n ≡ firings_at s n
      still = omega (arith, rw idle at (firings_next img a w s n there))

      further :
          (c : ℕ) → c < channels img → to img c ≡ n → (j : ℕ) → j ≤ suc k → j ≤ stations img c
          → firings_at (state_after img w s) n < entered img (state_after img w s) c j
      further c h e zero p q =
          let i = (a.wires c h).0 in
          omega (arith, still, entered_source img (state_after img w s) c, firings_next img a w s (from img c) i, b.furthest (from img c) i)
      further c h e (suc j) p q =
          omega (
            arith,
            still,
            entered-next img a w s c h ok j (omega arith),
            b.ahead c h e j (omega arith) (omega arith),
            limit_taken img s c a h j,
            entered_taken img s c j,
            b.furthest (to img c) (a.wires c h).1,
          )

  module _ (R : ℕ) (near : (c : ℕ) → c < channels img → stations img c ≤ R) where
    fired-within :
        (w : ℕ) (ws : List ℕ) (s : State) (k : ℕ) → Steady img s → Coming img s n k → R ≡ k + length ws → Awake n (w ∷ ws)
        → 1 ≤ fired_in img s (w ∷ ws) n
    unfolding fired_in Awake
    fired-within w [] s k ok b e awake =
        rw (coming-fires w s k ok b (λ c h. omega (arith, near c h)) awake.0) (omega arith)
    fired-within w (v ∷ ws) s k ok b e awake =
        ⊎_elim
        (λ (f : fires img w s n ≡ true). rw f (omega arith))
        (λ (f : fires img w s n ≡ false).
        let later = fired-within v ws (state_after img w s) (suc k) (steady-next img a w s ok) (coming-next w s k ok b f) (omega arith) awake.1 in
        omega (arith, later))
        (true_or_false (fires img w s n))

    -- R may be any number that no channel's station count is over. At the start each input's next token has been made
    progress_within :
        (s : State) → Steady img s → Furthest img s n → (words : List ℕ) → length words ≡ suc R → Awake n words → 1 ≤ fired_in img s words n
    progress_within s ok behind [] e awake = absurd (not-suc-le-zero {n = R} (omega arith))
    progress_within s ok behind (w ∷ ws) e awake = fired-within w ws s 0 ok (record { furthest = behind; ahead = made }) (omega arith) awake
      where
        made : (c : ℕ) → c < channels img → to img c ≡ n → (j : ℕ) → j ≤ 0 → j ≤ stations img c → firings_at s n < entered img s c j
        made c h q zero l k = omega (arith, entered_source img s c, behind (from img c) (a.wires c h).0)
        made c h q (suc j) l k = absurd (not-suc-le-zero l)

-- the progress part of the token rule
pub progress :
    (img : List ℕ) → Accepted img → (s : State) → Steady img s → (n : ℕ) → n < nodes img → Furthest img s n
    → (words : List ℕ) → length words ≡ suc (most_stations img) → Awake n words → 1 ≤ fired_in img s words n
progress img a s ok n there behind words e awake = progress_within img a n there (most_stations img) (stations-most img) s ok behind words e awake
