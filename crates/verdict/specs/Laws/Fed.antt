-- "Each input port is fed by exactly one channel" says the same as the tests for 7 and 8 having failed. Assumes nothing.
use Rattle.std.specs.Prelude.{true, false, List, ◌↔◌, ◌≡◌, ℕ, ◌<◌, ◌≤◌}
use Rattle.std.proofs.Math.Bool.{not}
use Rattle.std.proofs.Common.{true≢false, ⊎_elim, sym, ◌∙◌, arith}
use Rattle.std.proofs.Math.Path.{ap}
use Rattle.std.proofs.lemmas.Bool.{not-false}
use Rattle.laws.specs.Below.{any_below}
use Rattle.laws.specs.Laws.Below.{none-iff}
use Rattle.laws.specs.Laws.Cases.{lt-or-ge, true_or_false}
use Rattle.kinds.specs.Kinds.{inputs}
use Rattle.image.specs.Image.{feeds, nodes, channels, kind, to, port}
use Rattle.verdict.specs.Judge.{fed_twice, not_fed}
use Rattle.image.specs.Loops.PortsLaws.{feeds_ok}

-- two channels that feed one port are the same channel
abbrev pub Once : List ℕ → Type 0
Once img = (b c : ℕ) → b < channels img → c < channels img → to img b ≡ to img c → port img b ≡ port img c → b ≡ c

module _ (img : List ℕ) where
  -- number 7 has no cause exactly if no channel b before a channel c feeds the port that c feeds
  apart : (any_below (fed_twice img) (channels img) ≡ false) ↔
      ((c : ℕ) → c < channels img → (b : ℕ) → b < c → feeds img (to img c) (port img c) b ≡ false)
  unfolding fed_twice
  apart = none-iff (fed_twice img) (channels img) λ c. none-iff (feeds img (to img c) (port img c)) c λ b. (λ e. e, λ e. e)

  not_before : any_below (fed_twice img) (channels img) ≡ false →
      (b c : ℕ) → b < c → c < channels img → to img b ≡ to img c → port img b ≡ port img c → ⊥
  not_before e b c l h t p = true≢false (sym ((feeds_ok img (to img c) (port img c) b).1 (t, p)) ∙ apart.0 e c h b l)

  pub once-iff : (any_below (fed_twice img) (channels img) ≡ false) ↔ Once img
  once-iff = (same, λ once. apart.1 (differ once))
    where
      same : any_below (fed_twice img) (channels img) ≡ false → Once img
      same e b c g h t p =
          ⊎_elim
          (λ (l : b < c). absurd (not_before e b c l h t p))
          (λ (l : c ≤ b). ⊎_elim (λ (m : c < b). absurd (not_before e c b m g (sym t) (sym p))) (λ (m : b ≤ c). omega arith) (lt-or-ge c b))
          (lt-or-ge b c)

      differ : Once img → (c : ℕ) → c < channels img → (b : ℕ) → b < c → feeds img (to img c) (port img c) b ≡ false
      differ once c h b l =
          ⊎_elim
          (λ e.
          let f = (feeds_ok img (to img c) (port img c) b).0 e in
          let q : b ≡ c = once b c (omega arith) h f.0 f.1 in
          absurd (omega arith))
          (λ e. e)
          (true_or_false (feeds img (to img c) (port img c) b))

  -- number 8 has no cause exactly if some channel feeds each port
  pub fed_iff : (any_below (not_fed img) (nodes img) ≡ false) ↔
      ((n : ℕ) → n < nodes img → (p : ℕ) → p < inputs (kind img n) → any_below (feeds img n p) (channels img) ≡ true)
  unfolding not_fed
  fed_iff =
      none-iff (not_fed img) (nodes img) λ n.
      none-iff (λ p. not (any_below (feeds img n p) (channels img))) (inputs (kind img n)) λ p.
      (not-false (any_below (feeds img n p) (channels img)), ap not)
