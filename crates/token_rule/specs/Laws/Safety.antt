-- The fresh state is sound, and every cycle keeps it so. Assumes nothing.
use Rattle.std.specs.Prelude.{is_some, unwrap_or, pos, Bool, true, false, List, [], ◌∷◌, ◌≡◌, refl, ℤ, length}
use Rattle.std.proofs.lemmas.Bool.{false≢true}
use Rattle.std.proofs.Math.Path.{sym, ap}
use Rattle.std.proofs.Common.{◌∙◌, add-zero, add-one, arith, length-append}
use Prim.Native.Nat.{ℕ, suc, ◌+◌, ◌<◌}
use Rattle.laws.specs.Choice.{◌if◌else◌}
use Rattle.laws.specs.Lists.{one_if, drop_if}
use Rattle.laws.specs.Stretch.{Stretch}
use Rattle.laws.specs.Laws.Stretch.{stretch-append, stretch_one, stretch-drop}
use Rattle.image.specs.Image.{nodes, channels, from, to}
use Rattle.verdict.specs.Accepted.{Accepted}
use Rattle.image.specs.Laws.Alike.{alike_same}
use Rattle.node.specs.Node.{next_of}
use Rattle.node.specs.Laws.Node.{next_same}
use Rattle.strict.specs.Strict.{strict, stream}
use Rattle.strict.specs.Laws.Strict.{strict-first, strict_next_lem}
use Rattle.relay.specs.Link.{Link, link_of}
use Rattle.shell.specs.Channel.{tokens}
use Rattle.shell.specs.Laws.Channel.{oldest_first}
use Rattle.state.specs.declared.Node.{Node}
use Rattle.state.specs.declared.State.{State}
use Rattle.state.specs.State.{value_at, firings_at, channel_in}
use Rattle.state.specs.Fresh.{fresh_state}
use Rattle.cycle.specs.Cycle.{input_at, fires, state_after}
use Rattle.cycle.specs.Laws.Cycle.{value_next, firings_next, fires_ready, fires-holds, tokens-next}
use Rattle.fitting.specs.Fitting.{Steady}
use Rattle.state.specs.Laws.Fresh.{fresh_node_lem, fresh_firings, fresh-tokens}
use Rattle.cycle.specs.Laws.Kept.{steady-next}
use Rattle.token_rule.specs.Laws.Sound.{Sound}

-- a link that shows the first token of a stretch from a on shows f a
shown_first : (f : ℕ → ℤ) (a : ℕ) (xs : List ℤ) → is_some (link_of xs) ≡ true → Stretch f a xs → unwrap_or (link_of xs) (pos 0) ≡ f a
unfolding Stretch
shown_first f a [] e s = absurd (false≢true e)
shown_first f a (x ∷ xs) e s = s.0

-- a node that shows f k shows f (k + 1) after it fires, if its new value is that, and f k if it does not fire
settle : (b : Bool) (f : ℕ → ℤ) (k : ℕ) (new old : ℤ) → (b ≡ true → new ≡ f (suc k)) → old ≡ f k → (new if b else old) ≡ f (k + (1 if b else 0))
settle true f k new old p q = rw add-one (p refl)
settle false f k new old p q = rw add-zero q

module _ (img : List ℕ) (a : Accepted img) where
  pub sound-fresh : Sound img (fresh_state img)
  unfolding Stretch stream
  sound-fresh =
      record {
        valued = λ n h. rw (fresh_firings img n h) (ap (λ (x : Node). x.value) (fresh_node_lem img n h) ∙ sym (strict-first img n h));
        streamed = λ c h.
            rw (fresh-tokens img a c h, fresh_firings img (to img c) (a.wires c h).1) (sym (strict-first img (from img c) (a.wires c h).0), tt);
      }

  module _ (w : ℕ) (s : State) (steady : Steady img s) (ok : Sound img s) where
    -- an input that is ready shows the strict value that its node needs
    input-token : (c : ℕ) → c < channels img → is_some (input_at img s c) ≡ true → unwrap_or (input_at img s c) (pos 0) ≡ stream img c (firings_at s (to img c))
    unfolding input_at
    input-token c h e =
        let same = oldest_first (channel_in img s c) e in
        sym (ap (λ (l : Link). unwrap_or l (pos 0)) same)
        ∙ shown_first (stream img c) (firings_at s (to img c)) (tokens (channel_in img s c)) (ap (λ (l : Link). is_some l) same ∙ e) (ok.streamed c h)

    -- a node that fires takes its strict value of the next cycle
    new_value :
        (n : ℕ) → n < nodes img → fires img w s n ≡ true
        → next_of img (λ c. unwrap_or (input_at img s c) (pos 0)) n (value_at s n) ≡ strict img n (suc (firings_at s n))
    unfolding stream
    new_value n h f =
        let k = firings_at s n in
        next_same img img (alike_same img) (λ c. unwrap_or (input_at img s c) (pos 0)) (λ c. strict img (from img c) k) n (value_at s n) h
        (λ c l e. rw (← e) (input-token c l (fires_ready img w s c l (rw e f))))
        ∙ ap (next_of img (λ c. strict img (from img c) k) n) (ok.valued n h) ∙ sym (strict_next_lem img n k h)

    valued-next : (n : ℕ) → n < nodes img → value_at (state_after img w s) n ≡ strict img n (firings_at (state_after img w s) n)
    valued-next n h =
        rw (value_next img a w s n h, firings_next img a w s n h)
        (settle (fires img w s n) (strict img n) (firings_at s n) _ _ (new_value n h) (ok.valued n h))

    -- the token that a firing node sends is the next of its channel's stream
    module _ (c : ℕ) (h : c < channels img) where
      sends_next :
          fires img w s (from img c) ≡ true
          → value_at (state_after img w s) (from img c) ≡
          stream img c (firings_at (state_after img w s) (to img c) + length (drop_if (fires img w s (to img c)) (tokens (channel_in img s c))))
      unfolding stream
      sends_next f =
          let t = state_after img w s in
          let kept = drop_if (fires img w s (to img c)) (tokens (channel_in img s c)) in
          let due : firings_at t (to img c) + (length kept + 1) ≡ suc (firings_at t (from img c)) =
          rw (tokens-next img w s c h a, f, length-append) at ((steady-next img a w s steady).balance c h) in
          valued-next (from img c) (a.wires c h).0 ∙ ap (strict img (from img c)) (omega (arith, due))

      streamed_next : Stretch (stream img c) (firings_at (state_after img w s) (to img c)) (tokens (channel_in img (state_after img w s) c))
      streamed_next =
          let t = state_after img w s in
          let now = tokens (channel_in img s c) in
          let takes = fires img w s (to img c) in
          let makes = fires img w s (from img c) in
          let kept : Stretch (stream img c) (firings_at t (to img c)) (drop_if takes now) =
          rw (firings_next img a w s (to img c) (a.wires c h).1)
          (stretch-drop (stream img c) (firings_at s (to img c)) takes now (fires-holds img w s c h) (ok.streamed c h)) in
          rw (tokens-next img w s c h a)
          (stretch-append (stream img c) (firings_at t (to img c)) (drop_if takes now) (one_if makes (value_at t (from img c))) kept
          (stretch_one (stream img c) (firings_at t (to img c) + length (drop_if takes now)) makes (value_at t (from img c)) sends_next))

    pub sound-next : Sound img (state_after img w s)
    sound-next = record { valued = valued-next; streamed = streamed_next }
