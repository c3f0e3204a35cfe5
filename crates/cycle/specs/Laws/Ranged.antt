-- Every value that a state holds is a signed number of 32 bits: so it is in the fresh state of any image, and so it stays. Assumes nothing.
use Rattle.std.specs.Prelude.{unwrap_or, Bool, true, false, List, [], ℕ, ◌<◌, ℤ, pos}
use Rattle.std.specs.List.{All}
use Rattle.std.specs.Int.{w32}
use Rattle.std.proofs.Common.{SFits}
use Rattle.std.proofs.lemmas.List.Elements.{All-nil, All-cons, All-append, All-drop}
use Rattle.laws.specs.Lists.{one_if, drop_if}
use Rattle.laws.specs.Laws.Signed.{signed-fits}
use Rattle.image.specs.Image.{nodes, channels, parameter, from}
use Rattle.verdict.specs.Accepted.{Accepted}
use Rattle.pearl.specs.Next.{next_value}
use Rattle.pearl.specs.Laws.Wrap.{wrap_range}
use Rattle.node.specs.Node.{next_of}
use Rattle.shell.specs.Channel.{tokens}
use Rattle.state.specs.declared.Node.{Node}
use Rattle.state.specs.declared.State.{State}
use Rattle.state.specs.State.{value_at, channel_in}
use Rattle.state.specs.Fresh.{fresh_state}
use Rattle.state.specs.Laws.Fresh.{fresh_node_lem, fresh-tokens}
use Rattle.cycle.specs.Cycle.{input_at, fires, state_after}
use Rattle.cycle.specs.Laws.Cycle.{value_next, tokens-next}
use Rattle.std.proofs.Math.Path.{ap}
use Rattle.laws.specs.Choice.{◌if◌else◌}

-- what the nodes show and what the channels hold are signed numbers of 32 bits
pub record Ranged (img : List ℕ) (s : State) : Type 0 where
  pub shown : (n : ℕ) → n < nodes img → SFits w32 (value_at s n)
  pub held : (c : ℕ) → c < channels img → All (SFits w32) (tokens (channel_in img s c))

pub ranged-fresh : (img : List ℕ) → Accepted img → Ranged img (fresh_state img)
unfolding parameter
ranged-fresh img a =
    record {
      shown = λ n h. rw (ap (λ (x : Node). x.value) (fresh_node_lem img n h)) (signed-fits _);
      held = λ c h. rw (fresh-tokens img a c h) (All-cons (SFits w32) _ [] (signed-fits _) (All-nil (SFits w32)));
    }

dropped : (b : Bool) (l : List ℤ) → All (SFits w32) l → All (SFits w32) (drop_if b l)
dropped true l g = All-drop (SFits w32) 1 l g
dropped false l g = g

added : (b : Bool) (z : ℤ) → SFits w32 z → All (SFits w32) (one_if b z)
added true z g = All-cons (SFits w32) z [] g (All-nil (SFits w32))
added false z g = All-nil (SFits w32)

chosen : (b : Bool) (x y : ℤ) → SFits w32 x → SFits w32 y → SFits w32 (x if b else y)
chosen true x y g h = g
chosen false x y g h = h

module _ (img : List ℕ) (a : Accepted img) (w : ℕ) (s : State) (r : Ranged img s) where
  shown_next : (n : ℕ) → n < nodes img → SFits w32 (value_at (state_after img w s) n)
  unfolding next_of next_value
  shown_next n h =
      rw (value_next img a w s n h)
      (chosen (fires img w s n) (next_of img (λ c. unwrap_or (input_at img s c) (pos 0)) n (value_at s n)) (value_at s n) (wrap_range _) (r.shown n h))

  pub ranged-next : Ranged img (state_after img w s)
  ranged-next =
      record {
        shown = shown_next;
        held = λ c h.
            rw (tokens-next img w s c h a)
            (All-append (SFits w32) _ _ (dropped (fires img w s _) (tokens (channel_in img s c)) (r.held c h))
            (added (fires img w s (from img c)) _ (shown_next (from img c) (a.wires c h).0)));
      }
