-- "The starred edges are one proved table, settled by one claim on the definitions."
use Prim.Native.Char.{code}
use Rattle.std.specs.Prelude.{Some, Bool, true, false, List, [], ◌∷◌, map, ◌≡◌, refl, ℕ, ℤ, pos, get_or}
use Rattle.laws.specs.Below.{all_below, any_below, pick_below}
use Rattle.laws.specs.Signed.{signed}
use Rattle.laws.specs.Lists.{holds, padded}
use Rattle.laws.specs.Table.{table}
use Rattle.kinds.specs.Kinds.{halve, larger, choose, exact}
use Rattle.image.specs.Image.{nodes, channels, kind, parameter}
use Rattle.pearl.specs.Wrap.{wrap}
use Rattle.pearl.specs.Next.{next_value}
use Rattle.node.specs.Node.{port_value, next_of}
use Rattle.relay.specs.declared.Station.{Station}
use Rattle.relay.specs.Link.{Link, token, link_of, passing, letter, reading}
use Rattle.relay.specs.Station.{held, station_of, place_after}
use Rattle.relay.specs.Row.{stopped, leaving, row_after}
use Rattle.shell.specs.Queue.{waiting, queue_of, full, pushed, popped, queue_after}
use Rattle.shell.specs.Channel.{Channel, arriving, input, stop_below, stop_above, channel_reading, channel_after}
use Rattle.state.specs.State.{node_at, value_at, state_of}
use Rattle.state.specs.Fresh.{fresh_state}
use Rattle.cycle.specs.Cycle.{all_ready, any_blocked, fires, node_after, state_after, after}
use Rattle.cycle.specs.Word.{stalled}
use Rattle.starred.specs.Edges.{edges, given}

-- a link on which the token v is offered
abbrev offered : ℤ → Link
offered v = Some v

-- what a station does in a cycle: what the link that leaves it shows, the station after the cycle, and whether the token that is offered was taken
record Relayed : Type 0 where
  leaving : Link
  after : Station
  taken : Bool

-- one station that holds these tokens in a cycle without a stop below it, to which v is offered: a row of it alone
abbrev relayed : List ℤ → ℤ → Relayed
relayed tokens v =
    let row = held (station_of tokens) ∷ [] in
    let incoming = token (offered v) in
    record {
      leaving = link_of (leaving incoming row);
      after = station_of (get_or (row_after incoming row false) 0 []);
      taken = holds (passing incoming (stopped row false));
    }

-- the image of one count node, parameter 5
abbrev counting : List ℕ
counting = 1 ∷ 0 ∷ 1 ∷ 5 ∷ 0 ∷ 0 ∷ 0 ∷ []

-- every starred edge; a, b and v are any values
pub record Starred : Type 0 where
  pub arithmetic : map given edges ≡ map (λ e. e.expected) edges
  -- "a full station, no stop below, token offered: hands on the older, takes none, holds one"
  pub full-station : (a b v : ℤ) → relayed (a ∷ b ∷ []) v ≡ record { leaving = offered a; after = station_of (b ∷ []); taken = false }
  -- "an empty station, no stop below, token offered: shows I, takes it"
  pub empty_station : (v : ℤ) → relayed [] v ≡ record { leaving = link_of []; after = station_of (v ∷ []); taken = true }
  pub shows_i : reading (link_of []) false ≡ record { letter = code "I"; value = pos 0 }
  -- "an empty queue of depth 1 whose node fires on arrival stays empty": v arrives and is the node's input; the rule and the record
  pub empty_queue :
      (v : ℤ) → let ch : Channel = record { source = v ∷ []; row = []; queue = [] } in
      (channel_reading 1 ch ≡ record { letter = code "T"; value = v }) × (input ch ≡ offered v) × ((channel_after 1 ch true false v).queue ≡ []) ×
      (queue_after (queue_of []) (v ∷ []) true ≡ queue_of [])
  -- "one count node, parameter 5, three free cycles: value 8"
  pub count_node : value_at (after counting (fresh_state counting) (0 ∷ 0 ∷ 0 ∷ [])) 0 ≡ pos 8

pub starred : Starred
unfolding all_below any_below pick_below signed padded table nodes channels kind parameter
    wrap halve larger choose exact next_value
    letter reading held station_of place_after stopped leaving row_after
    waiting queue_of full pushed popped queue_after arriving input stop_below stop_above channel_reading channel_after
    port_value next_of node_at state_of fresh_state stalled all_ready any_blocked fires node_after state_after after
starred =
    record {
      arithmetic = refl;
      full-station = λ a b v. refl;
      empty_station = λ v. refl;
      shows_i = refl;
      empty_queue = λ v. (refl, refl, refl, refl);
      count_node = refl;
    }
