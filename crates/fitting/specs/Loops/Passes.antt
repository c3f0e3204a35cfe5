-- The passes by which number 21 is tested: places that are used, and the rest. Loops/PassesLaws proves that together they are `fits`.
use Rattle.std.specs.Prelude.{Bool, ◌&&◌, ◌||◌, List, ℕ, ◌*◌, eqb, leb, ltb, length, get_or}
use Rattle.laws.specs.Below.{all_below, sum_below}
use Rattle.laws.specs.Lists.{zero_from}
use Rattle.laws.specs.Signed.{is_zero}
use Rattle.image.specs.Image.{channels, stations, depth}
use Rattle.relay.specs.declared.Station.{Station}
use Rattle.relay.specs.Station.{clear, no_station}
use Rattle.shell.specs.declared.Queue.{Queue}
use Rattle.state.specs.declared.Node.{Node}
use Rattle.state.specs.declared.State.{State}
use Rattle.state.specs.State.{pending_at, station_at, queue_at}
use Rattle.fitting.specs.Fits.{firings_fit, node_clear, stations_fit, pending_clear, balanced}

-- how many tokens the stations of a row hold
unfoldable pub counted : List Station → ℕ
counted row = sum_below (λ j. (get_or row j no_station).count) (length row)

-- whether a node is 0 throughout, as one that is not there
unfoldable pub empty_node : Node → Bool
empty_node node = is_zero node.value && eqb node.firings 0

-- whether a station holds no token and is 0 throughout, as one that is not there
unfoldable pub empty_station : Station → Bool
empty_station station = clear station && eqb station.count 0

-- whether a queue holds no token and is 0 throughout, as one that is not there
unfoldable pub empty_queue : Queue → Bool
empty_queue queue = zero_from 8 queue.count queue.tokens && eqb queue.count 0

module _ (img : List ℕ) (s : State) where
  -- the pass over the nodes: firings, and places that no node uses
  unfoldable pub nodes_fit : Bool
  nodes_fit = firings_fit img s && all_below (node_clear img s) 64

  -- what the first pass over the channels of the image tests of channel c: its counts, and their balance with the firings
  unfoldable pub channel_fits : ℕ → Bool
  channel_fits c = leb (pending_at s c) 1 && (stations_fit img s c && leb (queue_at s c).count (depth img c)) && balanced img s c

  unfoldable pub channels_fit : Bool
  channels_fit = all_below channel_fits (channels img)

  -- what the second pass over the channels of the image tests of channel c: the places of its stations and of its queue
  unfoldable pub contents_clear : ℕ → Bool
  contents_clear c =
      all_below (λ j. clear (station_at s c j)) (stations img c)
      && all_below (λ j. ltb j (stations img c) || empty_station (station_at s c j)) 8
      && zero_from 8 (queue_at s c).count (queue_at s c).tokens

  -- what the pass over the stations tests of place i: an empty station unless its channel is one of the image
  unfoldable pub place_clear : ℕ → Bool
  place_clear i = ltb i (8 * channels img) || empty_station (get_or s.stations i no_station)

  -- what the pass over the queues tests of queue c: an empty queue unless its channel is one of the image
  unfoldable pub queue_empty : ℕ → Bool
  queue_empty c = ltb c (channels img) || empty_queue (queue_at s c)

  -- the passes over the places of all channels, pending bytes, stations and queues
  unfoldable pub channels_clear : Bool
  channels_clear =
      all_below contents_clear (channels img) && all_below (pending_clear img s) 96 && all_below place_clear 768 && all_below queue_empty 96
