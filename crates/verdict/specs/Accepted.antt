-- What acceptance gives: all that other crates use of the judge. Laws/Accepted proves that an accepted image has it, and only such an image.
use Rattle.std.specs.Prelude.{List, ◌≡◌, ℕ, ◌≤◌, ◌<◌, length}
use Rattle.laws.specs.Below.{sum_below}
use Rattle.kinds.specs.Kinds.{last_kind, inputs}
use Rattle.image.specs.Image.{nodes, channels, kind, from, to, port, stations, depth, length_due}

-- a channel that feeds port p of node n
pub record Feeder (img : List ℕ) (n p : ℕ) : Type 0 where
  pub channel : ℕ
  pub there : channel < channels img
  pub node : to img channel ≡ n
  pub input : port img channel ≡ p

-- what an accepted image has, in the rules' words: "N (nodes, 1 to 64)", "C (channels, 0 to 96)", "The length is 2 + 5N + 5C", the table of kinds,
-- wires that name nodes and ports that are there, "Each input port is fed by exactly one channel" (by no second, and by one),
-- "stations 0 to 8, queue 1 to 8", "At most 256 stations stand in one image".
pub record Accepted (img : List ℕ) : Type 0 where
  pub some_nodes : 1 ≤ nodes img
  pub few_nodes : nodes img ≤ 64
  pub few_channels : channels img ≤ 96
  pub whole : length img ≡ length_due img
  pub kinds : (n : ℕ) → n < nodes img → (1 ≤ kind img n) × (kind img n ≤ last_kind)
  pub wires : (c : ℕ) → c < channels img → (from img c < nodes img) × (to img c < nodes img)
  pub ports : (c : ℕ) → c < channels img → port img c < inputs (kind img (to img c))
  pub once : (b c : ℕ) → b < channels img → c < channels img → to img b ≡ to img c → port img b ≡ port img c → b ≡ c
  pub fed : (n p : ℕ) → n < nodes img → p < inputs (kind img n) → Feeder img n p
  pub rows : (c : ℕ) → c < channels img → stations img c ≤ 8
  pub queues : (c : ℕ) → c < channels img → (1 ≤ depth img c) × (depth img c ≤ 8)
  pub few_stations : sum_below (stations img) (channels img) ≤ 256
