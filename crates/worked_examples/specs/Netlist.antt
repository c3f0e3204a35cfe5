-- Images, computed: figure 4's is accepted, and so is a ring with stations; each number has an image.
use Rattle.std.specs.Prelude.{List, [], ◌∷◌, ◌++◌, ◌≡◌, refl, ℕ, zero, suc, ◌+◌, ◌*◌, pos, negsuc, set, take, replicate}
use Rattle.laws.specs.Below.{any_below, sum_below}
use Rattle.laws.specs.Lists.{padded}
use Rattle.laws.specs.Table.{table}
use Rattle.laws.specs.Signed.{signed}
use Rattle.kinds.specs.Kinds.{last_kind, inputs}
use Rattle.image.specs.declared.Wire.{Wire}
use Rattle.image.specs.Image.{feeds, nodes, channels, kind, parameter, wire, from, to, port, depths, stations, depth, length_due}
use Rattle.image.specs.Readers.{wire_at, no_wire, wires}
use Rattle.image.specs.Loops.Ports.{ports_below}
use Rattle.verdict.specs.Judge.{judge, sizes_number, contents_number, depth_number, bad_kind, bad_wire, bad_port, fed_twice, not_fed, bad_stations, bad_depth}

-- figure 4: kinds 1 1 6 2 2; parameters 10 100 0 0 0; wires 0-2-0, 1-2-1, 2-3-0, 2-4-0; depths 0/2, 0/2, 0/1, 0/1
abbrev pub figure4 : List ℕ
figure4 =
    (5 ∷ 4 ∷ []) ++
    (1 ∷ 1 ∷ 6 ∷ 2 ∷ 2 ∷ []) ++
    (10 ∷ 0 ∷ 0 ∷ 0 ∷ 100 ∷ 0 ∷ 0 ∷ 0 ∷ 0 ∷ 0 ∷ 0 ∷ 0 ∷ 0 ∷ 0 ∷ 0 ∷ 0 ∷ 0 ∷ 0 ∷ 0 ∷ 0 ∷ []) ++
    (0 ∷ 2 ∷ 0 ∷ 1 ∷ 2 ∷ 1 ∷ 2 ∷ 3 ∷ 0 ∷ 2 ∷ 4 ∷ 0 ∷ []) ++
    (0 ∷ 2 ∷ 0 ∷ 2 ∷ 0 ∷ 1 ∷ 0 ∷ 1 ∷ [])

-- a ring of a hold node and a negate node, parameters 7 and -2, with 3 stations one way and 8 the other
abbrev pub ring : List ℕ
ring = (2 ∷ 2 ∷ []) ++ (2 ∷ 4 ∷ []) ++ (7 ∷ 0 ∷ 0 ∷ 0 ∷ 254 ∷ 255 ∷ 255 ∷ 255 ∷ []) ++ (0 ∷ 1 ∷ 0 ∷ 1 ∷ 0 ∷ 0 ∷ []) ++ (3 ∷ 1 ∷ 8 ∷ 8 ∷ [])

-- wires 0-1-0, 0-2-0, .., 0-m-0
abbrev spokes : ℕ → List ℕ
spokes zero = []
spokes (suc m) = spokes m ++ (0 ∷ suc m ∷ 0 ∷ [])

-- the depths of m channels: a/1, .., a/1 and last b/1
abbrev rows : ℕ → ℕ → ℕ → List ℕ
rows a b zero = []
rows a b (suc zero) = b ∷ 1 ∷ []
rows a b (suc (suc m)) = a ∷ 1 ∷ rows a b (suc m)

-- a count node that feeds m hold nodes, with rows of 8 stations and a last one of r
abbrev star : ℕ → ℕ → List ℕ
star m r = (suc m ∷ m ∷ []) ++ (1 ∷ replicate m 2) ++ replicate (4 * suc m) 0 ++ spokes m ++ rows 8 r m

-- the wires 0-0-0, 0-0-1, 0-1-0, 0-1-1, .., to both ports of m sum nodes
abbrev pairs : ℕ → List ℕ
pairs zero = []
pairs (suc m) = pairs m ++ (0 ∷ m ∷ 0 ∷ 0 ∷ m ∷ 1 ∷ [])

-- the wires 0-k-0, 0-(k + 1)-0, .., to the port of m hold nodes from node k on
abbrev singles : ℕ → ℕ → List ℕ
singles k zero = []
singles k (suc m) = 0 ∷ k ∷ 0 ∷ singles (suc k) m

-- 32 sum nodes and k hold nodes, all fed by node 0: 32 + k nodes and 64 + k channels
abbrev fan : ℕ → List ℕ
fan k = ((32 + k) ∷ (64 + k) ∷ []) ++ replicate 32 6 ++ replicate k 2 ++ replicate (4 * (32 + k)) 0 ++ pairs 32 ++ singles 32 k ++ rows 0 0 (64 + k)

pub record Judged : Type 0 where
  pub accepted : judge figure4 ≡ 0
  pub with-stations : judge ring ≡ 0
  pub at_64_nodes_96_channels : judge (fan 32) ≡ 0
  pub at_256_stations : judge (star 32 8) ≡ 0
  pub at_1 : judge (5 ∷ []) ≡ 1
  pub at_2_no_nodes : judge (set figure4 0 0) ≡ 2
  pub at_2_nodes : judge (fan 33) ≡ 2
  pub at_2_nodes_alone : judge (65 ∷ 0 ∷ []) ≡ 2
  pub at_2_channels : judge (1 ∷ 97 ∷ []) ≡ 2
  pub at_3_short : judge (take 46 figure4) ≡ 3
  pub at_3_long : judge (figure4 ++ (0 ∷ [])) ≡ 3
  pub at_4_low : judge (set figure4 2 0) ≡ 4
  pub at_4_high : judge (set figure4 6 (last_kind + 1)) ≡ 4
  pub at_5_from : judge (set figure4 27 5) ≡ 5
  pub at_5_to : judge (set figure4 28 5) ≡ 5
  pub at_6 : judge (set figure4 29 2) ≡ 6
  pub at_6_count : judge (set figure4 28 1) ≡ 6
  pub at_7 : judge (set figure4 32 0) ≡ 7
  -- channels 0 and 95; the last node's second port
  pub at_7_far : judge (set (fan 32) 608 0) ≡ 7
  pub at_8 : judge (set figure4 2 2) ≡ 8
  pub at_8_last : judge (set (fan 32) 65 6) ≡ 8
  pub at_9 : judge (set figure4 39 9) ≡ 9
  pub at_10_none : judge (set figure4 40 0) ≡ 10
  pub at_10_deep : judge (set figure4 46 9) ≡ 10
  pub at_11 : judge (star 33 1) ≡ 11
  -- a lower number wins, wherever its cause stands: queue 0 on channel 0 and no kind at node 4
  pub first-number : judge (set (set figure4 40 0) 6 (last_kind + 1)) ≡ 4

judged : Judged
unfolding judge sizes_number contents_number depth_number nodes channels kind wire from to port depths stations depth inputs feeds
    bad_kind bad_wire bad_port fed_twice not_fed bad_stations bad_depth any_below sum_below
judged =
    record {
      accepted = refl;
      with-stations = refl;
      at_64_nodes_96_channels = refl;
      at_256_stations = refl;
      at_1 = refl;
      at_2_no_nodes = refl;
      at_2_nodes = refl;
      at_2_nodes_alone = refl;
      at_2_channels = refl;
      at_3_short = refl;
      at_3_long = refl;
      at_4_low = refl;
      at_4_high = refl;
      at_5_from = refl;
      at_5_to = refl;
      at_6 = refl;
      at_6_count = refl;
      at_7 = refl;
      at_7_far = refl;
      at_8 = refl;
      at_8_last = refl;
      at_9 = refl;
      at_10_none = refl;
      at_10_deep = refl;
      at_11 = refl;
      first-number = refl;
    }

-- parameters: 10 and 100 in figure 4, and -2 in the ring
parameters : (parameter figure4 0 ≡ pos 10) × (parameter figure4 1 ≡ pos 100) × (parameter ring 1 ≡ negsuc 1)
unfolding parameter nodes signed
parameters = (refl, refl, refl)

-- the ports of figure 4's nodes, three places each, where each channel brings its from node: the sum node has 0 and 1, the hold nodes have 2
ports :
    take 15 (ports_below figure4 (from figure4) 64 4) ≡
    64 ∷ 64 ∷ 64 ∷ 64 ∷ 64 ∷ 64 ∷ 0 ∷ 1 ∷ 64 ∷ 2 ∷ 64 ∷ 64 ∷ 2 ∷ 64 ∷ 64 ∷ []
unfolding nodes wire from to port ports_below
ports = refl

-- ---- how long an image is due to be, by its first two bytes alone, and what its channels are read as
abbrev as_wire : ℕ → ℕ → ℕ → ℕ → ℕ → Wire
as_wire from to port stations depth = record { from = from; to = to; port = port; stations = stations; depth = depth }

due : (length_due figure4 ≡ 47) × (length_due (64 ∷ 96 ∷ []) ≡ 802) × (length_due [] ≡ 2)
unfolding nodes channels
due = (refl, refl, refl)

channels_read :
    (take 5 (wires figure4) ≡ as_wire 0 2 0 0 2 ∷ as_wire 1 2 1 0 2 ∷ as_wire 2 3 0 0 1 ∷ as_wire 2 4 0 0 1 ∷ no_wire ∷ []) ×
    (take 3 (wires ring) ≡ as_wire 0 1 0 3 1 ∷ as_wire 1 0 0 8 8 ∷ no_wire ∷ []) ×
    (take 1 (wires []) ≡ no_wire ∷ [])
unfolding table padded nodes channels wire from to port depths stations depth wire_at wires
channels_read = (refl, refl, refl)
