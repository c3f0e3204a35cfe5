-- The strict system and the run's answers, computed: figure 4 for eleven cycles, rings with stations and with values that wrap, and each number.
use Rattle.std.specs.Prelude.{List, [], ◌∷◌, ◌++◌, ◌≡◌, refl, ℕ, pos, negsuc, set, take}
use Rattle.laws.specs.Below.{any_below, sum_below, pick_below}
use Rattle.laws.specs.Signed.{signed}
use Rattle.laws.specs.Table.{table}
use Rattle.kinds.specs.Kinds.{inputs, exact}
use Rattle.image.specs.Image.{nodes, channels, kind, parameter, wire, from, to, port, feeds, depths, stations, depth}
use Rattle.verdict.specs.Judge.{judge, bad_kind, bad_wire, bad_port, fed_twice, not_fed, bad_stations, bad_depth, sizes_number, contents_number, depth_number}
use Rattle.worked_examples.specs.Netlist.{figure4, ring}
use Rattle.node.specs.Node.{port_value, next_of}
use Rattle.pearl.specs.Wrap.{wrap}
use Rattle.pearl.specs.Next.{next_value}
use Rattle.strict.specs.Strict.{strict_next, strict_cycle, strict, stream}
use Rattle.strict.specs.Answer.{strict_number, strict_written}

-- figure 4: counts from 10 and from 100, their sum a cycle later, and that a cycle later in both hold nodes
figure4-cycles :
    table (strict_cycle figure4) 11 ≡
    (pos 10 ∷ pos 100 ∷ pos 0 ∷ pos 0 ∷ pos 0 ∷ []) ∷
    (pos 11 ∷ pos 101 ∷ pos 110 ∷ pos 0 ∷ pos 0 ∷ []) ∷
    (pos 12 ∷ pos 102 ∷ pos 112 ∷ pos 110 ∷ pos 110 ∷ []) ∷
    (pos 13 ∷ pos 103 ∷ pos 114 ∷ pos 112 ∷ pos 112 ∷ []) ∷
    (pos 14 ∷ pos 104 ∷ pos 116 ∷ pos 114 ∷ pos 114 ∷ []) ∷
    (pos 15 ∷ pos 105 ∷ pos 118 ∷ pos 116 ∷ pos 116 ∷ []) ∷
    (pos 16 ∷ pos 106 ∷ pos 120 ∷ pos 118 ∷ pos 118 ∷ []) ∷
    (pos 17 ∷ pos 107 ∷ pos 122 ∷ pos 120 ∷ pos 120 ∷ []) ∷
    (pos 18 ∷ pos 108 ∷ pos 124 ∷ pos 122 ∷ pos 122 ∷ []) ∷
    (pos 19 ∷ pos 109 ∷ pos 126 ∷ pos 124 ∷ pos 124 ∷ []) ∷
    (pos 20 ∷ pos 110 ∷ pos 128 ∷ pos 126 ∷ pos 126 ∷ []) ∷ []
unfolding table pick_below signed nodes channels kind parameter wire from to port feeds port_value next_of wrap exact next_value strict_next strict_cycle
figure4-cycles = refl

-- the tokens of figure 4's trace, channel by channel: T10 T11 .., T100 T101 .., T0 T110 T112 ..
figure4_streams :
    (table (stream figure4 0) 8 ≡ pos 10 ∷ pos 11 ∷ pos 12 ∷ pos 13 ∷ pos 14 ∷ pos 15 ∷ pos 16 ∷ pos 17 ∷ []) ×
    (table (stream figure4 1) 8 ≡ pos 100 ∷ pos 101 ∷ pos 102 ∷ pos 103 ∷ pos 104 ∷ pos 105 ∷ pos 106 ∷ pos 107 ∷ []) ×
    (table (stream figure4 2) 8 ≡ pos 0 ∷ pos 110 ∷ pos 112 ∷ pos 114 ∷ pos 116 ∷ pos 118 ∷ pos 120 ∷ pos 122 ∷ []) ×
    (table (stream figure4 3) 8 ≡ table (stream figure4 2) 8)
unfolding table pick_below signed nodes channels kind parameter wire from to port feeds port_value next_of wrap exact next_value
    strict_next strict_cycle strict stream
figure4_streams = (refl, refl, refl, refl)

-- a cycle costs the same however many came before it: the sum node's value of cycle 300
figure4_late : strict figure4 2 300 ≡ pos 708
unfolding table pick_below signed nodes channels kind parameter wire from to port feeds port_value next_of wrap exact next_value
    strict_next strict_cycle strict
figure4_late = refl

-- one count node, parameter 5, and no channel
count_three : strict (1 ∷ 0 ∷ 1 ∷ 5 ∷ 0 ∷ 0 ∷ 0 ∷ []) 0 3 ≡ pos 8
unfolding table pick_below signed nodes channels kind parameter port_value next_of wrap exact next_value strict_next strict_cycle strict
count_three = refl

-- the ring of a hold and a negate node: its 3 and 8 stations do not count, and after four cycles it has come round
ring-cycles :
    table (strict_cycle ring) 5 ≡
    (pos 7 ∷ negsuc 1 ∷ []) ∷ (negsuc 1 ∷ negsuc 6 ∷ []) ∷ (negsuc 6 ∷ pos 2 ∷ []) ∷ (pos 2 ∷ pos 7 ∷ []) ∷ (pos 7 ∷ negsuc 1 ∷ []) ∷ []
unfolding table pick_below signed nodes channels kind parameter wire from to port feeds port_value next_of wrap exact next_value strict_next strict_cycle
ring-cycles = refl

-- a ring of a total and a negate node, parameters 2147483647 and 1, with 2 stations one way
abbrev wraps : List ℕ
wraps =
    (2 ∷ 2 ∷ []) ++ (3 ∷ 4 ∷ []) ++ (255 ∷ 255 ∷ 255 ∷ 127 ∷ 1 ∷ 0 ∷ 0 ∷ 0 ∷ []) ++ (0 ∷ 1 ∷ 0 ∷ 1 ∷ 0 ∷ 0 ∷ []) ++ (0 ∷ 1 ∷ 2 ∷ 3 ∷ [])

-- the sums of this ring wrap upwards and downwards, negate meets the least value, and after six cycles it has come round
wraps-cycles :
    table (strict_cycle wraps) 7 ≡
    (pos 2147483647 ∷ pos 1 ∷ []) ∷
    (negsuc 2147483647 ∷ negsuc 2147483646 ∷ []) ∷
    (pos 1 ∷ negsuc 2147483647 ∷ []) ∷
    (negsuc 2147483646 ∷ negsuc 0 ∷ []) ∷
    (negsuc 2147483647 ∷ pos 2147483647 ∷ []) ∷
    (negsuc 0 ∷ negsuc 2147483647 ∷ []) ∷
    (pos 2147483647 ∷ pos 1 ∷ []) ∷ []
unfolding table pick_below signed nodes channels kind parameter wire from to port feeds port_value next_of wrap exact next_value strict_next strict_cycle
wraps-cycles = refl

pub record Numbered : Type 0 where
  pub at_5_places : strict_number figure4 10 5 ≡ 0
  pub at_1000000 : strict_number figure4 1000000 5 ≡ 0
  pub at_14 : strict_number figure4 1000001 5 ≡ 14
  pub at_13 : strict_number figure4 10 4 ≡ 13
  pub at_14_and_13 : strict_number figure4 1000001 4 ≡ 14
  pub at_4_and_14_and_13 : strict_number (set figure4 2 0) 1000001 4 ≡ 4
  pub at_3 : strict_number (take 46 figure4) 10 5 ≡ 3
  -- two of four places are written; of one place none is, and none is for a cycle too late
  pub four-places : strict_written ring 1 (pos 1 ∷ pos 2 ∷ pos 3 ∷ pos 4 ∷ []) ≡ negsuc 1 ∷ negsuc 6 ∷ pos 3 ∷ pos 4 ∷ []
  pub one_place : strict_written ring 1 (pos 1 ∷ []) ≡ pos 1 ∷ []
  pub late : strict_written ring 1000001 (pos 1 ∷ pos 2 ∷ pos 3 ∷ []) ≡ pos 1 ∷ pos 2 ∷ pos 3 ∷ []

numbered : Numbered
unfolding table pick_below any_below sum_below signed nodes channels kind parameter wire from to port feeds depths stations depth inputs
    judge sizes_number contents_number depth_number bad_kind bad_wire bad_port fed_twice not_fed bad_stations bad_depth
    port_value next_of wrap exact next_value strict_next strict_cycle strict_number strict_written
numbered =
    record {
      at_5_places = refl;
      at_1000000 = refl;
      at_14 = refl;
      at_13 = refl;
      at_14_and_13 = refl;
      at_4_and_14_and_13 = refl;
      at_3 = refl;
      four-places = refl;
      one_place = refl;
      late = refl;
    }
