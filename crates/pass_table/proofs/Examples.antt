-- Small tables through the definition, computed: rows 3 to 5, which of them wins, and document 01's example of row 14.
use mathlib.Core.Path.{◌≡◌, refl}
use mathlib.Core.Bool.{true, false}
use mathlib.Core.List.{List, [], ◌∷◌}
use Prim.Native.Nat.{ℕ}
use lib.Ieee.{Float, nan, binary64, of_bits, of_int, le, lt, eq, round}
use Rattle.laws.specs.Answer.{Answer, refused, given}
use Rattle.laws.specs.Below.{some_below}
use Rattle.floats.specs.Floats.{billion, table_float}
use Rattle.laws.specs.Refusals.{first_of}
use Rattle.net_node.specs.Table.{node_at, Table, at}
use Rattle.net_node.specs.Left.{nodes_in, kind_at}
use Rattle.pass_rules.specs.Checks.{prev_holds, next_holds, fake_holds, prev_leads, next_leads, not_both_alternates, node_holds, row14}
use Rattle.pass_rules.specs.Passes.{passes}
use Rattle.pass_table.specs.TableEntry.{table_row3, bad_floats, bad_node, table_row4, stray_node, table_row5, table_times}

-- a float 0 and a float 1, and the floats of a node
abbrev o : Float
o = of_bits binary64 0

abbrev i : Float
i = of_bits binary64 4607182418800017408

abbrev floats : Float → List Float → List Float
floats x rest = x ∷ o ∷ i ∷ i ∷ rest

-- the numbers of a node: next, link, kind
abbrev numbers : ℕ → ℕ → ℕ → List ℕ → List ℕ
numbers next link kind rest = next ∷ 0 ∷ 0 ∷ 0 ∷ link ∷ kind ∷ rest

-- three nodes: the first one's time, next, link and kind
abbrev three : Float → ℕ → ℕ → ℕ → Table
three time next link kind = record { floats = floats time (floats o (floats o [])); numbers = numbers next link kind (numbers 0 0 2 (numbers 0 0 2 [])) }

-- 36,864 + 64 times 3
abbrev asked : ℕ
asked = 37056

abbrev number : Answer Table → ℕ
number (refused k) = k
number (given t) = 0

abbrev answer : Table → Float → ℕ → ℕ
answer t departure bytes = number (table_times t departure bytes)

-- 14: "3 nodes, all indices 0". An event's link may be any number.
all_zero_lem : answer (three o 0 99 2) o asked ≡ 14
unfolding table_times nodes_in table_row3 table_row4 table_row5 bad_node bad_floats kind_at stray_node first_of some_below table_float billion of_bits of_int round le lt eq at node_at passes row14 node_holds prev_holds next_holds fake_holds prev_leads next_leads not_both_alternates
all_zero_lem = refl

-- 3: two nodes and a part of a third; a byte less work space
two_nodes : answer (record { floats = floats o (floats o (o ∷ o ∷ o ∷ [])); numbers = numbers 0 0 2 (numbers 0 0 2 (numbers 0 0 2 [])) }) o asked ≡ 3
unfolding table_times nodes_in table_row3 table_row4 table_row5 bad_node bad_floats kind_at stray_node first_of some_below table_float billion of_bits of_int round le lt eq at node_at
two_nodes = refl

less_space : answer (three o 0 0 2) o 37055 ≡ 3
unfolding table_times nodes_in table_row3 table_row4 table_row5 bad_node bad_floats kind_at stray_node first_of some_below table_float billion of_bits of_int round le lt eq at node_at
less_space = refl

-- 4: a time that is no number, though times are read as untimed; a departure above the limit; an unknown kind. It wins over 5.
time_nan : answer (three nan 0 0 2) o asked ≡ 4
unfolding table_times nodes_in table_row3 table_row4 table_row5 bad_node bad_floats kind_at stray_node first_of some_below table_float billion of_bits of_int round le lt eq at node_at
time_nan = refl

late_departure : answer (three o 0 0 2) (of_bits binary64 4741671816366391297) asked ≡ 4
unfolding table_times nodes_in table_row3 table_row4 table_row5 bad_node bad_floats kind_at stray_node first_of some_below table_float billion of_bits of_int round le lt eq at node_at
late_departure = refl

kind_three : answer (three o 3 0 3) o asked ≡ 4
unfolding table_times nodes_in table_row3 table_row4 table_row5 bad_node bad_floats kind_at stray_node first_of some_below table_float billion of_bits of_int round le lt eq at node_at
kind_three = refl

-- 5: an index that is the number of nodes; 4 takes either sign
index_three : answer (three (of_bits binary64 13830554455654793216) 3 0 2) o asked ≡ 5
unfolding table_times nodes_in table_row3 table_row4 table_row5 bad_node bad_floats kind_at stray_node first_of some_below table_float billion of_bits of_int round le lt eq at node_at
index_three = refl

-- ---- each float and each index by itself, and row 3's limits

-- three nodes: the last one's floats, and its indices
abbrev floated : List Float → Table
floated last = record { floats = floats o (floats o last); numbers = numbers 0 0 2 (numbers 0 0 2 (numbers 0 0 2 [])) }

abbrev indexed : List ℕ → Table
indexed last = record { floats = floats o (floats o (floats o [])); numbers = numbers 0 0 2 (numbers 0 0 2 last) }

-- the infinity, and the next value above 1,000,000,000
abbrev infinite : Float
infinite = of_bits binary64 0x7ff0000000000000

abbrev above : Float
above = of_bits binary64 0x41cdcd6500000001

-- −1,000,000,000, which a table takes, and the next below it
abbrev lowest : Float
lowest = of_bits binary64 0xc1cdcd6500000000

abbrev below : Float
below = of_bits binary64 0xc1cdcd6500000001

record Causes : Type 0 where
  time_infinite : answer (floated (infinite ∷ o ∷ o ∷ o ∷ [])) o asked ≡ 4
  time_to_next_above : answer (floated (o ∷ above ∷ o ∷ o ∷ [])) o asked ≡ 4
  distance_below : answer (floated (o ∷ o ∷ below ∷ o ∷ [])) o asked ≡ 4
  speed_nan : answer (floated (o ∷ o ∷ o ∷ nan ∷ [])) o asked ≡ 4
  departure_infinite : answer (three o 0 0 2) infinite asked ≡ 4
  -- none of these; row 14 follows
  either_sign : answer (floated (lowest ∷ lowest ∷ lowest ∷ lowest ∷ [])) lowest asked ≡ 14
  next_three : answer (indexed (3 ∷ 0 ∷ 0 ∷ 0 ∷ 0 ∷ 2 ∷ [])) o asked ≡ 5
  next_alt_three : answer (indexed (0 ∷ 3 ∷ 0 ∷ 0 ∷ 0 ∷ 2 ∷ [])) o asked ≡ 5
  prev_three : answer (indexed (0 ∷ 0 ∷ 3 ∷ 0 ∷ 0 ∷ 2 ∷ [])) o asked ≡ 5
  prev_alt_three : answer (indexed (0 ∷ 0 ∷ 0 ∷ 3 ∷ 0 ∷ 2 ∷ [])) o asked ≡ 5
  all_two : answer (indexed (2 ∷ 2 ∷ 2 ∷ 2 ∷ 3 ∷ 2 ∷ [])) o asked ≡ 14
  -- row 3 by itself: 3 to 65,535 nodes, and 36,864 + 64 times as many bytes
  least_nodes : table_row3 3 37056 ≡ false
  too_few : table_row3 2 37056 ≡ true
  most_nodes : table_row3 65535 4231104 ≡ false
  most_nodes_short : table_row3 65535 4231103 ≡ true
  too_many : table_row3 65536 8000000 ≡ true

causes : Causes
unfolding table_times nodes_in table_row3 table_row4 table_row5 bad_node bad_floats kind_at stray_node first_of some_below table_float billion of_bits of_int round le lt eq at node_at passes prev_holds next_holds fake_holds prev_leads next_leads not_both_alternates node_holds row14
causes = record {
  time_infinite = refl;
  time_to_next_above = refl;
  distance_below = refl;
  speed_nan = refl;
  departure_infinite = refl;
  either_sign = refl;
  next_three = refl;
  next_alt_three = refl;
  prev_three = refl;
  prev_alt_three = refl;
  all_two = refl;
  least_nodes = refl;
  too_few = refl;
  most_nodes = refl;
  most_nodes_short = refl;
  too_many = refl;
}
