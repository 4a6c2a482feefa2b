-- Document 01's marked cases, "together as one proved list", and document 02's: each a statement over the crates' definitions, closed by computation.
use mathlib.Core.Path.{◌≡◌, refl}
use mathlib.Core.Bool.{true, false}
use mathlib.Core.List.{List, [], ◌∷◌, ◌++◌, map}
use Prim.Native.Nat.{ℕ, zero, suc, ◌/◌, ◌%◌}
use lib.IntN.{pos}
use lib.ListN.{length, get_or}
use lib.Ieee.{Float, nan, binary64, add, sub, mul, div, lt, le, eq, is_nan, of_bits, to_bits, of_int}
use mathlib.Core.Option.{Option, some}
use Rattle.laws.specs.Answer.{Answer, refused, given}
use Rattle.net_node.specs.declared.EstType.{EstType}
use Rattle.net_node.specs.declared.EstType.TheVariants.{Arrive, Clear, Fake}
use Rattle.net_node.specs.declared.EstTime.{EstTime}
use Rattle.net_node.specs.declared.TimedEvent.{TimedEvent}
use Rattle.net_node.specs.Table.{blank, with_speed, with_next, with_prev, with_event}
use Rattle.net_insertion.specs.Insertion.{matches}
use Rattle.root.specs.Root.{sqrt}
use Rattle.book_format.specs.declared.Sample.{Sample}
use Rattle.event_walk.specs.Course.{Course}
use Rattle.event_walk.specs.Walk.{start, turn, points_passed}
use Rattle.net_join_paths.specs.declared.EstJoinPath.{EstJoinPath}
use Rattle.net_join_paths.specs.Entries.{entry}
use Rattle.net_joins.specs.Joins.{JoinStep, JoinsTo, GoesOn, join_step}
use Rattle.pass_queue.specs.declared.Entry.{Entry}
use Rattle.pass_queue.specs.Queue.{best}
use Rattle.est_times.specs.Sheet.{Finished, job, answered}
use Rattle.sheets.specs.Sheets.{program_sizes, book_text}
use Rattle.laws.specs.Below as BelowOf
use Rattle.laws.specs.Refusals as RefusalsOf
use Rattle.fields.specs.Fields as FieldsOf
use Rattle.floats.specs.Floats as FloatsOf
use Rattle.space.specs.Space as SpaceOf
use Rattle.root.specs.Root as RootOf
use Rattle.book_format.specs.Format as FormatOf
use Rattle.book_format.specs.Rows as RowsOf
use Rattle.book_format.specs.Chains as ChainsOf
use Rattle.book_options.specs.Options as OptionsOf
use Rattle.book_reader.specs.Reader as ReaderOf
use Rattle.event_formula.specs.Event as EventOf
use Rattle.net_node.specs.Table as TableOf
use Rattle.net_node.specs.Left as LeftOf
use Rattle.event_walk.specs.Walk as WalkOf
use Rattle.net_insertion.specs.Insertion as InsertionOf
use Rattle.net_join_paths.specs.Entries as EntriesOf
use Rattle.net_strands.specs.Space as StrandsOf
use Rattle.net_event_map.specs.EventMap as EventMapOf
use Rattle.net_joins.specs.Joins as JoinsOf
use Rattle.grow_path.specs.Path as PathOf
use Rattle.grow_rules.specs.Run as RunOf
use Rattle.grow_rules.specs.Growth as GrowthOf
use Rattle.pass_queue.specs.Queue as QueueOf
use Rattle.pass_rules.specs.Checks as ChecksOf
use Rattle.pass_rules.specs.Forward as ForwardOf
use Rattle.pass_rules.specs.Backward as BackwardOf
use Rattle.pass_rules.specs.Passes as PassesOf
use Rattle.est_times.specs.Network as NetworkOf
use Rattle.est_times.specs.Sheet as SheetOf
use Rattle.listing.specs.Listing as ListingOf

-- ---- "this book"

-- so many bytes of a number, the least first
abbrev bytes : ℕ → ℕ → List ℕ
bytes zero n = []
bytes (suc k) n = n % 256 ∷ bytes k (n / 256)

abbrev number : ℕ → List ℕ
number n = bytes 4 n

-- a whole number of metres, seconds or metres a second
abbrev whole : ℕ → Float
whole n = of_int binary64 (pos n)

abbrev float : ℕ → List ℕ
float n = bytes 8 (to_bits binary64 (whole n))

-- a link without alternatives: its length, next and previous
abbrev link : ℕ → ℕ → ℕ → List ℕ
link length next prev = float length ++ number next ++ number 0 ++ number prev ++ number 0

-- its link, parent and number of samples
abbrev leg : ℕ → ℕ → ℕ → List ℕ
leg link parent samples = number link ++ number parent ++ number samples

abbrev sample : ℕ → ℕ → ℕ → List ℕ
sample time offset speed = float time ++ float offset ++ float speed

-- "J 1, departure 0, length 10. Link 0: all zero. Link 1: length 12, next 2. Link 2: length 100, previous 1. Origin 1, destination 2.
-- Leg 1: link 1, parent 0, sample (0, 10, 0). Leg 2: link 2, parent 1". The destination, leg 1's sample, and leg 2's samples with their number are left open.
-- Each section stands after its count.
abbrev book_of : ℕ → List ℕ → ℕ → List ℕ → List ℕ
book_of destination first count samples =
    float 1
    ++ float 0
    ++ float 10
    ++ (number 3 ++ link 0 0 0 ++ link 12 2 0 ++ link 100 0 1)
    ++ (number 1 ++ number 1 ++ float 0 ++ number 0)
    ++ (number 1 ++ number destination)
    ++ (number 2 ++ leg 1 0 1 ++ leg 2 1 count)
    ++ (number (suc count) ++ first ++ samples)

-- "samples (0, 10, 0), (4, 18, 4), (8, 34, 4)": this is book 2 10. The destination, and the offset in leg 1 and leg 2's first sample, are left open.
abbrev book : ℕ → ℕ → List ℕ
book destination offset = book_of destination (sample 0 offset 0) 3 (sample 0 offset 0 ++ sample 4 18 4 ++ sample 8 34 4)

-- "192 nodes; 65,536 bytes of work space"
abbrev job_of : ℕ → ℕ → Answer Finished
job_of destination offset = job (book destination offset) program_sizes

-- what is printed: the listing of the lent table, or the refusal
abbrev printed : List ℕ → Option (List ℕ)
printed b = book_text b program_sizes

-- nodes 8 added 4 splits 0 joined 0 finished 1
abbrev reported : List ℕ
reported = 110 ∷ 111 ∷ 100 ∷ 101 ∷ 115 ∷ 32 ∷ 56 ∷ 32 ∷ 97 ∷ 100 ∷ 100 ∷ 101 ∷ 100 ∷ 32 ∷ 52 ∷ 32 ∷ 115 ∷ 112 ∷ 108 ∷ 105 ∷ 116 ∷ 115 ∷ 32 ∷ 48 ∷ 32 ∷ 106 ∷ 111 ∷ 105 ∷ 110 ∷ 101 ∷ 100 ∷ 32 ∷ 48 ∷ 32 ∷ 102 ∷ 105 ∷ 110 ∷ 105 ∷ 115 ∷ 104 ∷ 101 ∷ 100 ∷ 32 ∷ 49 ∷ 10 ∷ []

-- 0 F 0 1 0 0 0 0 0 0 0
abbrev line0 : List ℕ
line0 = 48 ∷ 32 ∷ 70 ∷ 32 ∷ 48 ∷ 32 ∷ 49 ∷ 32 ∷ 48 ∷ 32 ∷ 48 ∷ 32 ∷ 48 ∷ 32 ∷ 48 ∷ 32 ∷ 48 ∷ 32 ∷ 48 ∷ 32 ∷ 48 ∷ 10 ∷ []

-- 1 F 0 2 0 0 0 0 0 0 0
abbrev line1 : List ℕ
line1 = 49 ∷ 32 ∷ 70 ∷ 32 ∷ 48 ∷ 32 ∷ 50 ∷ 32 ∷ 48 ∷ 32 ∷ 48 ∷ 32 ∷ 48 ∷ 32 ∷ 48 ∷ 32 ∷ 48 ∷ 32 ∷ 48 ∷ 32 ∷ 48 ∷ 10 ∷ []

-- 2 A 1 3 0 1 0 0 0 4024 0
abbrev line2 : List ℕ
line2 = 50 ∷ 32 ∷ 65 ∷ 32 ∷ 49 ∷ 32 ∷ 51 ∷ 32 ∷ 48 ∷ 32 ∷ 49 ∷ 32 ∷ 48 ∷ 32 ∷ 48 ∷ 32 ∷ 48 ∷ 32 ∷ 52 ∷ 48 ∷ 50 ∷ 52 ∷ 32 ∷ 48 ∷ 10 ∷ []

-- 3 C 1 4 0 2 0 0 4 4 0
abbrev line3 : List ℕ
line3 = 51 ∷ 32 ∷ 67 ∷ 32 ∷ 49 ∷ 32 ∷ 52 ∷ 32 ∷ 48 ∷ 32 ∷ 50 ∷ 32 ∷ 48 ∷ 32 ∷ 48 ∷ 32 ∷ 52 ∷ 32 ∷ 52 ∷ 32 ∷ 48 ∷ 10 ∷ []

-- 4 A 2 5 0 3 0 4 4008 4024 4
abbrev line4 : List ℕ
line4 = 52 ∷ 32 ∷ 65 ∷ 32 ∷ 50 ∷ 32 ∷ 53 ∷ 32 ∷ 48 ∷ 32 ∷ 51 ∷ 32 ∷ 48 ∷ 32 ∷ 52 ∷ 32 ∷ 52 ∷ 48 ∷ 48 ∷ 56 ∷ 32 ∷ 52 ∷ 48 ∷ 50 ∷ 52 ∷ 32 ∷ 52 ∷ 10 ∷ []

-- 5 C 2 6 0 4 0 4014 0 0 401
abbrev line5 : List ℕ
line5 = 53 ∷ 32 ∷ 67 ∷ 32 ∷ 50 ∷ 32 ∷ 54 ∷ 32 ∷ 48 ∷ 32 ∷ 52 ∷ 32 ∷ 48 ∷ 32 ∷ 52 ∷ 48 ∷ 49 ∷ 52 ∷ 32 ∷ 48 ∷ 32 ∷ 48 ∷ 32 ∷ 52 ∷ 48 ∷ 49 ∷ 10 ∷ []

-- 6 F 0 7 0 5 0 4014 0 0 0
abbrev line6 : List ℕ
line6 = 54 ∷ 32 ∷ 70 ∷ 32 ∷ 48 ∷ 32 ∷ 55 ∷ 32 ∷ 48 ∷ 32 ∷ 53 ∷ 32 ∷ 48 ∷ 32 ∷ 52 ∷ 48 ∷ 49 ∷ 52 ∷ 32 ∷ 48 ∷ 32 ∷ 48 ∷ 32 ∷ 48 ∷ 10 ∷ []

-- 7 F 0 0 0 6 0 4014 0 0 0
abbrev line7 : List ℕ
line7 = 55 ∷ 32 ∷ 70 ∷ 32 ∷ 48 ∷ 32 ∷ 48 ∷ 32 ∷ 48 ∷ 32 ∷ 54 ∷ 32 ∷ 48 ∷ 32 ∷ 52 ∷ 48 ∷ 49 ∷ 52 ∷ 32 ∷ 48 ∷ 32 ∷ 48 ∷ 32 ∷ 48 ∷ 10 ∷ []

abbrev listing : List ℕ
listing = reported ++ line0 ++ line1 ++ line2 ++ line3 ++ line4 ++ line5 ++ line6 ++ line7

-- ---- document 02, Ask 1: this book with a stop of a minute on the point between its links

-- with the front, from 2 s on, and with the train's end, from 6 s on: examples/front_on_point.book and back_on_point.book
abbrev front_stands : List ℕ
front_stands = book_of 2 (sample 0 10 0) 5 (sample 0 10 0 ++ sample 2 12 0 ++ sample 62 12 0 ++ sample 66 20 4 ++ sample 70 36 4)

abbrev back_stands : List ℕ
back_stands = book_of 2 (sample 0 10 0) 5 (sample 0 10 0 ++ sample 4 18 4 ++ sample 6 22 0 ++ sample 66 22 0 ++ sample 70 30 4)

-- The front's sheet, by hand: Arrive of link 2 at 2 s and at no speed, its Clear 64.5 s and 10 m later, at 66.5 s and 4 m/s.
-- 4 A 2 5 0 3 0 4 40502 4024 0
abbrev front4 : List ℕ
front4 = 52 ∷ 32 ∷ 65 ∷ 32 ∷ 50 ∷ 32 ∷ 53 ∷ 32 ∷ 48 ∷ 32 ∷ 51 ∷ 32 ∷ 48 ∷ 32 ∷ 52 ∷ 32 ∷ 52 ∷ 48 ∷ 53 ∷ 48 ∷ 50 ∷ 32 ∷ 52 ∷ 48 ∷ 50 ∷ 52 ∷ 32 ∷ 48 ∷ 10 ∷ []

-- 5 C 2 6 0 4 0 4050a 0 0 401
abbrev front5 : List ℕ
front5 = 53 ∷ 32 ∷ 67 ∷ 32 ∷ 50 ∷ 32 ∷ 54 ∷ 32 ∷ 48 ∷ 32 ∷ 52 ∷ 32 ∷ 48 ∷ 32 ∷ 52 ∷ 48 ∷ 53 ∷ 48 ∷ 97 ∷ 32 ∷ 48 ∷ 32 ∷ 48 ∷ 32 ∷ 52 ∷ 48 ∷ 49 ∷ 10 ∷ []

-- 6 F 0 7 0 5 0 4050a 0 0 0
abbrev front6 : List ℕ
front6 = 54 ∷ 32 ∷ 70 ∷ 32 ∷ 48 ∷ 32 ∷ 55 ∷ 32 ∷ 48 ∷ 32 ∷ 53 ∷ 32 ∷ 48 ∷ 32 ∷ 52 ∷ 48 ∷ 53 ∷ 48 ∷ 97 ∷ 32 ∷ 48 ∷ 32 ∷ 48 ∷ 32 ∷ 48 ∷ 10 ∷ []

-- 7 F 0 0 0 6 0 4050a 0 0 0
abbrev front7 : List ℕ
front7 = 55 ∷ 32 ∷ 70 ∷ 32 ∷ 48 ∷ 32 ∷ 48 ∷ 32 ∷ 48 ∷ 32 ∷ 54 ∷ 32 ∷ 48 ∷ 32 ∷ 52 ∷ 48 ∷ 53 ∷ 48 ∷ 97 ∷ 32 ∷ 48 ∷ 32 ∷ 48 ∷ 32 ∷ 48 ∷ 10 ∷ []

-- The end's: Arrive of link 2 at 2 s and 2 m/s, its Clear 4 s and 10 m later, at 6 s and at no speed.
-- 4 A 2 5 0 3 0 4 401 4024 4
abbrev back4 : List ℕ
back4 = 52 ∷ 32 ∷ 65 ∷ 32 ∷ 50 ∷ 32 ∷ 53 ∷ 32 ∷ 48 ∷ 32 ∷ 51 ∷ 32 ∷ 48 ∷ 32 ∷ 52 ∷ 32 ∷ 52 ∷ 48 ∷ 49 ∷ 32 ∷ 52 ∷ 48 ∷ 50 ∷ 52 ∷ 32 ∷ 52 ∷ 10 ∷ []

-- 5 C 2 6 0 4 0 4018 0 0 0
abbrev back5 : List ℕ
back5 = 53 ∷ 32 ∷ 67 ∷ 32 ∷ 50 ∷ 32 ∷ 54 ∷ 32 ∷ 48 ∷ 32 ∷ 52 ∷ 32 ∷ 48 ∷ 32 ∷ 52 ∷ 48 ∷ 49 ∷ 56 ∷ 32 ∷ 48 ∷ 32 ∷ 48 ∷ 32 ∷ 48 ∷ 10 ∷ []

-- 6 F 0 7 0 5 0 4018 0 0 0
abbrev back6 : List ℕ
back6 = 54 ∷ 32 ∷ 70 ∷ 32 ∷ 48 ∷ 32 ∷ 55 ∷ 32 ∷ 48 ∷ 32 ∷ 53 ∷ 32 ∷ 48 ∷ 32 ∷ 52 ∷ 48 ∷ 49 ∷ 56 ∷ 32 ∷ 48 ∷ 32 ∷ 48 ∷ 32 ∷ 48 ∷ 10 ∷ []

-- 7 F 0 0 0 6 0 4018 0 0 0
abbrev back7 : List ℕ
back7 = 55 ∷ 32 ∷ 70 ∷ 32 ∷ 48 ∷ 32 ∷ 48 ∷ 32 ∷ 48 ∷ 32 ∷ 54 ∷ 32 ∷ 48 ∷ 32 ∷ 52 ∷ 48 ∷ 49 ∷ 56 ∷ 32 ∷ 48 ∷ 32 ∷ 48 ∷ 32 ∷ 48 ∷ 10 ∷ []

-- ---- "back + length = front", "back index becoming 1"

-- a train of 10 m on a path with points at these offsets
abbrev course : List ℕ → List Sample → Course
course points samples = record {
  samples = length samples;
  sample = λ i. get_or samples i (record { time = nan; offset = nan; speed = nan });
  points = length points;
  offset = λ k. whole (get_or points k 0);
  length = whole 10;
}

-- a sample's time, offset and speed
abbrev seen : ℕ → ℕ → ℕ → Sample
seen time offset speed = record { time = whole time; offset = whole offset; speed = whole speed }

-- an event: its kind, the point and the offset
record Event : Type 0 where
  kind : EstType
  point : ℕ
  offset : Float

abbrev event : EstType → ℕ → ℕ → Event
event kind point offset = record { kind = kind; point = point; offset = whole offset }

abbrev events : Course → List Event
events c = map (λ p. record { kind = p.est_type; point = p.point; offset = p.offset }) (points_passed c)

-- the back point at 5 m, the front point at some offset
abbrev meeting : ℕ → Course
meeting front = course (0 ∷ 5 ∷ front ∷ 100 ∷ []) (seen 0 12 4 ∷ seen 1 16 4 ∷ [])

-- the train's end reaches point 0 at the second sample; point 1 is at some offset
abbrev entering : ℕ → Course
entering next = course (0 ∷ next ∷ 100 ∷ 200 ∷ []) (seen 0 5 5 ∷ seen 1 10 5 ∷ seen 2 15 5 ∷ [])

-- ---- "gap J", "no entries"

-- a node with its speed, event, next and previous
abbrev node : ℕ → EstType → ℕ → ℕ → ℕ → EstTime
node speed kind link next prev = with_prev (with_next (with_event (with_speed blank (whole speed)) (record { link_idx = link; est_type = kind })) next) prev

-- A run has passed link 1 by its Arrive, node 2, and its Clear, node 3, at 2 m/s. Another, which came another way, has its own Arrive of link 1 as node 4, the last.
abbrev network : ℕ → EstTime
network i = get_or (node 0 Fake 0 1 0 ∷ node 0 Fake 0 2 0 ∷ node 2 Arrive 1 3 1 ∷ node 2 Clear 1 0 2 ∷ node 3 Arrive 1 0 0 ∷ []) i (node 0 Fake 0 0 0)

-- that run's Clear of link 1, at some speed
abbrev clear : ℕ → TimedEvent
clear speed = record { time = whole 4; offset = whole 4; speed = whole speed; link_event = record { link_idx = 1; est_type = Clear } }

-- what becomes of the run there, with J = 1 and these entries
abbrev step : ℕ → List EstJoinPath → JoinStep
step speed entries = join_step network 5 6 (whole 1) (clear speed) entries

-- ---- "equal times"

-- in the forward queue: a time and a node
abbrev waits : ℕ → ℕ → Entry
waits time node = record { time = whole time; sub = whole 0; node = node }

-- ---- the list

record Marked : Type 0 where
  -- "this book": its listing, byte for byte
  worked_book : printed (book 2 10) ≡ some listing
  -- "root of 0"
  root_of_zero : sqrt binary64 (of_bits binary64 0) ≡ of_bits binary64 0
  -- "of 4 (2)"
  root_of_four : sqrt binary64 (whole 4) ≡ whole 2
  -- "of 2 (3ff6a09e667f3bcd)"
  root_of_two : sqrt binary64 (whole 2) ≡ of_bits binary64 0x3ff6a09e667f3bcd
  -- "back + length = front (Arrive)": 5 + 10 = 15. With the front point a metre on, the Clear comes first.
  meets_front : events (meeting 15) ≡ event Arrive 2 15 ∷ event Clear 1 15 ∷ []
  behind_front : events (meeting 16) ≡ event Clear 1 15 ∷ event Arrive 2 16 ∷ []
  -- "back index becoming 1 (nothing emitted)"; where it becomes 2, point 1 is cleared
  back_index_one : turn (entering 50) (start (entering 50)) ≡ record { i = 1; pt_idx_back = 1; pt_idx_front = 1 }
  back_index_one_unseen : events (entering 50) ≡ []
  back_index_two : events (entering 2) ≡ event Clear 1 12 ∷ []
  -- "gap J (no join)", whichever of the two is faster: the run goes on with the entry. At a smaller gap it joins.
  gap_of_j : step 1 (entry 1 2 ∷ []) ≡ GoesOn (entry 0 3 ∷ [])
  gap_of_j_faster : step 3 (entry 1 2 ∷ []) ≡ GoesOn (entry 0 3 ∷ [])
  gap_below_j : step 2 (entry 1 2 ∷ []) ≡ JoinsTo 3
  -- nor does an insertion move a run to a node at that gap
  gap_of_j_unmatched : matches (whole 1) (clear 1) (network 3) ≡ false
  gap_below_j_matched : matches (whole 1) (clear 2) (network 3) ≡ true
  -- "no entries (no join)": the same Clear as the one that joined
  no_entries : step 2 [] ≡ GoesOn []
  -- "equal times (smaller index)", wherever it stands; an earlier time goes first
  equal_times : best false (waits 1 5) (waits 1 3 ∷ []) ≡ waits 1 3
  equal_times_turned : best false (waits 1 3) (waits 1 5 ∷ []) ≡ waits 1 3
  earlier_time : best false (waits 2 3) (waits 1 5 ∷ []) ≡ waits 1 5
  -- "sample at the last point (11)", as row 11 has it: "offset 12 in leg 1 and leg 2's first sample"; at 11 m there is a sheet
  at_last_point : job_of 2 12 ≡ refused 11
  before_last_point : answered (job_of 2 11) ≡ given (record { nodes = 8; added = 4; splits = 0; joined = 0; finished = 1 })
  -- "destination 0 (8)": this book with that destination
  destination_zero_lem : job_of 0 10 ≡ refused 8
  -- a train that stands on a point with its front and one with its end: their listings, byte for byte
  front_stands_lem : printed front_stands ≡ some (reported ++ line0 ++ line1 ++ line2 ++ line3 ++ front4 ++ front5 ++ front6 ++ front7)
  back_stands_lem : printed back_stands ≡ some (reported ++ line0 ++ line1 ++ line2 ++ line3 ++ back4 ++ back5 ++ back6 ++ back7)

marked : Marked
unfolding add sub mul div lt le eq is_nan of_bits to_bits of_int BelowOf.some_below BelowOf.sum_below FieldsOf.u64_at FloatsOf.table_float FloatsOf.book_float FloatsOf.gap FloatsOf.smaller LeftOf.places_of LeftOf.nodes_in SpaceOf.zeros SpaceOf.zero_floats RootOf.sqrt FormatOf.join_bits FormatOf.departure_bits FormatOf.length_bits FormatOf.links FormatOf.origins_at_of FormatOf.origins FormatOf.destinations_at_of FormatOf.destinations FormatOf.legs_at_of FormatOf.legs FormatOf.samples_at_of FormatOf.samples FormatOf.end_of FormatOf.link_length FormatOf.link_next FormatOf.link_next_alt FormatOf.link_prev FormatOf.link_prev_alt FormatOf.origin_link FormatOf.origin_offset FormatOf.origin_front FormatOf.destination_link FormatOf.leg_link FormatOf.leg_parent FormatOf.leg_samples FormatOf.sample_time FormatOf.sample_offset FormatOf.sample_speed FormatOf.first_sample FormatOf.sample_at RowsOf.row1 RowsOf.row2 RowsOf.row3 RowsOf.row4 RowsOf.row5 RowsOf.row6 RowsOf.row7 RefusalsOf.first_of ChainsOf.leg_below OptionsOf.member OptionsOf.origin_below OptionsOf.stacked OptionsOf.pushed OptionsOf.in_set OptionsOf.kept_origins OptionsOf.row8 ReaderOf.read_number EventOf.passing_at EventOf.bad_passing TableOf.same_event TableOf.blank TableOf.node_at TableOf.at TableOf.put TableOf.put_floats TableOf.put_numbers WalkOf.turned WalkOf.passed_as WalkOf.row11 InsertionOf.linked_to InsertionOf.event_node InsertionOf.add_behind InsertionOf.place_at InsertionOf.inserted InsertionOf.inserted_table EntriesOf.entry EntriesOf.push StrandsOf.strand_from StrandsOf.strands StrandsOf.extended_all EventMapOf.seen_in JoinsOf.join_step PathOf.leg_events RunOf.arc_to_end RunOf.run_events GrowthOf.bad_finish GrowthOf.finished_at GrowthOf.grow QueueOf.before QueueOf.best QueueOf.others ChecksOf.node_holds ChecksOf.row14 ForwardOf.forward BackwardOf.backward PassesOf.passes NetworkOf.zero_table NetworkOf.network SheetOf.job ListingOf.sheet_text ListingOf.sheet_in
marked = record {
  worked_book = refl;
  root_of_zero = refl;
  root_of_four = refl;
  root_of_two = refl;
  meets_front = refl;
  behind_front = refl;
  back_index_one = refl;
  back_index_one_unseen = refl;
  back_index_two = refl;
  gap_of_j = refl;
  gap_of_j_faster = refl;
  gap_below_j = refl;
  gap_of_j_unmatched = refl;
  gap_below_j_matched = refl;
  no_entries = refl;
  equal_times = refl;
  equal_times_turned = refl;
  earlier_time = refl;
  at_last_point = refl;
  before_last_point = refl;
  destination_zero_lem = refl;
  front_stands_lem = refl;
  back_stands_lem = refl;
}
