-- What growth keeps between two legs, in the lent slices: the network, the runs that wait, the path of the last leg
-- taken, and the run at the front, which takes its leg next. The definitions of growth are grow_rules' specs/; these
-- are the words of the contracts.
use Rattle.std.specs.Prelude.{◌≡◌, false, List, [], ◌∷◌, ◌++◌, ℕ, ◌+◌, ◌-◌, ◌*◌, ◌≤◌, ◌<◌, length, Float, Option, Some}
use Rattle.std.specs.Prelude.{None, Result, Ok, Err}
use Rattle.laws.specs.Answer.{Answer, refused, given}
use Rattle.book_format.specs.Format.{links, legs, leg_parent, length_bits, float_of, end_of}
use Rattle.book_format.specs.Rows.{row7}
use Rattle.book_format.specs.Chains.{Readable, Chained}
use Rattle.grow_path.specs.Path.{path_of}
use Rattle.grow_path.specs.Kept.{PathIn}
use Rattle.net_join_paths.specs.Entries.{Valid}
use Rattle.net_join_paths.specs.declared.EstJoinPath.{EstJoinPath}
use Rattle.arrayvec.specs.ArrayVec.{ArrayVec}
use Rattle.grow_waiting.specs.Held.{Waiting, SavedIn}
use Rattle.grow_waiting.specs.declared.rooms.Rooms.{Rooms}
use Rattle.grow_rules.specs.Run.{Net, Run, member_of}
use Rattle.grow_rules.specs.Growth.{Growth, join_gap, departure}
use Rattle.grow_events.specs.Held.{NetIn, RunIn}
use Rattle.space.specs.Lent.{Lent}
use Rattle.grow_state.specs.declared.Plan.{Plan}
use Rattle.grow_state.specs.declared.Front.{Front}
use Rattle.grow_state.specs.declared.Rest.{Rest}
use Rattle.grow_state.specs.declared.State.{State}
use Rattle.refusals.specs.declared.Refusal.{Refusal}
use Rattle.refusals.specs.Refusals.{refusal_number}

-- ---- the lent slices

-- What they hold at one moment. In code the slices and lists are parameters of their own: they are lent to be written,
-- each function writes others of them, and a struct of `&mut` would be taken apart at each call, with a ghost name for
-- what each held before.
pub record Lists : Type 0 where
  pub floats : List Float
  pub numbers : List ℕ
  pub reals : List Float
  pub cells : List ℕ
  pub joins : List EstJoinPath

-- five lists as one record
abbrev pub lists : List Float → List ℕ → List Float → List ℕ → List EstJoinPath → Lists
lists fs us rs cs js = record { floats = fs; numbers = us; reals = rs; cells = cs; joins = js }

-- what the slices hold at a function's entry
abbrev pub lists_at_entry : Lent (List Float) → Lent (List ℕ) → Lent (List Float) → Lent (List ℕ)
    → Lent (ArrayVec EstJoinPath)
    → Lists
lists_at_entry floats numbers reals cells joins = record {
  floats = floats.entry.now;
  numbers = numbers.entry.now;
  reals = reals.entry.now;
  cells = cells.entry.now;
  joins = joins.entry.now.items;
}

-- and at its exit
abbrev pub lists_at_exit : Lent (List Float) → Lent (List ℕ) → Lent (List Float) → Lent (List ℕ)
    → Lent (ArrayVec EstJoinPath)
    → Lists
lists_at_exit floats numbers reals cells joins = record {
  floats = floats.exit.now;
  numbers = numbers.exit.now;
  reals = reals.exit.now;
  cells = cells.exit.now;
  joins = joins.exit.now.items;
}

-- ---- the plan

-- What a plan says of a book, and of the room in reals: the path's points stand before the pairs of the runs that wait.
-- The legs' units of cells stand before the nodes', and those before the links'.
pub record PlanIn (b : List ℕ) (p : Plan) (reals : ℕ) : Type 0 where
  pub whole : length b ≡ end_of b
  pub readable : Readable b
  pub row7 : row7 b ≡ false
  pub join : p.join ≡ join_gap b
  pub departs : p.departure ≡ departure b
  pub train : p.length ≡ float_of (length_bits b)
  pub all_links : p.w.links ≡ links b
  pub all_legs : p.r.legs ≡ legs b
  pub nodes_at : p.w.nodes_at ≡ (legs b + 1) * 8
  pub same_nodes : p.r.nodes_at ≡ p.w.nodes_at
  pub same_places : p.r.places ≡ p.w.places
  pub pairs_at : p.r.pairs_at ≡ legs b + 2
  pub pairs : p.r.pairs_at + p.r.legs * 2 + 2 ≤ reals

-- The room that a book's plan takes of the reals. Stands in contracts, not in PlannedBook: the reals are lent to be
-- written, and a struct that held them would be taken apart at each call that writes them.
abbrev pub RealsRoom : List ℕ → List Float → Type 0
RealsRoom b reals = legs b * 3 + 4 ≤ length reals

-- ---- the runs

-- the path of a run before its leg, and how many legs that has
unfoldable pub path_before : List ℕ → ℕ → List ℕ
path_before b j = path_of b (leg_parent b (j - 1))

-- one path begins with another
pub record Begins (path start : List ℕ) : Type 0 where
  pub rest : List ℕ
  pub is : path ≡ start ++ rest

-- Each run's path before its leg is the beginning of that of the run before it, and the first one's of the path that is
-- kept: "last saved run first".
abbrev pub Prefixes : List ℕ → List ℕ → List Run → Type 0
Prefixes b path [] = Unit
Prefixes b path (r ∷ rs) = Begins path (path_before b r.leg) × Prefixes b (path_before b r.leg) rs

-- No run is to take a leg of another's path: so no two take one leg.
pub record Separate (b : List ℕ) (i j : ℕ) : Type 0 where
  pub no_there : member_of (path_of b j) i ≡ false
  pub no_back : member_of (path_of b i) j ≡ false

-- of a leg, and of the legs that these runs take next
abbrev pub SeparateFrom : List ℕ → ℕ → List Run → Type 0
SeparateFrom b i [] = Unit
SeparateFrom b i (r ∷ rs) = Separate b i r.leg × SeparateFrom b i rs

-- of all runs
abbrev pub AllSeparate : List ℕ → List Run → Type 0
AllSeparate b [] = Unit
AllSeparate b (r ∷ rs) = SeparateFrom b r.leg rs × AllSeparate b rs

-- a run in a network of n nodes: its leg is the book's, its place and its entries the network's
pub record RunSound (b : List ℕ) (n : ℕ) (r : Run) : Type 0 where
  pub some : 0 < r.leg
  pub within : r.leg ≤ legs b
  pub stands : r.place.idx_prev < n
  pub few : length r.joins ≤ 1024
  pub valid : Valid r.joins n

-- of all runs
abbrev pub AllSound : List ℕ → ℕ → List Run → Type 0
AllSound b n [] = Unit
AllSound b n (r ∷ rs) = RunSound b n r × AllSound b n rs

-- a run of the definition, as it waits: it has not added since its pop
pub record SameRun (b : List ℕ) (w : Waiting) (r : Run) : Type 0 where
  pub place : w.place ≡ r.place
  pub leg : w.leg ≡ r.leg
  pub depth : w.depth ≡ length (path_before b r.leg)
  pub joins : w.joins ≡ r.joins
  pub has_split : r.has_split ≡ false

-- of all runs, in their order
abbrev pub SameRuns : List ℕ → List Waiting → List Run → Type 0
SameRuns b [] [] = Unit
SameRuns b [] (r ∷ rs) = ⊥
SameRuns b (w ∷ ws) [] = ⊥
SameRuns b (w ∷ ws) (r ∷ rs) = SameRun b w r × SameRuns b ws rs

-- runs of the definition wait in the cells and reals
pub record WaitIn (b : List ℕ) (r : Rooms) (reals : List Float) (cells : List ℕ) (top used : ℕ)
    (saved : List Run) : Type 0 where
  pub runs : List Waiting
  pub kept : SavedIn cells reals r top used runs
  pub same : SameRuns b runs saved

-- the run at the front
pub record FrontIn (b : List ℕ) (joins : List EstJoinPath) (n : ℕ) (f : Front) (run : Run) : Type 0 where
  pub moves : RunIn n f.leg joins f.mover run
  pub depth : f.depth ≡ length (path_before b run.leg)

-- all runs, by the one at the front, if there is one
abbrev pub RunsIn : Option Front → List ℕ → Rooms → List Float → List ℕ → List EstJoinPath → Rest → List Run → Type 0
RunsIn None b r reals cells joins g runs = WaitIn b r reals cells g.top g.used runs
RunsIn (Some f) b r reals cells joins g [] = ⊥
RunsIn (Some f) b r reals cells joins g (run ∷ saved) =
    FrontIn b joins g.counts.nodes f run × WaitIn b r reals cells g.top g.used saved

-- a state with no run at the front
abbrev pub idle : Rest → State
idle g = record { rest = g; front = None }

-- a state with this run at the front
abbrev pub with_front : Rest → Front → State
with_front g f = record { rest = g; front = Some f }

-- ---- the whole

-- Between two legs: the network, the legs' chains, the path that is kept, and the runs, the one at the front first.
pub record DriveIn (b : List ℕ) (p : Plan) (s : Lists) (path : List ℕ) (g : State) (net : Net)
    (runs : List Run) : Type 0 where
  pub grown : NetIn p.w s.cells s.floats s.numbers s.cells g.rest.counts net
  pub chained : Chained b s.cells
  pub kept : PathIn b s.reals s.cells path
  pub short : length path ≤ legs b
  pub waiting : RunsIn g.front b p.r s.reals s.cells s.joins g.rest runs
  pub sound : AllSound b g.rest.counts.nodes runs
  pub prefixes : Prefixes b path runs
  pub separate : AllSeparate b runs

-- some network and runs are
pub record Driving (b : List ℕ) (p : Plan) (s : Lists) (g : State) : Type 0 where
  pub path : List ℕ
  pub net : Net
  pub runs : List Run
  pub holds : DriveIn b p s path g net runs

-- the same of some book and table: what the runs that wait need
pub record SomeDrive (p : Plan) (reals : List Float) (cells : List ℕ) (joins : List EstJoinPath)
    (g : State) : Type 0 where
  pub b : List ℕ
  pub fs : List Float
  pub us : List ℕ
  pub plan : PlanIn b p (length reals)
  pub driving : Driving b p (lists fs us reals cells joins) g

-- what the code answers: the state then, or a refusal
pub record GivesAs (answer : Answer Growth) (b : List ℕ) (p : Plan) (s : Lists) (g : State) : Type 0 where
  pub growth : Growth
  pub is : answer ≡ given growth
  pub path : List ℕ
  pub holds : DriveIn b p s path g growth.net growth.saved

-- the state then, or a refusal
abbrev pub TurnedAs : Answer Growth → List ℕ → Plan → Lists → Result State Refusal → Type 0
TurnedAs answer b p s (Ok g) = GivesAs answer b p s g
TurnedAs answer b p s (Err r) = answer ≡ refused (refusal_number r)

-- the network and the runs that a state had are those of another, whose front's entries lie in other joins
abbrev pub SameDrive : Plan → List Float → List ℕ → List EstJoinPath → List EstJoinPath → State → State → Type 0
SameDrive p reals cells joins joins' g h =
    (b : List ℕ) (fs : List Float) (us path : List ℕ) (net : Net) (runs : List Run)
    → DriveIn b p (lists fs us reals cells joins) path g net runs
    → DriveIn b p (lists fs us reals cells joins') path h net runs
