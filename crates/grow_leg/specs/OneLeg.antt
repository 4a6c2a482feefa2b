-- Words of the parts of a turn. The turn is `take_leg` of grow_rules' specs/Growth.antt.
use Rattle.std.specs.Prelude.{◌≡◌, ◌≢◌, Bool, true, false, List, ◌∷◌, ℕ, suc, ◌+◌, ◌*◌, ◌≤◌, ◌<◌, length, get_or, set}
use Rattle.std.specs.Prelude.{Float, eqb, Result, Ok, Err}
use Rattle.std.specs.Float.{nan}
use Rattle.laws.specs.Answer.{Answer, refused, given}
use Rattle.book_format.specs.Format.{legs, leg_parent, leg_link, link_next, link_next_alt}
use Rattle.book_format.specs.Chains.{Chained}
use Rattle.event_walk.specs.Walk.{row11}
use Rattle.net_join_paths.specs.declared.EstJoinPath.{EstJoinPath}
use Rattle.arrayvec.specs.ArrayVec.{ArrayVec}
use Rattle.grow_path.specs.Path.{path_of, link_of, leg_course, leg_events}
use Rattle.grow_path.specs.Kept.{PathIn}
use Rattle.grow_rules.specs.Run.{Net, Run, Outcome, run_events}
use Rattle.grow_rules.specs.Growth.{join_gap, on_over, save_over, finish_as, bad_finish, go_on, leg_end_as, finishes}
use Rattle.grow_rules.specs.Growth.{take_leg}
use Rattle.event_walk.specs.Walk.{bad_leg_number}
use Rattle.grow_events.specs.Held.{NetIn, OutcomeAs}
use Rattle.grow_events.specs.declared.RunOutcome.{RunOutcome}
use Rattle.refusals.specs.declared.Refusal.{Refusal}
use Rattle.refusals.specs.declared.Refusal.TheVariants.{NoWayOn}
use Rattle.refusals.specs.Refusals.{refusal_number}
use Rattle.grow_state.specs.declared.Plan.{Plan}
use Rattle.grow_state.specs.declared.State.{State}
use Rattle.grow_state.specs.declared.Rest.{Rest}
use Rattle.grow_state.specs.declared.Front.{Front}
use Rattle.grow_state.specs.Held.{PlanIn, FrontIn, WaitIn, AllSound, Prefixes, SeparateFrom, AllSeparate, Lists, lists}
use Rattle.grow_state.specs.Held.{DriveIn, TurnedAs, with_front}
use Rattle.space.specs.Lent.{Lent, Seen}
use Rattle.book_options.specs.Options.{in_set}
use Rattle.net_node.specs.Table.{Table}
use Rattle.grow_waiting.specs.Steps.{Stacks}
use Rattle.grow_leg.specs.declared.Ways.{Ways}
use Rattle.grow_leg.specs.declared.Ways.TheVariants.{One, Both}

-- ---- a leg's events

-- by whether row 11 holds
abbrev pub outcome_as : Bool → List ℕ → ℕ → Net → Run → Answer Outcome
outcome_as true b places net run = refused bad_leg_number
outcome_as false b places net run =
    run_events places (join_gap b) (leg_events b run.leg) (record { net = net; run = run })

-- row 11, then all events of the leg
unfoldable pub leg_outcome : List ℕ → ℕ → Net → Run → Answer Outcome
leg_outcome b places net run = outcome_as (row11 (leg_course b run.leg)) b places net run

-- What the walk of a leg leaves, whose number is j and behind whose path's first `depth` legs it is put: the path of
-- the leg, and what it made of the network. All else in reals and cells is as it was.
pub record WalkedAs (b : List ℕ) (p : Plan) (j depth : ℕ) (answer : Answer Outcome) (reals : List Float)
    (cells : List ℕ) (fs : List Float) (us : List ℕ) (reals' : List Float) (cells' : List ℕ) (joins : List EstJoinPath)
    (r : Result RunOutcome Refusal) : Type 0 where
  pub kept : PathIn b reals' (set cells (depth * 8 + 3) (link_of b j)) (path_of b j)
  pub reals_left : (q : ℕ) → q ≢ depth + 1 → get_or reals' q nan ≡ get_or reals q nan
  pub outcome : OutcomeAs answer p.w (set cells (depth * 8 + 3) (link_of b j)) j fs us cells' joins r

-- ---- the way on

-- The run at the front has done its leg, whose path is kept; the rest wait.
pub record AtEnd (b : List ℕ) (p : Plan) (s : Lists) (g : Rest) (f : Front) (net : Net) (run : Run)
    (rest : List Run) : Type 0 where
  pub grown : NetIn p.w s.cells s.floats s.numbers s.cells g.counts net
  pub chained : Chained b s.cells
  pub kept : PathIn b s.reals s.cells (path_of b run.leg)
  pub short : length (path_of b run.leg) ≤ legs b
  pub front : FrontIn b s.joins g.counts.nodes f run
  pub waiting : WaitIn b p.r s.reals s.cells g.top g.used rest
  pub sound : AllSound b g.counts.nodes (run ∷ rest)
  pub prefixes : Prefixes b (path_of b run.leg) rest
  pub separate : AllSeparate b rest

-- some run at the front has, in some network
pub record SomeEnd (b : List ℕ) (p : Plan) (s : Lists) (g : Rest) (f : Front) : Type 0 where
  pub net : Net
  pub run : Run
  pub rest : List Run
  pub ends : AtEnd b p s g f net run rest

-- the same, of what a part doesn't look at
pub record SomeEnding (b : List ℕ) (p : Plan) (reals : List Float) (cells : List ℕ) (joins : List EstJoinPath)
    (g : Rest) (f : Front) : Type 0 where
  pub fs : List Float
  pub us : List ℕ
  pub ends : SomeEnd b p (lists fs us reals cells joins) g f

-- whatever the table, the reals and the join entries are
pub record SomeLeg (b cells : List ℕ) (p : Plan) (g : Rest) (f : Front) : Type 0 where
  pub reals : List Float
  pub joins : List EstJoinPath
  pub plan : PlanIn b p (length reals)
  pub ends : SomeEnding b p reals cells joins g f

-- whatever the book, the reals and the join entries are
pub record SomeFinish (p : Plan) (fs : List Float) (us cells : List ℕ) (g : Rest) (f : Front) : Type 0 where
  pub b : List ℕ
  pub reals : List Float
  pub joins : List EstJoinPath
  pub plan : PlanIn b p (length reals)
  pub ends : SomeEnd b p (lists fs us reals cells joins) g f

-- a leg behind the run's, over a link, is separate from those that wait
pub record Free (b : List ℕ) (run : Run) (rest : List Run) (link : ℕ) : Type 0 where
  pub legs_separate : (i : ℕ) → i < legs b → leg_parent b i ≡ run.leg → leg_link b i ≡ link
      → SeparateFrom b (suc i) rest

-- some run is, all of whose legs behind its own are separate from those that wait
pub record SomeWay (b : List ℕ) (p : Plan) (s : Lists) (g : Rest) (f : Front) : Type 0 where
  pub net : Net
  pub run : Run
  pub rest : List Run
  pub ends : AtEnd b p s g f net run rest
  pub free : (l : ℕ) → Free b run rest l

-- whatever the table is
pub record SomeGoing (b : List ℕ) (p : Plan) (reals : List Float) (cells : List ℕ) (joins : List EstJoinPath) (g : Rest)
    (f : Front) : Type 0 where
  pub fs : List Float
  pub us : List ℕ
  pub way : SomeWay b p (lists fs us reals cells joins) g f

-- a copy of the run is saved, or a refusal
pub record SavedOver (answer : Answer (List Run)) (b : List ℕ) (p : Plan) (s : Lists) (g : Rest) (f : Front) (net : Net)
    (run : Run) (rest : List Run) (link : ℕ) : Type 0 where
  pub more : List Run
  pub is : answer ≡ given more
  pub ends : AtEnd b p s g f net run more
  pub free : (l : ℕ) → l ≢ link → Free b run rest l → Free b run more l

-- what the code answers: the state then, or a refusal
abbrev pub SavedAs : Answer (List Run) → List ℕ → Plan → Lists → Net → Run → List Run → ℕ → Front
    → Result Rest Refusal → Type 0
SavedAs answer b p s net run rest link f (Ok g) = SavedOver answer b p s g f net run rest link
SavedAs answer b p s net run rest link f (Err r) = answer ≡ refused (refusal_number r)

-- the links over which a run can go on, by whether next is 0, and whether next and its alternative are in the set
abbrev pub ways_as : Bool → Bool → Bool → ℕ → ℕ → Result Ways Refusal
ways_as true m a next alt = Err NoWayOn
ways_as false false false next alt = Err NoWayOn
ways_as false true false next alt = Ok (One next)
ways_as false false true next alt = Ok (One alt)
ways_as false true true next alt = Ok (Both next alt)

-- the links behind a link over which a run can go on
abbrev pub ways_behind : List ℕ → ℕ → Result Ways Refusal
ways_behind b l =
    ways_as (eqb (link_next b l) 0) (in_set b (link_next b l)) (in_set b (link_next_alt b l)) (link_next b l)
    (link_next_alt b l)

-- ---- what the parts of a turn answer, of every network and runs that the slices hold

-- the run at the front finishes, in these cells
abbrev pub FinishesRun : Plan → Rest → Front → Table → List ℕ → List ℕ → Result State Refusal → Type 0
FinishesRun p g f t cells cells' r =
    (b : List ℕ) (reals : List Float) (joins : List EstJoinPath) (net : Net) (run : Run) (rest : List Run)
    → PlanIn b p (length reals) → AtEnd b p (lists t.floats t.numbers reals cells joins) g f net run rest
    → TurnedAs (finish_as (bad_finish net run) net run rest) b p (lists t.floats t.numbers reals cells' joins) r

-- it goes on over a link, where nothing is written
abbrev pub GoesOver : List ℕ → Plan → Rest → Front → List ℕ → ℕ → Result State Refusal → Type 0
GoesOver b p g f cells link r =
    (fs : List Float) (us : List ℕ) (reals : List Float) (joins : List EstJoinPath) (net : Net) (run : Run)
    (rest : List Run)
    → PlanIn b p (length reals) → AtEnd b p (lists fs us reals cells joins) g f net run rest → Free b run rest link
    → TurnedAs (on_over b net run link rest) b p (lists fs us reals cells joins) r

-- a copy of it is saved to go on over a link
abbrev pub SavesOver : List ℕ → Plan → Rest → Front → ℕ → Stacks → Stacks → List EstJoinPath → Result Rest Refusal
    → Type 0
SavesOver b p g f link s s' joins r =
    (fs : List Float) (us : List ℕ) (net : Net) (run : Run) (rest : List Run)
    → AtEnd b p (lists fs us s.reals s.cells joins) g f net run rest → Free b run rest link
    → SavedAs (save_over b p.w.places run link rest) b p (lists fs us s'.reals s'.cells joins) net run rest
    link f r

-- it goes on behind its leg
abbrev pub GoesBehind : List ℕ → Plan → Rest → Front → Stacks → Stacks → List EstJoinPath → Result State Refusal
    → Type 0
GoesBehind b p g f s s' joins r =
    (fs : List Float) (us : List ℕ) (net : Net) (run : Run) (rest : List Run)
    → AtEnd b p (lists fs us s.reals s.cells joins) g f net run rest → ((l : ℕ) → Free b run rest l)
    → TurnedAs (go_on b p.w.places net run rest) b p (lists fs us s'.reals s'.cells joins) r

-- it finishes or goes on
abbrev pub EndsLeg : List ℕ → Plan → Rest → Front → Lists → Lists → Result State Refusal → Type 0
EndsLeg b p g f s s' r =
    (net : Net) (run : Run) (rest : List Run) → AtEnd b p s g f net run rest → ((l : ℕ) → Free b run rest l)
    → TurnedAs (leg_end_as (finishes b run.leg) b p.w.places (record { net = net; run = run }) rest) b p s' r

-- its leg's events are walked
abbrev pub WalksLeg : List ℕ → Plan → Rest → Front → Lists → Lists → Result RunOutcome Refusal → Type 0
WalksLeg b p g f s s' r =
    (path : List ℕ) (net : Net) (run : Run) (saved : List Run) → DriveIn b p s path (with_front g f) net (run ∷ saved)
    → WalkedAs b p run.leg f.depth (leg_outcome b p.w.places net run) s.reals s.cells
    s'.floats s'.numbers s'.reals s'.cells s'.joins r

-- it takes its leg
abbrev pub TakesLeg : List ℕ → Plan → Rest → Front → Lists → Lists → Result State Refusal → Type 0
TakesLeg b p g f s s' r =
    (path : List ℕ) (net : Net) (run : Run) (saved : List Run) → DriveIn b p s path (with_front g f) net (run ∷ saved)
    → TurnedAs (take_leg b p.w.places net run saved) b p s' r

-- what the slices hold at exit, where the table and the join entries are only read
abbrev pub lists_saved : Seen (List Float) → Seen (List ℕ) → Lent (List Float) → Lent (List ℕ)
    → Seen (ArrayVec EstJoinPath) → Lists
lists_saved floats numbers reals cells joins =
    lists floats.entry.now numbers.entry.now reals.exit.now cells.exit.now joins.entry.now.items
