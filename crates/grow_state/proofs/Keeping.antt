-- What a change elsewhere in the work space leaves: the legs' chains, the runs that wait; and what more nodes leave.
use mathlib.Core.Path.{◌≡◌, sym, ap, ◌∙◌}
use Rattle.std.specs.Prelude.{Result, Ok, Err, IsErrAnd}
use Rattle.laws.specs.Answer.{Answer, refused}
use Rattle.refusals.specs.declared.Refusal.{Refusal}
use Rattle.refusals.specs.Refusals.{refusal_number}
use Rattle.grow_rules.specs.Growth.{Growth}
use Rattle.grow_state.specs.declared.State.{State}
use mathlib.Core.Logic.{◌≢◌}
use mathlib.Core.List.{List, [], ◌∷◌}
use Prim.Native.Nat.{ℕ, ◌+◌, ◌*◌, ◌≤◌, ◌<◌}
use native.Mathlib.Omega.{arith}
use lib.ListN.{length, get_or}
use lib.Ieee.{Float}
use Rattle.book_format.specs.Format.{legs}
use Rattle.book_format.specs.Chains.{Chained}
use Rattle.book_format.proofs.Given.{limits}
use Rattle.grow_waiting.specs.declared.rooms.Rooms.{Rooms}
use Rattle.grow_waiting.proofs.Kept.{Undisturbed, saved_same}
use Rattle.grow_rules.specs.Run.{Run}
use Rattle.grow_events.proofs.Kept.{valid_more}
use Rattle.grow_state.specs.declared.Plan.{Plan}
use Rattle.grow_state.specs.Held.{PlanIn, RealsRoom, WaitIn, AllSound, Lists, TurnedAs}

-- ---- the plan

module _ {b : List ℕ} {p : Plan} {n : ℕ} (a : PlanIn b p n) where
  pub plan_legs : legs b ≤ 65535
  plan_legs = (limits b a.readable.counted.counts).legs_most

  -- more reals have room too
  pub plan_more : (m : ℕ) → n ≤ m → PlanIn b p m
  plan_more m h = record {
    whole = a.whole;
    readable = a.readable;
    row7 = a.row7;
    join = a.join;
    departs = a.departs;
    train = a.train;
    all_links = a.all_links;
    all_legs = a.all_legs;
    nodes_at = a.nodes_at;
    same_nodes = a.same_nodes;
    same_places = a.same_places;
    pairs_at = a.pairs_at;
    pairs = omega (arith, a.pairs, h);
  }

-- what a planned book says of reals that have its room
pub planned_in : {b : List ℕ} {p : Plan} (reals : List Float) → PlanIn b p (legs b * 3 + 4) → RealsRoom b reals
    → PlanIn b p (length reals)
planned_in reals a h = plan_more a (length reals) h

-- ---- the chains: all cells of the legs' units but the path's

pub chained_same : {b c c' : List ℕ} → length c' ≡ length c
    → ((q : ℕ) → q < (legs b + 1) * 8 → ((j : ℕ) → q ≢ j * 8 + 3) → get_or c' q 0 ≡ get_or c q 0) → Chained b c
    → Chained b c'
chained_same {b} {c} {c'} l h v = record {
  room = omega (arith, v.room);
  first = λ p k. h (p * 8) (omega arith) (λ j d. omega arith) ∙ v.first p k;
  before = λ i k. h ((i + 1) * 8 + 1) (omega arith) (λ j d. omega arith) ∙ v.before i k;
  ends = λ j k. h (j * 8 + 2) (omega arith) (λ i d. omega arith) ∙ v.ends j k;
}

-- ---- the runs that wait

pub wait_same : {b : List ℕ} {r : Rooms} {reals reals' : List Float} {cells cells' : List ℕ} {top used : ℕ}
    {runs : List Run} → Undisturbed cells cells' reals reals' r → WaitIn b r reals cells top used runs
    → WaitIn b r reals' cells' top used runs
wait_same {b} {r} {reals} {reals'} {cells} {cells'} {top} {used} u w =
    record { runs = w.runs; kept = saved_same cells reals r top used w.runs u w.kept; same = w.same }

-- ---- more nodes

pub sound_more : (b : List ℕ) (n n' : ℕ) (runs : List Run) → n ≤ n' → AllSound b n runs → AllSound b n' runs
sound_more b n n' [] h s = tt
sound_more b n n' (r ∷ rs) h s = (
  record {
    some = s.0.some;
    within = s.0.within;
    stands = omega (arith, s.0.stands);
    few = s.0.few;
    valid = valid_more h s.0.valid;
  },
  sound_more b n n' rs h s.1,
)

-- ---- a refusal that is handed on

pub turned_refused : (answer : Answer Growth) (b : List ℕ) (p : Plan) (s : Lists) (r : Result State Refusal)
    (k : Refusal) → IsErrAnd r (λ (x : Refusal). x ≡ k) → answer ≡ refused (refusal_number k) → TurnedAs answer b p s r
turned_refused answer b p s (Ok g) k h q = absurd h
turned_refused answer b p s (Err x) k h q = q ∙ ap (λ (y : Refusal). refused (refusal_number y)) (sym h)
