-- An origin's run, whose leg is sought and which then waits; and what stays when an origin's events are inserted.
use mathlib.Core.Path.{◌≡◌, refl, sym, ap, ◌∙◌, subst}
use mathlib.Core.Logic.{◌≢◌}
use mathlib.Core.Bool.{Bool, false, ◌||◌}
use mathlib.Core.List.{List, [], ◌∷◌, ◌++◌}
use Prim.{Unit, tt}
use Prim.Native.Nat.{ℕ, zero, suc, ◌+◌, ◌-◌, ◌*◌, ◌≤◌, ◌<◌}
use native.Mathlib.Omega.{arith}
use borrow.Author.Tests.{ne_eqb}
use lib.ListN.{length, get_or}
use lib.Ieee.{Float}
use Rattle.laws.specs.Answer.{refused, given, and_then}
use Rattle.book_format.specs.Format.{legs, leg_parent, leg_link}
use Rattle.book_format.specs.Chains.{leg_below, Chained}
use Rattle.book_legs.specs.declared.TakenLeg.{TakenLeg}
use Rattle.book_legs.specs.Legs.{search_of, leg_search, taken_by, taken_leg}
use Rattle.net_insertion.specs.declared.Place.{Place}
use Rattle.net_join_paths.specs.declared.EstJoinPath.{EstJoinPath}
use Rattle.net_join_paths.specs.Entries.{Valid}
use Rattle.net_event_map.specs.declared.Layout.{Layout}
use Rattle.grow_path.specs.Path.{legs_to, path_of}
use Rattle.grow_path.proofs.Legs.{less_one}
use Rattle.grow_waiting.specs.declared.rooms.Rooms.{Rooms}
use Rattle.grow_waiting.specs.Held.{Waiting, Untaken, SavedIn, waiting_of}
use Rattle.grow_waiting.specs.Held.{SavedElsewhere}
use Rattle.grow_waiting.proofs.Kept.{node_left, save_chained, save_path, save_mapped, saved_room}
use Rattle.book_legs.proofs.Found.{LegOf, leg_found}
use Rattle.grow_rules.specs.Run.{Net, Run, member_of}
use Rattle.grow_rules.specs.Growth.{on_leg, takes, seek_leg}
use Rattle.grow_events.specs.declared.Counts.{Counts}
use Rattle.grow_events.specs.Held.{NetIn, ends_at}
use Rattle.grow_events.proofs.Kept.{before_kept, unit_kept, net_restart, path_kept, net_same}
use Rattle.grow_state.specs.declared.Plan.{Plan}
use Rattle.std.specs.Prelude.{Result, Ok, Err}
use Rattle.refusals.specs.declared.Refusal.{Refusal}
use Rattle.refusals.specs.declared.Refusal.TheVariants.{MissingLeg}
use Rattle.refusals.specs.Refusals.{refusal_number}
use Rattle.grow_state.specs.declared.Rest.{Rest}
use Rattle.grow_state.specs.Held.{PlanIn, path_before, Prefixes, Separate, SeparateFrom, RunSound, AllSound, SameRuns}
use Rattle.grow_state.specs.Held.{WaitIn, DriveIn, idle, lists}
use Rattle.grow_state.proofs.Keeping.{plan_legs, chained_same, wait_same, sound_more}
use Rattle.grow_origins.specs.Origins.{OtherLinks, AllFirst, NotOver, OriginsAs, saved_origin, OriginInserted}

-- ---- the leg

-- the leg that was found, by its row
record FoundLeg (b : List ℕ) (link : ℕ) (leg : TakenLeg) : Type 0 where
  idx : ℕ
  below : leg_below b (legs b) 0 link ≡ suc idx
  number : leg.number ≡ suc idx

abbrev NotMissing : Result TakenLeg Refusal → Type 0
NotMissing (Ok t) = Unit
NotMissing (Err k) = ⊥

abbrev number_in : Result TakenLeg Refusal → ℕ
number_in (Ok t) = t.number
number_in (Err k) = 0

abbrev refusal_in : Refusal → Result TakenLeg Refusal → Refusal
refusal_in d (Ok t) = d
refusal_in d (Err k) = k

leg_number_lem : (b : List ℕ) (n : ℕ) (leg : TakenLeg) → taken_by b (search_of n) ≡ Ok leg → (0 < n) × (leg.number ≡ n)
leg_number_lem b zero leg e = absurd (subst NotMissing (sym e) tt)
leg_number_lem b (suc n) leg e = (omega arith, ap number_in (sym e))

found_leg : (b : List ℕ) (link : ℕ) (t : Result TakenLeg Refusal) (leg : TakenLeg) → t ≡ taken_leg b 0 link → t ≡ Ok leg
    → FoundLeg b link leg
unfolding taken_leg leg_search
found_leg b link t leg e d = go (leg_below b (legs b) 0 link) refl
  where
    go : (n : ℕ) → leg_below b (legs b) 0 link ≡ n → FoundLeg b link leg
    go n q =
        let h = leg_number_lem b n leg (ap (λ (x : ℕ). taken_by b (search_of x)) (sym q) ∙ sym e ∙ d) in
        record { idx = n - 1; below = omega (arith, q, h.0); number = omega (arith, h.0, h.1) }

no_leg : (b : List ℕ) (n : ℕ) (k : Refusal) → taken_by b (search_of n) ≡ Err k → (n ≡ 0) × (MissingLeg ≡ k)
no_leg b zero k e = (refl, ap (refusal_in k) e)
no_leg b (suc n) k e = absurd (subst NotMissing e tt)

-- ---- paths of one leg

none_before : (k : ℕ) (b : List ℕ) → legs_to k b 0 ≡ []
unfolding legs_to
none_before zero b = refl
none_before (suc k) b = refl

path_first : (b : List ℕ) (i : ℕ) → leg_parent b i ≡ 0 → path_of b (suc i) ≡ suc i ∷ []
unfolding path_of legs_to
path_first b i e = ap (λ (xs : List ℕ). xs ++ (suc i ∷ [])) (ap (legs_to i b) e ∙ none_before i b)

before_first : (b : List ℕ) (j : ℕ) → leg_parent b (j - 1) ≡ 0 → path_before b j ≡ []
unfolding path_before path_of
before_first b j e = ap (λ (p : ℕ). path_of b p) e ∙ none_before 0 b

not_member : (i j : ℕ) → (i ≡ j → ⊥) → member_of (i ∷ []) j ≡ false
not_member i j d = ap (λ (t : Bool). t || false) (ne_eqb i j d)

first_separate : (b : List ℕ) (i j : ℕ) → 0 < j → leg_parent b i ≡ 0 → leg_parent b (j - 1) ≡ 0 → (suc i ≡ j → ⊥)
    → Separate b (suc i) j
first_separate b i zero h p q d = absurd (omega arith)
first_separate b i (suc j) h p q d = record {
  no_there = ap (λ (xs : List ℕ). member_of xs (suc i)) (path_first b j (ap (leg_parent b) (sym (less_one j)) ∙ q))
      ∙ not_member (suc j) (suc i) (λ (e : suc j ≡ suc i). d (sym e));
  no_back = ap (λ (xs : List ℕ). member_of xs (suc j)) (path_first b i p) ∙ not_member (suc i) (suc j) d;
}

-- ---- the runs that wait

module _ (b : List ℕ) (link i : ℕ) (e : leg_link b i ≡ link) where
  -- a run over another link takes another leg
  other_leg : (j : ℕ) → leg_link b (j - 1) ≢ link → suc i ≡ j → ⊥
  other_leg j d q = d (ap (λ (x : ℕ). leg_link b (x - 1)) (sym q) ∙ ap (leg_link b) (less_one i) ∙ e)

  all_others : (n : ℕ) (idxs : List ℕ) (runs : List Run) → leg_parent b i ≡ 0 → AllSound b n runs → AllFirst b idxs runs
      → NotOver b link runs → SeparateFrom b (suc i) runs
  all_others n idxs [] p s f o = tt
  all_others n idxs (r ∷ rs) p s f o = (
    first_separate b i r.leg s.0.some p f.0 (other_leg r.leg o.0),
    all_others n idxs rs p s.1 f.1.1 o.1,
  )

  apart_others : (ws : List Waiting) (runs : List Run) → SameRuns b ws runs → NotOver b link runs → Untaken (suc i) ws
  apart_others [] runs s o = tt
  apart_others (w ∷ ws) [] s o = absurd s
  apart_others (w ∷ ws) (r ∷ rs) s o = (
    λ (q : suc i ≡ w.leg). other_leg r.leg o.0 (q ∙ s.0.leg),
    apart_others ws rs s.1 o.1,
  )

prefixes_none : (b : List ℕ) (runs : List Run) (path : List ℕ) → path ≡ [] → Prefixes b [] runs → Prefixes b path runs
prefixes_none b runs path e h = subst (λ (p : List ℕ). Prefixes b p runs) (sym e) h

-- ---- the network while a run is saved

module _ {w : Layout} {r : Rooms} {fs : List Float} {us cells : List ℕ} {c : Counts} {net : Net}
    (v : NetIn w cells fs us cells c net) {cells' : List ℕ} {reals reals' : List Float}
    (s : SavedElsewhere cells cells' reals reals' r)
    (same_nodes : r.nodes_at ≡ w.nodes_at) (same_places : r.places ≡ w.places)
    (long : length cells' ≡ length cells) where
  mark_left : (i : ℕ) → i < w.places → get_or cells' (ends_at w + i * 8) 0 ≡ get_or cells (ends_at w + i * 8) 0
  mark_left i h =
      let e : r.nodes_at + i * 8 + 2 ≡ ends_at w + i * 8 = omega (arith, same_nodes) in
      let l : get_or cells' (r.nodes_at + i * 8 + 2) 0 ≡ get_or cells (r.nodes_at + i * 8 + 2) 0 =
      node_left s i 2 (omega (arith, same_places)) (omega arith) in
      subst (λ (q : ℕ). get_or cells' q 0 ≡ get_or cells q 0) e l

  net_saved : NetIn w cells' fs us cells' c net
  net_saved = net_same v cells' long (save_mapped s v.apart (sym same_nodes) (sym same_places) v.within v.mapped)
      mark_left

-- ---- all that is held, while events are inserted and no run is at the front

module _ {b : List ℕ} {p : Plan} {fs : List Float} {us : List ℕ} {reals : List Float} {cells : List ℕ}
    {joins : List EstJoinPath} {path : List ℕ} {g : Rest} {net : Net} {runs : List Run} {many : ℕ}
    (plan : PlanIn b p many) (d : DriveIn b p (lists fs us reals cells joins) path (idle g) net runs) where
  module _ {fs' : List Float} {us' cells' : List ℕ} {c' : Counts} {net' : Net}
      (v : NetIn p.w cells fs' us' cells' c' net') (more : g.counts.nodes ≤ c'.nodes)
      (long : length cells' ≡ length cells) where
    chained_grown : Chained b cells'
    chained_grown = chained_same long (λ q h f. before_kept v q (omega (arith, plan.nodes_at))) d.chained

    unit_same : (i k : ℕ) → i < p.r.places → 3 ≤ k → k < 5
        → get_or cells' (p.r.nodes_at + i * 8 + k) 0 ≡ get_or cells (p.r.nodes_at + i * 8 + k) 0
    unit_same i k h f e = subst (λ (q : ℕ). get_or cells' (q + i * 8 + k) 0 ≡ get_or cells (q + i * 8 + k) 0)
        (sym plan.same_nodes) (unit_kept v i k (omega (arith, plan.same_places)) f (omega arith))

    waits_grown : WaitIn b p.r reals cells' g.top g.used runs
    waits_grown = wait_same (record {
      fields = λ j k h f e.
          before_kept v (j * 8 + k) (omega (arith, plan.nodes_at, plan.all_legs));
      entries = unit_same;
      reals =
          λ q h. refl;
    }) d.waiting

    pub drive_grown : DriveIn b p (lists fs' us' reals cells' joins) path
        (idle (record { counts = c'; top = g.top; used = g.used })) net' runs
    drive_grown = record {
      grown = net_restart v;
      chained = chained_grown;
      kept = path_kept d.grown v (omega (arith, d.short, plan.nodes_at)) d.kept;
      short = d.short;
      waiting = waits_grown;
      sound = sound_more b g.counts.nodes c'.nodes runs more d.sound;
      prefixes = d.prefixes;
      separate = d.separate;
    }

-- ---- the run is saved

-- its leg is one of the plan's, and its entries have room behind those that wait
pub record SaveAsked (p : Plan) (g : Rest) (leg : ℕ) (joins : List EstJoinPath) : Type 0 where
  pub leg_le_legs : leg ≤ p.r.legs
  pub leg_nonzero : 0 < leg
  pub legs_le_65535 : p.r.legs ≤ 65535
  pub entries_fit : g.used + length joins ≤ p.r.places

module _ (b : List ℕ) (p : Plan) (fs : List Float) (us : List ℕ) (reals : List Float) (cells : List ℕ)
    (joins : List EstJoinPath) (idxs : List ℕ) (g : Rest) (place : Place) (link : ℕ) (net : Net) (run : Run)
    (runs : List Run)
    (plan : PlanIn b p (length reals)) (v : OriginInserted b p
    (lists fs us reals cells joins) idxs g place link net run runs) (t : Result TakenLeg Refusal)
    {b' : List ℕ} (same : b' ≡ b) (read : t ≡ taken_leg b' 0 link) where
  told : t ≡ taken_leg b 0 link
  told = read ∙ ap (λ (x : List ℕ). taken_leg x 0 link) same

  -- row 10
  pub origin_no_leg : (k : Refusal) → t ≡ Err k → saved_origin b link net run runs ≡ refused (refusal_number k)
  unfolding saved_origin seek_leg taken_leg leg_search
  origin_no_leg k e =
      let l = no_leg b (leg_below b (legs b) 0 link) k (sym told ∙ e) in
      ap (λ (n : ℕ). and_then (takes run n) (λ (r : Run). given (record { net = net; saved = r ∷ runs }))) l.0
      ∙ ap (λ (y : Refusal). refused (refusal_number y)) l.1

  module _ (leg : TakenLeg) (is : t ≡ Ok leg) (none : joins ≡ []) where
    leg_is : FoundLeg b link leg
    leg_is = found_leg b link t leg told is

    of : LegOf b (legs b) 0 link leg_is.idx
    of = leg_found b (legs b) 0 link leg_is.idx leg_is.below

    held : DriveIn b p (lists fs us reals cells joins) [] (idle g) net runs
    held = v.origins.holds

    wait : WaitIn b p.r reals cells g.top g.used runs
    wait = held.waiting

    -- what saving asks of the run
    pub save_asks : SaveAsked p g leg.number joins
    save_asks = record {
      leg_le_legs = omega (arith, plan.all_legs, leg_is.number, of.within);
      leg_nonzero = omega (arith, leg_is.number);
      legs_le_65535 = omega (arith, plan.all_legs, plan_legs plan);
      entries_fit = omega (arith, ap length none, saved_room cells reals p.r g.top g.used wait.runs wait.kept);
    }

    then : Run
    then = on_leg run (suc leg_is.idx) false

    answer_is : saved_origin b link net run runs ≡ given (record { net = net; saved = then ∷ runs })
    unfolding saved_origin seek_leg then
    answer_is = ap (λ (n : ℕ). and_then (takes run n) (λ (r : Run). given (record { net = net; saved = r ∷ runs })))
        leg_is.below

    module _ (reals' : List Float) (cells' : List ℕ) (long : length cells' ≡ length cells)
        (s : SavedElsewhere cells cells' reals reals' p.r)
        (saved : (ws : List Waiting) → SavedIn cells reals p.r g.top g.used ws → Untaken leg.number ws
        → SavedIn cells' reals' p.r leg.number (g.used + length joins) (waiting_of place leg.number 0 joins ∷ ws)) where
      abbrev state : Rest
      state = record { counts = g.counts; top = leg.number; used = g.used }

      path_none : path_before b (suc leg_is.idx) ≡ []
      path_none = before_first b (suc leg_is.idx) (ap (leg_parent b) (less_one leg_is.idx) ∙ of.parent)

      wait_more : WaitIn b p.r reals' cells' leg.number g.used (then ∷ runs)
      unfolding then
      wait_more = record {
        runs = waiting_of place leg.number 0 joins ∷ wait.runs;
        kept = subst (λ (n : ℕ). SavedIn cells' reals' p.r leg.number n
            (waiting_of place leg.number 0 joins ∷ wait.runs)) (omega (arith, ap length none))
            (saved wait.runs wait.kept (subst (λ (j : ℕ). Untaken j wait.runs) (sym leg_is.number)
            (apart_others b link leg_is.idx of.link wait.runs runs wait.same v.others)));
        same = (
          record {
            place = sym v.stands;
            leg = leg_is.number;
            depth = sym (ap length path_none);
            joins = none ∙ sym v.no_joins;
            has_split = refl;
          },
          wait.same,
        );
      }

      run_sound : RunSound b g.counts.nodes then
      unfolding then
      run_sound = record {
        some = omega arith;
        within = of.within;
        stands = subst (λ (x : Place). x.idx_prev < g.counts.nodes) (sym v.stands) v.within;
        few = subst (λ (es : List EstJoinPath). length es ≤ 1024) (sym v.no_joins) (omega arith);
        valid = subst (λ (es : List EstJoinPath). Valid es g.counts.nodes) (sym v.no_joins)
            (record { node = λ k h. absurd (omega arith) });
      }

      pub origin_saved : OriginsAs (saved_origin b link net run runs) b p (lists fs us reals' cells' joins) idxs
          (Ok state)
      unfolding then
      origin_saved = record {
        growth = record { net = net; saved = then ∷ runs };
        is = answer_is;
        origins = record {
          holds = record {
            grown = net_saved held.grown s plan.same_nodes plan.same_places long;
            chained = save_chained s (omega (arith, plan.all_legs)) long held.chained;
            kept = save_path s (omega arith) (omega (arith, plan.pairs_at)) held.kept;
            short = omega arith;
            waiting = wait_more;
            sound = (run_sound, held.sound);
            prefixes = (
              record { rest = []; is = sym (ap (λ (xs : List ℕ). xs ++ []) path_none) },
              prefixes_none b runs (path_before b (suc leg_is.idx)) path_none held.prefixes,
            );
            separate = (
              all_others b link leg_is.idx of.link g.counts.nodes idxs runs of.parent held.sound
                  v.origins.firsts v.others,
              held.separate,
            );
          };
          firsts = (
            ap (leg_parent b) (less_one leg_is.idx) ∙ of.parent,
            (
              subst (λ (l : ℕ). OtherLinks b l idxs) (sym (ap (leg_link b) (less_one leg_is.idx) ∙ of.link)) v.apart,
              v.origins.firsts,
            ),
          );
        };
      }
