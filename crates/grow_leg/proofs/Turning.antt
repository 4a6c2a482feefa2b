-- One leg of the run at the front, as `take_leg` says: its events, and what stands in the work space behind them.
use mathlib.Core.Path.{◌≡◌, refl, sym, ap, ◌∙◌, subst}
use mathlib.Core.Bool.{Bool, true, false}
use mathlib.Core.List.{List, [], ◌∷◌}
use Prim.Native.Nat.{ℕ, ◌+◌, ◌*◌, ◌≤◌, ◌<◌}
use native.Mathlib.Omega.{arith}
use lib.ListN.{length, get_or, set}
use lib.Seq.{get_or-set_other}
use lib.Ieee.{Float}
use Rattle.laws.specs.Answer.{Answer, refused, and_then}
use Rattle.book_format.specs.Format.{legs}
use Rattle.book_format.specs.Chains.{Chained}
use Rattle.event_walk.specs.Walk.{row11}
use Rattle.net_join_paths.specs.declared.EstJoinPath.{EstJoinPath}
use Rattle.net_join_paths.specs.Entries.{Valid}
use Rattle.net_insertion.specs.declared.Place.{Place}
use Rattle.grow_path.specs.Path.{path_of, link_of, leg_course}
use Rattle.grow_path.specs.Kept.{PathIn}
use Rattle.grow_rules.specs.Run.{Net, Run, Outcome}
use Rattle.grow_rules.specs.Growth.{Growth, leg_as, leg_done, leg_end_as, finishes, take_leg}
use Rattle.grow_events.specs.declared.Counts.{Counts}
use Rattle.grow_events.specs.declared.Mover.{Mover}
use Rattle.refusals.specs.Refusals.{refusal_number}
use Rattle.grow_events.specs.declared.RunOutcome.{RunOutcome}
use Rattle.grow_events.specs.declared.RunOutcome.TheVariants.{On, Ended}
use Rattle.grow_events.specs.Held.{NetIn, RunIn, GoesAs, LeftAs, OutcomeAs, NotFewer}
use Rattle.grow_events.proofs.Kept.{before_kept, unit_kept, net_restart}
use Rattle.grow_state.specs.declared.Plan.{Plan}
use Rattle.grow_state.specs.declared.Front.{Front}
use Rattle.grow_state.specs.declared.Rest.{Rest}
use Rattle.grow_state.specs.declared.State.{State}
use Rattle.std.specs.Prelude.{Result, Ok, Err}
use Rattle.refusals.specs.declared.Refusal.{Refusal}
use Rattle.grow_state.specs.Held.{PlanIn, DriveIn, WaitIn, AllSound, Prefixes, SeparateFrom, GivesAs, TurnedAs}
use Rattle.grow_state.specs.Held.{path_before, idle, with_front, lists}
use Rattle.grow_state.proofs.Keeping.{chained_same, wait_same, sound_more}
use Rattle.grow_leg.specs.OneLeg.{outcome_as, leg_outcome, WalkedAs, AtEnd, SomeWay, Free}
use Rattle.grow_leg.proofs.Paths.{path_is}
use Rattle.grow_path.proofs.Paths.{path_most}
use Rattle.grow_leg.proofs.Clearing.{all_free}
use Rattle.grow_leg.proofs.Keeping.{plan_above, prefixes_more}
use Rattle.grow_leg.proofs.Walking.{front_in, wait_in, same_leg, depth_inside}

-- a leg's events, then what becomes of the run
take_is : (b : List ℕ) (places : ℕ) (net : Net) (run : Run) (saved : List Run)
    → take_leg b places net run saved ≡ and_then (leg_outcome b places net run) (leg_done b places saved)
unfolding take_leg leg_outcome
take_is b places net run saved = go (row11 (leg_course b run.leg))
  where
    go : (t : Bool) → leg_as t b places net run saved ≡ and_then (outcome_as t b places net run)
        (leg_done b places saved)
    go true = refl
    go false = refl

module _ {b : List ℕ} {p : Plan} {fs : List Float} {us : List ℕ} {reals : List Float} {cells : List ℕ}
    {joins : List EstJoinPath} {path : List ℕ} {g : Rest} {front : Front} {net : Net} {run : Run} {saved : List Run}
    (plan : PlanIn b p (length reals)) (d : DriveIn b p (lists fs us reals cells joins) path (with_front g front) net
    (run ∷ saved))
    (fs' : List Float) (us' : List ℕ) (reals' : List Float) (cells' : List ℕ) (joins' : List EstJoinPath)
    (long : length cells' ≡ length cells) (r : Result RunOutcome Refusal)
    (w : WalkedAs b p run.leg front.depth (leg_outcome b p.w.places net run) reals cells fs' us' reals' cells' joins' r)
    (more : NotFewer g.counts r) where
  abbrev start : List ℕ
  start = set cells (front.depth * 8 + 3) (link_of b run.leg)

  pub take_refused : (k : Refusal) → r ≡ Err k → take_leg b p.w.places net run saved ≡ refused (refusal_number k)
  take_refused k e =
      take_is b p.w.places net run saved
      ∙ ap (λ (x : Answer Outcome). and_then x (leg_done b p.w.places saved))
      (subst (OutcomeAs (leg_outcome b p.w.places net run) p.w start run.leg fs' us' cells' joins') e w.outcome)

  -- ---- what stands behind the events

  short : length (path_of b run.leg) ≤ legs b
  short = omega (arith, path_most b run.leg, d.sound.0.within)

  prefixes : Prefixes b (path_of b run.leg) saved
  prefixes = subst (λ (xs : List ℕ). Prefixes b xs saved)
      (sym (path_is (plan_above plan) run.leg d.sound.0.some d.sound.0.within))
      (prefixes_more b (path_before b run.leg) (run.leg ∷ []) saved d.prefixes.1)

  module _ {c : Counts} {after : Net} (v : NetIn p.w start fs' us' cells' c after) where
    left : (q : ℕ) → q < p.w.nodes_at → (q ≡ front.depth * 8 + 3 → ⊥) → get_or cells' q 0 ≡ get_or cells q 0
    left q h f = before_kept v q h ∙ get_or-set_other cells (front.depth * 8 + 3) q (link_of b run.leg) 0 f

    chained : Chained b cells'
    chained = chained_same long (λ q h f. left q (omega (arith, plan.nodes_at)) (f front.depth)) d.chained

    kept : PathIn b reals' cells' (path_of b run.leg)
    kept = record {
      offsets = w.kept.offsets;
      links = λ k h.
          before_kept v (k * 8 + 3) (omega (arith, short, plan.nodes_at)) ∙ w.kept.links k h;
    }

    waits : WaitIn b p.r reals' cells' g.top g.used saved
    waits = wait_same (record {
      fields = λ j k h l m. left (j * 8 + k) (omega (arith, p.r.legs_before, plan.same_nodes)) (λ e. omega arith);
      entries = λ i k h l m. subst (λ (n : ℕ). get_or cells' (n + i * 8 + k) 0 ≡ get_or cells (n + i * 8 + k) 0)
          (sym plan.same_nodes) (entry i k (omega (arith, plan.same_places)) l m);
      reals = λ q h. w.reals_left q (λ e. omega (arith, depth_inside plan d, plan.pairs_at));
    }) (wait_in plan d)
      where
        entry : (i k : ℕ) → i < p.w.places → 3 ≤ k → k < 5
            → get_or cells' (p.w.nodes_at + i * 8 + k) 0 ≡ get_or cells (p.w.nodes_at + i * 8 + k) 0
        entry i k h l m =
            unit_kept v i k h l (omega arith)
            ∙ get_or-set_other cells (front.depth * 8 + 3) (p.w.nodes_at + i * 8 + k) (link_of b run.leg) 0
            (λ (e : p.w.nodes_at + i * 8 + k ≡ front.depth * 8 + 3). omega (arith, depth_inside plan d, plan.nodes_at))

  -- ---- the run has ended by a join

  pub take_ended : (c : Counts) → r ≡ Ok (Ended c)
      → GivesAs (take_leg b p.w.places net run saved) b p (lists fs' us' reals' cells' joins')
      (idle (record { counts = c; top = g.top; used = g.used }))
  take_ended c e = gives
    where
      o : LeftAs (leg_outcome b p.w.places net run) p.w start fs' us' cells' c
      o = subst (OutcomeAs (leg_outcome b p.w.places net run) p.w start run.leg fs' us' cells' joins') e w.outcome

      grows : g.counts.nodes ≤ c.nodes
      grows = subst (NotFewer g.counts) e more

      gives : GivesAs (take_leg b p.w.places net run saved) b p (lists fs' us' reals' cells' joins')
          (idle (record { counts = c; top = g.top; used = g.used }))
      gives = record {
        growth = record { net = o.after; saved = saved };
        is = take_is b p.w.places net run saved ∙ ap (λ (x : Answer Outcome). and_then x (leg_done b p.w.places saved))
            o.is;
        path = path_of b run.leg;
        holds = record {
          grown = net_restart o.net;
          chained = chained o.net;
          kept = kept o.net;
          short = short;
          waiting = waits o.net;
          sound = sound_more b g.counts.nodes c.nodes saved grows d.sound.1;
          prefixes = prefixes;
          separate = d.separate.1;
        };
      }

  -- ---- the run has done its leg

  module _ (c : Counts) (m : Mover) (e : r ≡ Ok (On c m)) where
    abbrev then_rest : Rest
    then_rest = record { counts = c; top = g.top; used = g.used }

    abbrev then_front : Front
    then_front = record { mover = m; leg = front.leg; depth = front.depth }

    pub took : GoesAs (leg_outcome b p.w.places net run) p.w start run.leg fs' us' cells' joins' c m
    took = subst (OutcomeAs (leg_outcome b p.w.places net run) p.w start run.leg fs' us' cells' joins') e w.outcome

    abbrev on : Run
    on = took.after.run

    leg_same : on.leg ≡ run.leg
    leg_same = took.run.leg

    grows : g.counts.nodes ≤ c.nodes
    grows = subst (NotFewer g.counts) e more

    sound : AllSound b c.nodes (on ∷ saved)
    sound = (
      record {
        some = omega (arith, leg_same, d.sound.0.some);
        within = omega (arith, leg_same, d.sound.0.within);
        stands = omega (arith, took.run.stands, ap (λ (q : Place). q.idx_prev) took.run.place);
        few = omega (arith, ap length took.run.joins, took.run.few);
        valid = subst (λ (xs : List EstJoinPath). Valid xs c.nodes) (sym took.run.joins) took.run.valid;
      },
      sound_more b g.counts.nodes c.nodes saved grows d.sound.1,
    )

    pub took_ends : AtEnd b p (lists fs' us' reals' cells' joins') then_rest then_front took.after.net on saved
    took_ends =
        record {
          grown = net_restart took.net;
          chained = chained took.net;
          kept = subst (λ (j : ℕ). PathIn b reals' cells' (path_of b j)) (sym leg_same) (kept took.net);
          short = subst (λ (j : ℕ). length (path_of b j) ≤ legs b) (sym leg_same) short;
          front = record {
            moves = subst (λ (j : ℕ). RunIn c.nodes j joins' m on) (same_leg plan d) took.run;
            depth = (front_in plan d).depth ∙ ap (λ (j : ℕ). length (path_before b j)) (sym leg_same);
          };
          waiting = waits took.net;
          sound = sound;
          prefixes = subst (λ (j : ℕ). Prefixes b (path_of b j) saved) (sym leg_same) prefixes;
          separate = d.separate.1;
        }

    pub took_free : (l : ℕ) → Free b on saved l
    took_free = all_free (plan_above plan) on c.nodes saved sound
        (subst (λ (j : ℕ). SeparateFrom b j saved) (sym leg_same) d.separate.0)

    pub took_way : SomeWay b p (lists fs' us' reals' cells' joins') then_rest then_front
    took_way = record { net = took.after.net; run = on; rest = saved; ends = took_ends; free = took_free }

    pub take_on : (reals'' : List Float) (cells'' : List ℕ) (t : Result State Refusal)
        → TurnedAs (leg_end_as (finishes b on.leg) b p.w.places took.after saved) b p
        (lists fs' us' reals'' cells'' joins') t → TurnedAs (take_leg b p.w.places net run saved) b p
        (lists fs' us' reals'' cells'' joins') t
    take_on reals'' cells'' t x =
        subst (λ (y : Answer Growth). TurnedAs y b p (lists fs' us' reals'' cells'' joins') t)
        (sym (take_is b p.w.places net run saved ∙ ap
        (λ (y : Answer Outcome). and_then y (leg_done b p.w.places saved)) took.is)) x
