-- A run finishes, or row 13 refuses it.
use mathlib.Core.Path.{◌≡◌, refl, sym, ap, ◌∙◌, subst}
use mathlib.Core.Bool.{Bool, true, false}
use Rattle.std.specs.Prelude.{Result, Ok, Err}
use Rattle.refusals.specs.declared.Refusal.{Refusal}
use Rattle.refusals.specs.declared.Refusal.TheVariants.{BadEnd}
use Rattle.refusals.specs.Refusals.{refusal_number}
use mathlib.Core.List.{List, ◌∷◌}
use Prim.Native.Nat.{ℕ, suc, ◌+◌, ◌*◌, ◌≤◌, ◌<◌}
use native.Mathlib.Omega.{arith}
use lib.ListN.{length, get_or, set, length-set}
use lib.Seq.{get_or-set_other}
use lib.Ieee.{Float}
use Rattle.laws.specs.Answer.{refused}
use Rattle.net_node.specs.Table.{node_at, Room}
use Rattle.net_insertion.specs.declared.Place.{Place}
use Rattle.net_event_map.specs.declared.Layout.{Layout}
use Rattle.net_event_map.specs.EventMap.{Mapped}
use Rattle.net_event_map.proofs.Kept.{mapped_else, apart_same}
use Rattle.net_join_paths.specs.declared.EstJoinPath.{EstJoinPath}
use Rattle.grow_ends.specs.Ends.{EndsIn, FinishAs, MarkedAs, finish_answer}
use Rattle.grow_ends.proofs.Kept.{Finished, finished, last_below}
use Rattle.grow_path.specs.Path.{path_of}
use Rattle.grow_rules.specs.Run.{Net, Run, arc_to_end}
use Rattle.grow_rules.specs.Growth.{bad_finish, finished_at, finish_as}
use Rattle.grow_events.specs.declared.Counts.{Counts}
use Rattle.grow_events.specs.Held.{NetIn, ends_at}
use Rattle.grow_state.specs.declared.Plan.{Plan}
use Rattle.grow_state.specs.declared.Front.{Front}
use Rattle.grow_state.specs.declared.Rest.{Rest}
use Rattle.grow_state.specs.Held.{PlanIn, GivesAs, idle, lists}
use Rattle.grow_state.proofs.Keeping.{chained_same, wait_same}
use Rattle.grow_events.proofs.Kept.{net_anew, counts_with}
use Rattle.grow_leg.specs.OneLeg.{AtEnd}

-- ---- what `grow_ends::finish` asks

module _ {w : Layout} {start : List ℕ} {fs : List Float} {us cells : List ℕ} {c : Counts} {net : Net}
    (v : NetIn w start fs us cells c net) where
  pub some_nodes : 0 < c.nodes
  some_nodes = omega (arith, v.sum)

  pub room_here : Room fs us c.nodes
  room_here = record {
    floats = omega (arith, v.room.floats, v.within);
    numbers = omega (arith, v.room.numbers, v.within);
    most = omega (arith, v.room.most, v.within);
  }

  pub marks_inside : ends_at w + c.nodes * 8 ≤ length cells + 7
  marks_inside = omega (arith, v.within, v.apart.nodes_inside)

  pub last_inside : c.last_end < c.nodes
  last_inside = last_below cells (ends_at w) c.last_end c.nodes net.ends v.ends v.ends_below some_nodes

  -- ---- what it answers

  module _ (run : Run) (place : Place) (same : run.place ≡ place) where
    pub finish_told : (r : Result (Unit {0}) Refusal) → FinishAs fs us cells (ends_at w) c.nodes place r
        → r ≡ finish_answer (bad_finish net run)
    finish_told r f = f.is net run v.table v.nodes same (λ i h. v.ended i (omega (arith, v.within)))

    -- ---- the network then

    abbrev ended : Counts
    ended = counts_with c place.idx_prev

    module _ (cells' : List ℕ) (good : bad_finish net run ≡ false)
        (marked : MarkedAs cells cells' (ends_at w) c.last_end place.idx_prev (Ok tt)) where
      abbrev i : ℕ
      i = place.idx_prev

      done : Finished net run cells cells' (ends_at w)
      done = finished net run cells cells' (ends_at w) c.last_end good (omega (arith, v.sum, v.nodes))
          (omega (arith, marks_inside, v.nodes)) v.ends
          (marked ∙ ap (λ (q : Place). set cells (ends_at w + q.idx_prev * 8) (suc c.last_end)) (sym same))

      pub here : i < c.nodes
      here = let e : run.place.idx_prev ≡ i = ap (λ (q : Place). q.idx_prev) same in omega (arith, done.within, v.nodes)

      pub marked_long : length cells' ≡ length cells
      marked_long = ap length marked ∙ length-set cells (ends_at w + i * 8) (suc c.last_end)

      pub marked_else : (q : ℕ) → (q ≡ ends_at w + i * 8 → ⊥) → get_or cells' q 0 ≡ get_or cells q 0
      marked_else q h = ap (λ (xs : List ℕ). get_or xs q 0) marked
          ∙ get_or-set_other cells (ends_at w + i * 8) q (suc c.last_end) 0 h

      map_left : Mapped cells' w (node_at fs us) c.nodes
      map_left =
          let e : w.nodes_at + i * 8 + 2 ≡ ends_at w + i * 8 = omega arith in
          subst (λ (xs : List ℕ). Mapped xs w (node_at fs us) c.nodes)
          (ap (λ (q : ℕ). set cells q (suc c.last_end)) e ∙ sym marked)
          (mapped_else v.mapped v.apart (suc c.last_end) i 2 (omega (arith, here, v.within)) (omega arith)
          (omega arith) v.within)

      pub net_finished : NetIn w cells' fs us cells' ended (finished_at net run)
      unfolding finished_at
      net_finished = net_anew v (arc_to_end run.place ∷ net.noted)
          (record { leg = run.leg; nodes = run.nodes } ∷ net.runs) (record {
            apart = apart_same marked_long v.apart;
            mapped = map_left;
            ends = subst (λ (k : ℕ). EndsIn cells' (ends_at w) k (run.place.idx_prev ∷ net.ends))
                (ap (λ (q : Place). q.idx_prev) same) done.chained;
            ends_below = (omega (arith, done.within, v.nodes), v.ends_below);
            ended = λ k h. done.flags k (v.ended k h);
            elsewhere = λ q h f. refl;
          })

-- ---- the whole

module _ {b : List ℕ} {p : Plan} {fs : List Float} {us : List ℕ} {reals : List Float} {cells : List ℕ}
    {joins : List EstJoinPath} {g : Rest} {front : Front} {net : Net} {run : Run} {rest : List Run}
    (plan : PlanIn b p (length reals)) (a : AtEnd b p (lists fs us reals cells joins) g front net run rest) where
  same_place : run.place ≡ front.mover.place
  same_place = a.front.moves.place

  pub finish_refused : (r : Result (Unit {0}) Refusal)
      → FinishAs fs us cells (ends_at p.w) g.counts.nodes front.mover.place r → (k : Refusal) → r ≡ Err k
      → finish_as (bad_finish net run) net run rest ≡ refused (refusal_number k)
  finish_refused r f k e = go (bad_finish net run) (sym e ∙ finish_told a.grown run front.mover.place same_place r f)
    where
      go : (t : Bool) → Err k ≡ finish_answer t → finish_as t net run rest ≡ refused (refusal_number k)
      go true q = let d : k ≡ BadEnd = cc in ap (λ (x : Refusal). refused (refusal_number x)) (sym d)
      go false q = cc

  pub finish_gives : (r : Result (Unit {0}) Refusal) (cells' : List ℕ)
      → FinishAs fs us cells (ends_at p.w) g.counts.nodes front.mover.place r
      → MarkedAs cells cells' (ends_at p.w) g.counts.last_end front.mover.place.idx_prev r
      → r ≡ Ok tt
      → GivesAs (finish_as (bad_finish net run) net run rest) b p (lists fs us reals cells' joins)
      (idle (record { counts = counts_with g.counts front.mover.place.idx_prev; top = g.top; used = g.used }))
  finish_gives r cells' f m e = gives
    where
      good : bad_finish net run ≡ false
      good = go (bad_finish net run) (sym e ∙ finish_told a.grown run front.mover.place same_place r f)
        where
          go : (t : Bool) → Ok tt ≡ finish_answer t → t ≡ false
          go true q = cc
          go false q = refl

      marked : MarkedAs cells cells' (ends_at p.w) g.counts.last_end front.mover.place.idx_prev (Ok tt)
      marked = subst (MarkedAs cells cells' (ends_at p.w) g.counts.last_end front.mover.place.idx_prev) e m

      other : (q : ℕ) → (q ≡ ends_at p.w + front.mover.place.idx_prev * 8 → ⊥) → get_or cells' q 0 ≡ get_or cells q 0
      other = marked_else a.grown run front.mover.place same_place cells' good marked

      gives : GivesAs (finish_as (bad_finish net run) net run rest) b p (lists fs us reals cells' joins)
          (idle (record { counts = counts_with g.counts front.mover.place.idx_prev; top = g.top; used = g.used }))
      gives = record {
        growth = record { net = finished_at net run; saved = rest };
        is = ap (λ (t : Bool). finish_as t net run rest) good;
        path = path_of b run.leg;
        holds = record {
          grown = net_finished a.grown run front.mover.place same_place cells' good marked;
          chained = chained_same (marked_long a.grown run front.mover.place same_place cells' good marked)
              (λ q k l. other q (λ e. omega (arith, plan.nodes_at))) a.chained;
          kept = record {
            offsets = a.kept.offsets;
            links = λ k l. other (k * 8 + 3) (λ e. omega (arith, plan.nodes_at))
                ∙ a.kept.links k l;
          };
          short = a.short;
          waiting = wait_same (record {
            fields = λ j k l s t. other (j * 8 + k) (λ e. omega (arith, p.r.legs_before, plan.same_nodes));
            entries = λ j k l s t. other (p.r.nodes_at + j * 8 + k) (λ e. omega (arith, plan.same_nodes));
            reals = λ q l. refl;
          }) a.waiting;
          sound = a.sound.1;
          prefixes = a.prefixes;
          separate = a.separate;
        };
      }
