-- The append as a whole, and the step's answer in each way that it can end.
use mathlib.Core.Path.{◌≡◌, refl, sym, ap, ◌∙◌, subst}
use mathlib.Core.Bool.{Bool, true, false, cond, true≢false}
use mathlib.Core.List.{List, []}
use mathlib.Core.Option.{Option, none, some}
use Prim.{Unit}
use Prim.Native.Nat.{ℕ, ◌+◌, ◌*◌, ◌≤◌, ◌<◌}
use Rattle.std.specs.Prelude.{Result, Ok, Err, IsErr, IsErrAnd}
use Rattle.refusals.specs.declared.Refusal.{Refusal}
use Rattle.refusals.specs.declared.Refusal.TheVariants.{NoPlace}
use lib.Dec.{ltb}
use lib.Ieee.{Float, lt}
use lib.ListN.{get_or}
use Rattle.net_node.specs.declared.EstType.{EstType}
use Rattle.net_node.specs.declared.EstType.TheVariants.{Arrive, Clear, Fake}
use Rattle.net_node.specs.declared.LinkEvent.{LinkEvent}
use Rattle.net_node.specs.declared.EstTime.{EstTime}
use Rattle.net_node.specs.declared.TimedEvent.{TimedEvent}
use Rattle.net_node.specs.Table.{Indexed}
use Rattle.net_event_map.specs.declared.Layout.{Layout}
use Rattle.net_event_map.specs.EventMap.{seen_in, event_nodes, arrive_at, CellsApart, Mapped}
use Rattle.net_event_map.proofs.Chains.{arrive_is}
use Rattle.net_join_paths.specs.declared.EstJoinPath.{EstJoinPath}
use Rattle.net_join_paths.specs.Entries.{EntriesAs, Valid}
use Rattle.net_stack.specs.Stack.{is_arrive}
use Rattle.net_strands.specs.Space.{extended_all}
use Rattle.net_strands.proofs.Kept.{space_sound}
use Rattle.net_joins.specs.declared.SpeedJoin.{SpeedJoin}
use Rattle.net_joins.specs.declared.Step.{Step}
use Rattle.net_joins.specs.Joins.{closest, appended_all, appended, rebuilt, JoinStep, Beyond, step_with, joins_if}
use Rattle.net_joins.specs.Joins.{chosen_as, chosen, join_step, StepAs}
use Rattle.net_joins.specs.Marks.{marks, NamesMarked, Chain, Ending, MapWalkable}
use Rattle.net_joins.proofs.Marking.{next_stays, first_stays, marked_all, marks_back}
use Rattle.net_joins.proofs.Appending.{map_chain}

-- ---- the append

-- the cells while the nodes of a list are marked
module _ {c : List ℕ} {w : Layout} {es : List EstJoinPath} (p : CellsApart c w) (v : Valid es w.places) (d : List ℕ)
    (e : d ≡ marks w.nodes_at 1 es c) where
  pub while_chain : (node : ℕ → EstTime) (n l : ℕ) → n ≤ w.places → Mapped c w node n → l < w.links
      → Chain d w (get_or d (w.links_at + l * 8) 0) (event_nodes node (arrive_at l) n)
  while_chain node n l m x b =
      subst (λ (q : List ℕ). Chain q w (get_or q (w.links_at + l * 8) 0) (event_nodes node (arrive_at l) n)) (sym e)
      (map_chain x m l b (marks w.nodes_at 1 es c) (next_stays p v 1) (first_stays p v 1 l))

  module _ (x : MapWalkable c w) where
    pub while_marked : NamesMarked d w es
    while_marked = subst (λ (q : List ℕ). NamesMarked q w es) (sym e) (marked_all p v x.mapped.unmarked)

    pub while_ending : (l : ℕ) → l < w.links → Ending d w (get_or d (w.links_at + l * 8) 0)
    while_ending l b = record {
      nodes = event_nodes x.node (arrive_at l) x.n;
      chain = while_chain x.node x.n l x.inside x.mapped b;
    }

  -- and after
  pub marks_gone : (node : ℕ → EstTime) (n : ℕ) (fs : List EstJoinPath) (b : List ℕ) → Mapped c w node n → fs ≡ es
      → b ≡ marks w.nodes_at 0 fs d → b ≡ c
  marks_gone node n fs b x f h =
      h ∙ ap (λ (q : List EstJoinPath). marks w.nodes_at 0 q d) f ∙ ap (marks w.nodes_at 0 es) e
      ∙ marks_back p v x.unmarked

arrive_kind : (k : EstType) → is_arrive k ≡ true → k ≡ Arrive
arrive_kind Arrive e = refl
arrive_kind Clear e = absurd (true≢false (sym e))
arrive_kind Fake e = absurd (true≢false (sym e))

module _ (node : ℕ → EstTime) (n : ℕ) (e : LinkEvent) where
  pub append_none : (es : List EstJoinPath) → is_arrive e.est_type ≡ false → appended node n e es ≡ some es
  unfolding appended
  append_none es q = ap (λ (b : Bool). cond b (appended_all es e.link_idx (event_nodes node e n) es) (some es)) q

  append_all : (es : List EstJoinPath) → is_arrive e.est_type ≡ true
      → appended node n e es ≡ appended_all es e.link_idx (event_nodes node (arrive_at e.link_idx) n) es
  unfolding appended
  append_all es t =
      ap (λ (b : Bool). cond b (appended_all es e.link_idx (event_nodes node e n) es) (some es)) t
      ∙ ap (λ (a : LinkEvent). appended_all es e.link_idx (event_nodes node a n) es)
      (arrive_is e (arrive_kind e.est_type t))

  pub append_listed : (es list : List EstJoinPath) (r : Result Unit Refusal) → is_arrive e.est_type ≡ true
      → EntriesAs (appended_all es e.link_idx (event_nodes node (arrive_at e.link_idx) n) es) list r
      → EntriesAs (appended node n e es) list r
  append_listed es list r h l = subst (λ (a : Option (List EstJoinPath)). EntriesAs a list r) (sym (append_all es h)) l

-- ---- each way on

-- a refusal that is passed on by `?`
pub beyond_as : {d : JoinStep} {x : Refusal} (list : List EstJoinPath) (r : Result Step Refusal)
    → IsErr r × IsErrAnd r (λ y. y ≡ x) → d ≡ Beyond → x ≡ NoPlace → StepAs d list r
beyond_as list (Ok s) g h n = absurd g.1
beyond_as list (Err y) g h n = (h, g.1 ∙ n)

-- ---- the step

pub cells_mapped : {c d : List ℕ} {w : Layout} {node : ℕ → EstTime} {n : ℕ} → Mapped c w node n → d ≡ c
    → Mapped d w node n
cells_mapped {c} {d} {w} {node} {n} m e = subst (λ (q : List ℕ). Mapped q w node n) (sym e) m

module _ (node : ℕ → EstTime) (n places : ℕ) (join : Float) (e : TimedEvent) (old : List EstJoinPath) where
  abbrev step : JoinStep
  step = join_step node n places join e old

  -- the list was rebuilt, or did not fit
  module _ (seen : Bool) (g : seen ≡ seen_in node n e.link_event) where
    rebuilt_is : extended_all node n e.link_event seen old [] ≡ rebuilt node n e.link_event old
    unfolding rebuilt
    rebuilt_is = ap (λ (b : Bool). extended_all node n e.link_event b old []) g

    pub step_over : extended_all node n e.link_event seen old [] ≡ none → step ≡ Beyond
    unfolding join_step
    step_over o = ap (chosen node n places join e) (sym rebuilt_is ∙ o)

    module _ (es : List EstJoinPath) (o : extended_all node n e.link_event seen old [] ≡ some es) (best : SpeedJoin)
        (f : best ≡ closest node join e.speed es) where
      step_by : (b : Bool) → lt best.speed_diff_join join ≡ b
          → step ≡ chosen_as b (ltb n places) best.est_idx_join (appended node n e.link_event es)
      unfolding join_step
      step_by b h =
          ap (chosen node n places join e) (sym rebuilt_is ∙ o)
          ∙ ap (λ (x : SpeedJoin). chosen_as (lt x.speed_diff_join join) (ltb n places) x.est_idx_join
          (appended node n e.link_event es)) (sym f)
          ∙ ap (λ (b : Bool). chosen_as b (ltb n places) best.est_idx_join (appended node n e.link_event es)) h

      pub step_joins : (list : List EstJoinPath) (a : Result Step Refusal) → lt best.speed_diff_join join ≡ true
          → StepAs (joins_if (ltb n places) best.est_idx_join) list a → StepAs step list a
      step_joins list a h = subst (λ (d : JoinStep). StepAs d list a) (sym (step_by true h))

      pub step_goes : (list : List EstJoinPath) (a : Result Step Refusal) → lt best.speed_diff_join join ≡ false
          → StepAs (step_with (appended node n e.link_event es)) list a → StepAs step list a
      step_goes list a h = subst (λ (d : JoinStep). StepAs d list a) (sym (step_by false h))

-- a list that was rebuilt names nodes
pub list_built : {node : ℕ → EstTime} {n : ℕ} → Indexed node n
    → (e : LinkEvent) (seen : Bool) (old list : List EstJoinPath) → Valid old n
    → extended_all node n e seen old [] ≡ some list → Valid list n
list_built w e seen old list v o = (space_sound w e seen old list v o).valid
