-- One event of a run: it joins, or its list is rebuilt and the event inserted; and what the lent slices hold then.
use mathlib.Core.Path.{◌≡◌, refl, sym, ap, ◌∙◌, subst}
use mathlib.Core.Bool.{Bool, true, false, not}
use mathlib.Core.List.{List}
use Prim.Native.Nat.{ℕ, ◌+◌, ◌<◌}
use native.Mathlib.Omega.{arith}
use borrow.Author.Tests.{not-true, not-false}
use lib.Ieee.{Float}
use Rattle.net_node.proofs.Tables.{RoomIn}
use Rattle.laws.specs.Answer.{Answer, refused}
use Rattle.net_node.specs.declared.TimedEvent.{TimedEvent}
use Rattle.net_node.specs.Table.{node_at, Indexed, Table, at}
use Rattle.net_event_map.specs.declared.Layout.{Layout}
use Rattle.net_event_map.specs.EventMap.{Mapped}
use Rattle.net_join_paths.specs.declared.EstJoinPath.{EstJoinPath}
use Rattle.net_join_paths.proofs.Kept.{Sound}
use Rattle.net_joins.specs.declared.Step.{Step}
use Rattle.net_joins.specs.declared.Step.TheVariants.{Joined, Waits}
use Rattle.net_joins.specs.Joins.{JoinStep, join_step, joined_table, StepAs, SteppedInto}
use Rattle.net_joins.proofs.Kept.{Target, joined_target, waits_sound, stepped_table, joined_room, joined_indexed}
use Rattle.net_joins.proofs.Kept.{joined_mapped}
use Rattle.grow_rules.specs.Run.{Net, Run, After, joined_to, with_joins, insert_event, goes_on, joined_as, event_as}
use Rattle.grow_rules.specs.Run.{run_event}
use Rattle.grow_events.specs.declared.Counts.{Counts}
use Rattle.grow_events.specs.declared.Mover.{Mover}
use Rattle.std.specs.Prelude.{Result, Ok, Err}
use Rattle.refusals.specs.declared.Refusal.{Refusal}
use Rattle.refusals.specs.Refusals.{refusal_number}
use Rattle.grow_events.specs.declared.RunOutcome.{RunOutcome}
use Rattle.grow_events.specs.declared.RunOutcome.TheVariants.{On}
use Rattle.grow_events.specs.Held.{NetIn, RunIn, LeftAs, OutcomeAs, InsertedAs, counts_joined}
use Rattle.grow_ends.proofs.Kept.{below_more}
use Rattle.grow_events.proofs.Inserting.{net_indexed, net_mapped}
use Rattle.net_insertion.specs.Insertion.{table_of}

-- what an insertion gives is what the event gives
abbrev pub as_outcome : Result (Counts × Mover) Refusal → Result RunOutcome Refusal
as_outcome (Ok r) = Ok (On r.0 r.1)
as_outcome (Err r) = Err r

pub inserted_outcome : (answer : Answer After) (w : Layout) (start : List ℕ) (leg : ℕ) (fs : List Float)
    (us cells : List ℕ) (joins : List EstJoinPath) (r : Result (Counts × Mover) Refusal)
    → InsertedAs answer w start leg fs us cells joins r
    → OutcomeAs (goes_on answer) w start leg fs us cells joins (as_outcome r)
inserted_outcome answer w start leg fs us cells joins (Ok r) h = h
inserted_outcome answer w start leg fs us cells joins (Err r) h = ap goes_on h

module _ {w : Layout} {start : List ℕ} {fs : List Float} {us cells : List ℕ} {c : Counts} {net : Net}
    (v : NetIn w start fs us cells c net) {leg : ℕ} {joins : List EstJoinPath} {m : Mover} {run : Run}
    (u : RunIn c.nodes leg joins m run)
    (join : Float) (e : TimedEvent) where
  -- a run that has not added since its pop
  event_alone : not m.has_split ≡ true → run_event w.places join net run e ≡ goes_on
      (insert_event w.places join net run e)
  unfolding run_event
  event_alone h = ap (λ (b : Bool). event_as b w.places join net run e) (u.has_split ∙ not-true m.has_split h)

  pub alone_as : not m.has_split ≡ true → (fs' : List Float) (us' cells' : List ℕ) (joins' : List EstJoinPath)
      (r : Result (Counts × Mover) Refusal) → InsertedAs
      (insert_event w.places join net run e) w start leg fs' us' cells' joins' r → (x : Result RunOutcome Refusal)
      → x ≡ as_outcome r → OutcomeAs (run_event w.places join net run e) w start leg fs' us' cells' joins' x
  alone_as h fs' us' cells' joins' r o x q =
      subst (OutcomeAs (run_event w.places join net run e) w start leg fs' us' cells' joins') (sym q)
      (subst (λ a. OutcomeAs a w start leg fs' us' cells' joins' (as_outcome r)) (sym (event_alone h))
      (inserted_outcome (insert_event w.places join net run e) w start leg fs' us' cells' joins' r o))

  abbrev step_now : JoinStep
  step_now = join_step (node_at fs us) c.nodes w.places join e joins

  -- one that has, and what it got from `join_step`
  module _ (h : not m.has_split ≡ false) (fs' : List Float) (us' cells' : List ℕ) (joins' : List EstJoinPath)
      (s : Result Step Refusal) (f : StepAs step_now joins' s) (t : SteppedInto (table_of fs us) c.nodes e fs' us' s)
      (k : cells' ≡ cells) where
    step_is : (d : JoinStep) → step_now ≡ d → run_event w.places join net run e ≡ joined_as w.places join net run e d
    unfolding run_event at
    step_is d g =
        ap (λ (b : Bool). event_as b w.places join net run e) (u.has_split ∙ not-false m.has_split h)
        ∙ ap (λ (x : Table). joined_as w.places join net run e (join_step (at x) net.nodes w.places join e run.joins))
        v.table
        ∙ ap (λ (n : ℕ). joined_as w.places join net run e (join_step (node_at fs us) n w.places join e run.joins))
        v.nodes
        ∙ ap (λ (es : List EstJoinPath). joined_as w.places join net run e
        (join_step (node_at fs us) c.nodes w.places join e es)) u.joins
        ∙ ap (joined_as w.places join net run e) g

    pub step_refused : (r : Refusal) → s ≡ Err r → (x : Result RunOutcome Refusal) → x ≡ Err r
        → OutcomeAs (run_event w.places join net run e) w start leg fs' us' cells' joins' x
    step_refused r g x h =
        let z : StepAs step_now joins' (Err r) = subst (StepAs step_now joins') g f in
        subst (OutcomeAs (run_event w.places join net run e) w start leg fs' us' cells' joins') (sym h)
        (step_is _ z.0 ∙ ap (λ (y : Refusal). refused (refusal_number y)) (sym z.1))

    -- ---- the run has joined

    module _ (target : ℕ) (g : s ≡ Ok (Joined target)) where
      joins_to : Target c.nodes w.places target
      joins_to = joined_target v.indexed w.places join e joins u.valid joins' target
          (subst (StepAs step_now joins') g f)

      -- what the code asks of the counts
      pub joined_small : (c.nodes < 65535) × (c.joined < 65535)
      joined_small = (omega (arith, joins_to.place, v.room.most), omega (arith, joins_to.place, v.room.most, v.sum))

      same : ◌≡◌ {A = Table} (table_of fs' us') (joined_table (table_of fs us) c.nodes target e)
      same = stepped_table (table_of fs us) c.nodes target e fs' us'
          (subst (SteppedInto (table_of fs us) c.nodes e fs' us') g t)

      abbrev counts : Counts
      counts = counts_joined c

      joined_net : NetIn w start fs' us' cells counts (joined_to net run e target)
      unfolding joined_to at
      joined_net =
          let b = joins_to.within in
          let p = joins_to.place in
          record {
            table = ap (λ (x : Table). joined_table x net.nodes target e) v.table
                ∙ ap (λ (n : ℕ). joined_table (table_of fs us) n target e) v.nodes ∙ sym same;
            nodes = omega (arith, v.nodes);
            added = v.added;
            splits = v.splits;
            joined = omega (arith, v.joined);
            sum = omega (arith, v.sum);
            room = subst (λ (x : Table). RoomIn x w.places) (sym same)
                (joined_room (table_of fs us) c.nodes target w.places e v.room (net_indexed v) b p);
            within = omega (arith, p);
            indexed = subst (λ (x : Table). Indexed (at x) (c.nodes + 1)) (sym same)
                (joined_indexed (table_of fs us) c.nodes target w.places e v.room (net_indexed v) b p);
            apart = v.apart;
            mapped = subst (λ (x : Table). Mapped cells w (at x) (c.nodes + 1)) (sym same)
                (joined_mapped (table_of fs us) c.nodes target w.places e v.room (net_indexed v) b p cells w p
                (net_mapped v));
            ends = v.ends;
            ends_below = below_more c.nodes (c.nodes + 1) net.ends (omega arith) v.ends_below;
            ended = v.ended;
            elsewhere = v.elsewhere;
          }

      pub step_joined : (d : Counts) → d ≡ counts → LeftAs (run_event w.places join net run e) w start fs' us' cells' d
      step_joined d z =
          subst (λ (d : Counts). LeftAs (run_event w.places join net run e) w start fs' us' cells' d) (sym z)
          (subst (λ (x : List ℕ). LeftAs (run_event w.places join net run e) w start fs' us' x counts) (sym k)
          (record {
            after = joined_to net run e target;
            is = step_is _ (subst (StepAs step_now joins') g f);
            net = joined_net;
          }))

    -- ---- it goes on

    module _ (g : s ≡ Ok Waits) where
      pub waits_net : NetIn w start fs' us' cells' c net
      waits_net =
          let z : (fs' ≡ fs) × (us' ≡ us) = subst (SteppedInto (table_of fs us) c.nodes e fs' us') g t in
          subst (λ (x : List Float). NetIn w start x us' cells' c net) (sym z.0)
          (subst (λ (x : List ℕ). NetIn w start fs x cells' c net) (sym z.1)
          (subst (λ (x : List ℕ). NetIn w start fs us x c net) (sym k) v))

      pub waits_run : RunIn c.nodes leg joins' m (with_joins run joins')
      unfolding with_joins
      waits_run =
          let sound : Sound c.nodes joins' = waits_sound v.indexed w.places join e joins u.valid joins'
          (subst (StepAs step_now joins') g f) in
          record {
            place = u.place;
            leg = u.leg;
            has_split = u.has_split;
            joins = refl;
            few = sound.few;
            valid = sound.valid;
            stands = u.stands;
          }

      pub step_waits : (fs'' : List Float) (us'' cells'' : List ℕ) (joins'' : List EstJoinPath)
          (r : Result (Counts × Mover) Refusal) → InsertedAs
          (insert_event w.places join net (with_joins run joins') e) w start leg fs'' us'' cells'' joins'' r
          → (x : Result RunOutcome Refusal) → x ≡ as_outcome r
          → OutcomeAs (run_event w.places join net run e) w start leg fs'' us'' cells'' joins'' x
      step_waits fs'' us'' cells'' joins'' r o x q =
          let z : StepAs step_now joins' (Ok Waits) = subst (StepAs step_now joins') g f in
          subst (OutcomeAs (run_event w.places join net run e) w start leg fs'' us'' cells'' joins'') (sym q)
          (subst (λ a. OutcomeAs a w start leg fs'' us'' cells'' joins'' (as_outcome r)) (sym (step_is _ z))
          (inserted_outcome (insert_event w.places join net (with_joins run joins') e) w start leg fs'' us'' cells''
          joins'' r o))
