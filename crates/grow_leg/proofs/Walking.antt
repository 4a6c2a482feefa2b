-- The walk of a leg: its path in the work space, what the walk looks at, and that this is the leg of the definition.
use mathlib.Core.Path.{◌≡◌, refl, sym, ap, ◌∙◌, subst}
use mathlib.Core.Logic.{◌⊎◌, inl, inr, ◌≢◌}
use mathlib.Core.Bool.{Bool, true, false, ◌||◌}
use mathlib.Core.List.{List, [], ◌∷◌}
use Prim.Native.Nat.{ℕ, suc, ◌+◌, ◌-◌, ◌*◌, ◌≤◌, ◌<◌}
use native.Mathlib.Omega.{arith}
use lib.ListN.{length, get_or, set, length-set}
use lib.Seq.{get_or-set_other}
use lib.Ieee.{Float, nan, binary64, add}
use Rattle.laws.proofs.Truth.{true_or_false}
use Rattle.laws.specs.Answer.{Answer}
use Rattle.laws.proofs.Below.{sum_more, sum_part}
use Rattle.floats.specs.Floats.{book_float}
use Rattle.book_format.specs.declared.Leg.{Leg}
use Rattle.book_format.specs.Format.{links, legs, samples, samples_at_of, leg_at, leg_link, leg_samples, first_sample}
use Rattle.book_format.specs.Format.{link_length, length_bits, float_of}
use Rattle.book_format.proofs.Places.{follow}
use Rattle.book_format.proofs.Given.{limits, link_float, leg_named}
use Rattle.net_event_map.specs.EventMap.{Mapped}
use Rattle.net_event_map.proofs.Kept.{mapped_before}
use Rattle.book_legs.specs.declared.TakenLeg.{TakenLeg}
use Rattle.book_legs.proofs.Takes.{leg_of}
use Rattle.net_node.specs.Table.{node_at}
use Rattle.net_node.specs.declared.TimedEvent.{TimedEvent}
use Rattle.event_walk.specs.declared.Movement.{Movement}
use Rattle.event_walk.specs.declared.PassedPoint.{PassedPoint}
use Rattle.event_walk.specs.Course.{Course, course_of, Held, Walkable}
use Rattle.event_walk.specs.Walk.{points_passed, reaches_last, some_bad, row11}
use Rattle.event_walk.proofs.Alike.{Alike, reaches_alike, passed_alike}
use Rattle.net_join_paths.specs.declared.EstJoinPath.{EstJoinPath}
use Rattle.grow_path.specs.Path.{path_of, link_of, point_link, leg_course, events_at, leg_events}
use Rattle.grow_path.specs.Kept.{PathIn, Sound}
use Rattle.grow_path.proofs.Extending.{path_begins, path_extends}
use Rattle.grow_path.proofs.Legs.{leg_held, leg_sound, leg_alike}
use Rattle.grow_path.proofs.Testing.{reaches, passes, walkable}
use Rattle.grow_rules.specs.Run.{Net, Run, Outcome, run_events}
use Rattle.grow_rules.specs.Growth.{join_gap}
use Rattle.std.specs.Prelude.{Result, Err}
use Rattle.refusals.specs.declared.Refusal.{Refusal}
use Rattle.refusals.specs.declared.Refusal.TheVariants.{BadEvent}
use Rattle.grow_events.specs.declared.RunOutcome.{RunOutcome}
use Rattle.grow_events.specs.Held.{NetIn, RunIn, Moving, Along, SomePath, OutcomeAs, unless_bad}
use Rattle.grow_state.specs.declared.Plan.{Plan}
use Rattle.grow_state.specs.declared.Front.{Front}
use Rattle.grow_state.specs.declared.Rest.{Rest}
use Rattle.grow_state.specs.Held.{PlanIn, DriveIn, Driving, FrontIn, WaitIn, path_before, with_front, lists}
use Rattle.grow_events.proofs.Kept.{net_same}
use Rattle.grow_leg.specs.OneLeg.{outcome_as, leg_outcome, WalkedAs}
use Rattle.grow_leg.proofs.Paths.{path_is, path_long, path_named}
use Rattle.grow_path.proofs.Paths.{path_most}
use Rattle.grow_leg.proofs.Keeping.{plan_above}
use Rattle.grow_leg.proofs.Ending.{link_named}

-- ---- two courses that agree

row_alike : (c d : Course) → Sound c → Alike c d → row11 c ≡ row11 d
unfolding row11
row_alike c d s a = go (true_or_false (reaches_last c))
  where
    go : (reaches_last c ≡ true) ⊎ (reaches_last c ≡ false)
        → (reaches_last c || some_bad (points_passed c)) ≡ (reaches_last d || some_bad (points_passed d))
    go (inl e) = ap (λ (t : Bool). t || some_bad (points_passed c)) e
        ∙ sym (ap (λ (t : Bool). t || some_bad (points_passed d)) (sym (reaches_alike a s.some_points) ∙ e))
    go (inr e) =
        ap (λ (t : Bool). t || some_bad (points_passed c)) (reaches_alike a s.some_points)
        ∙ ap (λ (ps : List PassedPoint). reaches_last d || some_bad ps) (passed_alike a (walkable c s (sym e)))

-- ---- the run at the front

-- What is read of its leg, written behind its path, and then walked.
pub record Looks (b : List ℕ) (p : Plan) (reals : List Float) (cells : List ℕ) (front : Front) (reals' : List Float)
    (cells' : List ℕ) (v : Movement) : Type 0 where
  pub leg : Leg
  pub is : leg ≡ leg_at b (front.leg - 1)
  pub taken : TakenLeg
  pub samples : taken ≡ record {
    number = front.leg;
    first = get_or cells ((front.leg - 1) * 8 + 2) 0;
    end = get_or cells (front.leg * 8 + 2) 0;
  }
  pub reals_then : reals' ≡ set reals (front.depth + 1)
      (add binary64 (get_or reals front.depth nan) (float_of (link_length b leg.link_idx)))
  pub cells_then : cells' ≡ set cells (front.depth * 8 + 3) leg.link_idx
  pub bytes : List ℕ
  pub same : bytes ≡ b
  pub moves : v ≡ record {
    at = samples_at_of b + taken.first * 24;
    samples = taken.end - taken.first;
    points = front.depth + 1 + 1;
    length = p.length;
  }

-- where one moves there is one
pub record SomeFront (b : List ℕ) (p : Plan) (fs : List Float) (us : List ℕ) (reals : List Float) (cells : List ℕ)
    (joins : List EstJoinPath) (g : Rest) (front : Front) : Type 0 where
  pub path : List ℕ
  pub net : Net
  pub run : Run
  pub saved : List Run
  pub holds : DriveIn b p (lists fs us reals cells joins) path (with_front g front) net (run ∷ saved)

pub some_front : {b : List ℕ} {p : Plan} {fs : List Float} {us : List ℕ} {reals : List Float} {cells : List ℕ}
    {joins : List EstJoinPath} {g : Rest} {front : Front}
    → Driving b p (lists fs us reals cells joins) (with_front g front) → SomeFront b p fs us reals cells joins g front
some_front {b} {p} {fs} {us} {reals} {cells} {joins} {g} {front} v = go v.runs v.holds
  where
    go : (runs : List Run) → DriveIn b p (lists fs us reals cells joins) v.path (with_front g front) v.net runs
        → SomeFront b p fs us reals cells joins g front
    go [] d = absurd d.waiting
    go (run ∷ saved) d = record { path = v.path; net = v.net; run = run; saved = saved; holds = d }

module _ {b : List ℕ} {p : Plan} {fs : List Float} {us : List ℕ} {reals : List Float} {cells : List ℕ}
    {joins : List EstJoinPath} {path : List ℕ} {g : Rest} {front : Front} {net : Net} {run : Run} {saved : List Run}
    (plan : PlanIn b p (length reals)) (d : DriveIn b p (lists fs us reals cells joins) path (with_front g front) net
    (run ∷ saved)) where
  pub front_in : FrontIn b joins g.counts.nodes front run
  front_in = d.waiting.0

  pub wait_in : WaitIn b p.r reals cells g.top g.used saved
  wait_in = d.waiting.1

  pub same_leg : run.leg ≡ front.leg
  same_leg = front_in.moves.leg

  pub some_leg : 0 < front.leg
  some_leg = omega (arith, same_leg, d.sound.0.some)

  pub leg_inside : front.leg ≤ legs b
  leg_inside = omega (arith, same_leg, d.sound.0.within)

  pub path_length : length (path_of b run.leg) ≡ front.depth + 1
  path_length = omega (arith, front_in.depth, path_long (plan_above plan) run.leg d.sound.0.some d.sound.0.within)

  pub depth_inside : front.depth + 1 ≤ legs b
  depth_inside = omega (arith, path_length, path_most b run.leg, d.sound.0.within)

  before : PathIn b reals cells (path_before b run.leg)
  before = path_begins b reals cells (path_before b run.leg) d.prefixes.0.rest
      (subst (PathIn b reals cells) d.prefixes.0.is d.kept)

  -- ---- its link

  module _ (leg : Leg) (is : leg ≡ leg_at b (front.leg - 1)) where
    pub link_is : leg.link_idx ≡ link_of b run.leg
    unfolding link_of leg_at
    link_is = ap (λ (x : Leg). x.link_idx) is ∙ ap (λ (j : ℕ). leg_link b (j - 1)) (sym same_leg)

    pub link_inside : leg.link_idx < links b
    link_inside = subst (λ (l : ℕ). l < links b) (sym link_is)
        (link_named b plan.readable.indices run.leg d.sound.0.some d.sound.0.within)

  -- ---- its samples

  pub section_inside : samples_at_of b ≤ 4000000
  section_inside = omega (arith, follow b, limits b plan.readable.counted.counts)

  module _ (taken : TakenLeg) (samples-are : taken ≡ record {
    number = front.leg;
    first = get_or cells ((front.leg - 1) * 8 + 2) 0;
    end = get_or cells (front.leg * 8 + 2) 0;
  }) where
    taken_is : taken ≡ record {
      number = front.leg;
      first = first_sample b (front.leg - 1);
      end = first_sample b front.leg;
    }
    taken_is = leg_of b cells front.leg d.chained leg_inside samples-are

    first_is : taken.first ≡ first_sample b (run.leg - 1)
    first_is = ap (λ (x : TakenLeg). x.first) taken_is ∙ ap (λ (j : ℕ). first_sample b (j - 1)) (sym same_leg)

    end_is : taken.end ≡ first_sample b (run.leg - 1) + leg_samples b (run.leg - 1)
    unfolding first_sample
    end_is =
        let e : front.leg ≡ run.leg - 1 + 1 = omega (arith, same_leg, d.sound.0.some) in
        ap (λ (x : TakenLeg). x.end) taken_is ∙ ap (first_sample b) e ∙ sum_more (run.leg - 1) (leg_samples b)

    end_most : taken.end ≤ samples b
    unfolding first_sample
    end_most = omega (
      arith,
      ap (λ (x : TakenLeg). x.end) taken_is,
      sum_part (legs b) front.leg (leg_samples b) leg_inside,
      plan.readable.counted.sums,
    )

    pub samples_inside : (taken.first ≤ taken.end) × (taken.end ≤ 1000000)
    samples_inside = (
      omega (arith, first_is, end_is),
      omega (arith, end_most, (limits b plan.readable.counted.counts).samples_most),
    )

  -- ---- its leg is put behind its path, and what the walk looks at

  module _ {reals' : List Float} {cells' : List ℕ} {v : Movement}
      (k : Looks b p reals cells front reals' cells' v) where
    abbrev link : ℕ
    link = k.leg.link_idx

    abbrev next : Float
    next = add binary64 (get_or reals front.depth nan) (float_of (link_length b link))

    link_here : link ≡ link_of b run.leg
    link_here = link_is k.leg k.is

    long_reals : length reals' ≡ length reals
    long_reals = ap length k.reals_then ∙ length-set reals (front.depth + 1) next

    long_cells : length cells' ≡ length cells
    long_cells = ap length k.cells_then ∙ length-set cells (front.depth * 8 + 3) link

    cells_are : cells' ≡ set cells (front.depth * 8 + 3) (link_of b run.leg)
    cells_are = k.cells_then ∙ ap (set cells (front.depth * 8 + 3)) link_here

    cells_else : (q : ℕ) → (q ≡ front.depth * 8 + 3 → ⊥) → get_or cells' q 0 ≡ get_or cells q 0
    cells_else q h = ap (λ (xs : List ℕ). get_or xs q 0) k.cells_then
        ∙ get_or-set_other cells (front.depth * 8 + 3) q link 0 h

    reals_else : (q : ℕ) → q ≢ front.depth + 1 → get_or reals' q nan ≡ get_or reals q nan
    reals_else q h = ap (λ (xs : List Float). get_or xs q nan) k.reals_then
        ∙ get_or-set_other reals (front.depth + 1) q next nan h

    kept : PathIn b reals' cells' (path_of b run.leg)
    kept =
        subst (λ (xs : List Float). PathIn b xs cells' (path_of b run.leg)) (sym k.reals_then)
        (subst (λ (ys : List ℕ). PathIn b (set reals (front.depth + 1) next) ys (path_of b run.leg)) (sym k.cells_then)
        (subst (PathIn b (set reals (front.depth + 1) next) (set cells (front.depth * 8 + 3) link))
        (sym (path_is (plan_above plan) run.leg d.sound.0.some d.sound.0.within))
        (path_extends b reals cells (path_before b run.leg) run.leg front.depth link before front_in.depth link_here
        (omega (arith, depth_inside, plan.pairs, plan.pairs_at)) (omega (arith, depth_inside, d.chained.room)))))

    -- the network is as it was
    grown : NetIn p.w cells' fs us cells' g.counts net
    grown =
        net_same d.grown cells' long_cells
        (subst (λ (xs : List ℕ). Mapped xs p.w (node_at fs us) g.counts.nodes) (sym k.cells_then)
        (mapped_before d.grown.mapped d.grown.apart link (front.depth * 8 + 3)
        (omega (arith, depth_inside, plan.nodes_at)) d.grown.within))
        (λ i h. cells_else (p.w.nodes_at + 2 + i * 8) (λ e. omega (arith, depth_inside, plan.nodes_at)))

    row : run.leg - 1 < legs b
    row = omega (arith, d.sound.0.some, d.sound.0.within)

    whole : suc (run.leg - 1) ≡ run.leg
    whole = omega (arith, d.sound.0.some)

    named : (i : ℕ) → i < length (path_of b run.leg) → point_link b (path_of b run.leg) i < links b
    named i h = path_named (plan_above plan) (leg_named b plan.readable.indices) run.leg i d.sound.0.within h

    lengths : (i : ℕ) → i < length (path_of b run.leg)
        → book_float (link_length b (point_link b (path_of b run.leg) i)) ≡ true
    lengths i h = link_float b plan.readable.floats (point_link b (path_of b run.leg) i) (named i h)

    abbrev leg_moves : Movement
    leg_moves = record {
      at = samples_at_of b + first_sample b (run.leg - 1) * 24;
      samples = leg_samples b (run.leg - 1);
      points = length (path_of b run.leg) + 1;
      length =
          float_of (length_bits b);
    }

    moves_are : v ≡ leg_moves
    moves_are =
        let x : samples_at_of b + k.taken.first * 24 ≡ samples_at_of b + first_sample b (run.leg - 1) * 24 =
        omega (arith, first_is k.taken k.samples) in
        let y : k.taken.end - k.taken.first ≡ leg_samples b (run.leg - 1) =
        omega (arith, first_is k.taken k.samples, end_is k.taken k.samples) in
        let z : front.depth + 1 + 1 ≡ length (path_of b run.leg) + 1 = omega (arith, path_length) in
        k.moves ∙ (λ i. record { at = x i; samples = y i; points = z i; length = plan.train i })

    room : length (path_of b run.leg) + 1 ≤ length reals'
    room = omega (arith, path_length, depth_inside, long_reals, plan.pairs, plan.pairs_at)

    held : Held b reals' v
    held = subst (Held b reals') (sym moves_are) (leg_held b plan.whole plan.readable (run.leg - 1) row reals' cells'
        (path_of b run.leg) kept room lengths)

    pub walk_held : Held k.bytes reals' v
    walk_held = subst (λ (x : List ℕ). Held x reals' v) (sym k.same) held

    fine : Sound (course_of b reals' v)
    fine = subst (λ (m : Movement). Sound (course_of b reals' m)) (sym moves_are)
        (leg_sound b plan.whole plan.readable (run.leg - 1) row reals' cells'
        (path_of b run.leg) kept room lengths plan.row7)

    pub walk_sound : Sound (course_of k.bytes reals' v)
    walk_sound = subst (λ (x : List ℕ). Sound (course_of x reals' v)) (sym k.same) fine

    alike : Alike (course_of b reals' v) (leg_course b run.leg)
    alike =
        subst (λ (m : Movement). Alike (course_of b reals' m) (leg_course b run.leg)) (sym moves_are)
        (subst (λ (j : ℕ). Alike (course_of b reals' leg_moves) (leg_course b j)) whole
        (leg_alike b plan.whole plan.readable (run.leg - 1) row reals' cells' (path_of b run.leg) kept room lengths
        (ap (path_of b) (sym whole))))

    row_is : row11 (course_of b reals' v) ≡ row11 (leg_course b run.leg)
    row_is = row_alike (course_of b reals' v) (leg_course b run.leg) fine alike

    walked : {answer : Answer Outcome} (fs' : List Float) (us' cells'' : List ℕ) (joins' : List EstJoinPath)
        (r : Result RunOutcome Refusal) → OutcomeAs answer p.w cells' run.leg fs' us' cells'' joins' r
        → WalkedAs b p run.leg front.depth answer reals cells fs' us' reals' cells'' joins' r
    walked {answer} fs' us' cells'' joins' r o = record {
      kept = subst (λ (xs : List ℕ). PathIn b reals' xs (path_of b run.leg)) cells_are kept;
      reals_left = reals_else;
      outcome = subst (λ (xs : List ℕ). OutcomeAs answer p.w xs run.leg fs' us' cells'' joins' r) cells_are o;
    }

    -- a sample reaches the last point
    tests : (t : Bool) → t ≡ reaches_last (course_of k.bytes reals' v) → t ≡ reaches_last (course_of b reals' v)
    tests t e = e ∙ ap (λ (x : List ℕ). reaches_last (course_of x reals' v)) k.same

    pub walk_refused : (t : Bool) → t ≡ reaches_last (course_of k.bytes reals' v) → t ≡ true
        → (fs' : List Float) (us' : List ℕ) (joins' : List EstJoinPath)
        → WalkedAs b p run.leg front.depth (leg_outcome b p.w.places net run) reals cells fs' us' reals' cells' joins'
        (Err BadEvent)
    unfolding leg_outcome
    walk_refused t e f fs' us' joins' = walked fs' us' cells' joins' (Err BadEvent)
        (ap (λ (s : Bool). outcome_as s b p.w.places net run)
        (sym row_is ∙ sym (reaches (course_of b reals' v) (sym f ∙ tests t e))))

    -- or none does
    module _ (t : Bool) (test : t ≡ reaches_last (course_of k.bytes reals' v)) (free : t ≡ false) where
      tested : t ≡ reaches_last (course_of b reals' v)
      tested = tests t test

      goes_through : Walkable (course_of b reals' v)
      goes_through = walkable (course_of b reals' v) fine (sym free ∙ tested)

      pub walk_walkable : Walkable (course_of k.bytes reals' v)
      walk_walkable = subst (λ (x : List ℕ). Walkable (course_of x reals' v)) (sym k.same) goes_through

      along : Along b reals' cells' p.w v.points (path_of b run.leg)
      along = record {
        kept = kept;
        points = ap (λ (m : Movement). m.points) moves_are;
        named = λ i h. subst (λ (n : ℕ). point_link b (path_of b run.leg) i < n) (sym plan.all_links) (named i h);
        before = omega (arith, path_length, depth_inside, plan.nodes_at);
      }

      along_bytes : Along k.bytes reals' cells' p.w v.points (path_of b run.leg)
      along_bytes = subst (λ (x : List ℕ). Along x reals' cells' p.w v.points (path_of b run.leg)) (sym k.same) along

      pub walk_path : SomePath k.bytes reals' cells' p.w v.points
      walk_path = record { path = path_of b run.leg; along = along_bytes }

      runs : RunIn g.counts.nodes run.leg joins front.mover run
      runs = subst (λ (j : ℕ). RunIn g.counts.nodes j joins front.mover run) (sym same_leg) front_in.moves

      pub walk_moving : Moving p.w fs us cells' joins g.counts front.mover
      walk_moving = record { start = cells'; leg = run.leg; net = net; run = run; holds = grown; runs = runs }

      events_are : events_at b (path_of b run.leg) (points_passed (course_of b reals' v)) ≡ leg_events b run.leg
      unfolding leg_events
      events_are = ap (events_at b (path_of b run.leg)) (passed_alike alike goes_through)

      abbrev told : List ℕ → Answer Outcome
      told x = unless_bad (some_bad (points_passed (course_of x reals' v)))
          (run_events p.w.places p.join (events_at x (path_of b run.leg) (points_passed (course_of x reals' v)))
          (record { net = net; run = run }))

      outcome_is : told b ≡ leg_outcome b p.w.places net run
      unfolding leg_outcome
      outcome_is =
          ap (λ (x : Float). unless_bad (some_bad (points_passed (course_of b reals' v)))
          (run_events p.w.places x (events_at b (path_of b run.leg) (points_passed (course_of b reals' v)))
          (record { net = net; run = run }))) plan.join
          ∙ ap (λ (es : List TimedEvent). unless_bad (some_bad (points_passed (course_of b reals' v)))
          (run_events p.w.places (join_gap b) es (record { net = net; run = run }))) events_are
          ∙ as-tested (some_bad (points_passed (course_of b reals' v)))
          ∙ ap (λ (s : Bool). outcome_as s b p.w.places net run)
          (passes (course_of b reals' v) (some_bad (points_passed (course_of b reals' v))) (sym free ∙ tested) refl
          ∙ row_is)
        where
          as-tested : (s : Bool) → unless_bad s (run_events p.w.places (join_gap b) (leg_events b run.leg)
              (record { net = net; run = run })) ≡ outcome_as s b p.w.places net run
          as-tested true = refl
          as-tested false = refl

      pub walk_goes : (fs' : List Float) (us' cells'' : List ℕ) (joins' : List EstJoinPath)
          (r : Result RunOutcome Refusal)
          → ((start path : List ℕ) (leg : ℕ) (net : Net) (run : Run) → NetIn p.w start fs us cells' g.counts net
          → RunIn g.counts.nodes leg joins front.mover run → Along k.bytes reals' cells' p.w v.points path
          → OutcomeAs (unless_bad (some_bad (points_passed (course_of k.bytes reals' v)))
          (run_events p.w.places p.join (events_at k.bytes path (points_passed (course_of k.bytes reals' v)))
          (record { net = net; run = run }))) p.w start leg fs' us' cells'' joins' r)
          → WalkedAs b p run.leg front.depth (leg_outcome b p.w.places net run) reals cells fs' us' reals' cells''
          joins' r
      walk_goes fs' us' cells'' joins' r f =
          walked fs' us' cells'' joins' r (subst (λ (y : Answer Outcome). OutcomeAs y p.w cells' run.leg fs' us' cells''
          joins' r) (ap told k.same ∙ outcome_is) (f cells'
          (path_of b run.leg) run.leg net run grown runs along_bytes))
