-- A run goes on over a link: the leg behind its own is found, or row 10 refuses it. A copy of it is saved to go on over
-- another, or row 12 refuses that.
use mathlib.Core.Path.{◌≡◌, refl, sym, ap, ◌∙◌, subst}
use mathlib.Core.Bool.{Bool, false}
use mathlib.Core.List.{List, [], ◌∷◌, append-nil}
use Prim.Native.Nat.{ℕ, zero, suc, ◌+◌, ◌*◌, ◌≤◌, ◌<◌}
use native.Mathlib.Omega.{arith}
use borrow.Author.Tests.{lt-ltb, le-ltb}
use lib.Dec.{ltb}
use lib.ListN.{length, get_or}
use lib.Ieee.{Float}
use Rattle.laws.specs.Answer.{Answer, refused, given, and_then}
use Rattle.book_format.specs.Format.{legs}
use Rattle.book_format.specs.Chains.{leg_below}
use Rattle.book_legs.specs.declared.TakenLeg.{TakenLeg}
use Rattle.std.specs.Prelude.{Result, Ok, Err, IsErrAnd}
use Rattle.refusals.specs.declared.Refusal.{Refusal}
use Rattle.refusals.specs.declared.Refusal.TheVariants.{MissingLeg}
use Rattle.refusals.specs.Refusals.{refusal_number}
use Rattle.book_legs.specs.Legs.{search_of, leg_search, taken_by, taken_leg}
use Rattle.net_join_paths.specs.declared.EstJoinPath.{EstJoinPath}
use Rattle.grow_waiting.specs.Held.{Waiting, SavedIn, SavedElsewhere, waiting_of}
use Rattle.grow_waiting.specs.Held.{Untaken}
use Rattle.grow_waiting.proofs.Kept.{save_chained, save_path, save_mapped, node_left, saved_room}
use Rattle.grow_path.specs.Path.{path_of}
use Rattle.grow_rules.specs.Run.{Net, Run}
use Rattle.grow_rules.specs.Growth.{on_leg, takes, seek_leg, on_over, waiting, fits_in, save_over}
use Rattle.grow_events.specs.Held.{ends_at}
use Rattle.grow_state.specs.declared.Plan.{Plan}
use Rattle.grow_state.specs.declared.Front.{Front}
use Rattle.grow_state.specs.declared.Rest.{Rest}
use Rattle.grow_state.specs.Held.{PlanIn, GivesAs, RunSound, Begins, Prefixes, Lists, path_before, with_front, lists}
use Rattle.grow_state.proofs.Keeping.{plan_legs}
use Rattle.grow_events.proofs.Kept.{net_same}
use Rattle.grow_leg.specs.OneLeg.{AtEnd, Free, SavedOver, SavedAs}
use Rattle.grow_leg.proofs.Paths.{path_long, before_child}
use Rattle.book_legs.proofs.Found.{LegOf, leg_found}
use Rattle.grow_leg.proofs.Clearing.{free_more, clear_others}
use Rattle.grow_leg.proofs.Keeping.{plan_above, wait_used}

-- ---- what `book_legs::take_leg` answers

-- the leg that is taken
record Child (b : List ℕ) (p l n : ℕ) : Type 0 where
  row : ℕ
  found : leg_below b (legs b) p l ≡ suc row
  of : LegOf b (legs b) p l row
  number : n ≡ suc row

module _ (b : List ℕ) (p l : ℕ) (t : Result TakenLeg Refusal) (told : t ≡ taken_leg b p l) where
  taken_none : (r : Refusal) → t ≡ Err r → (leg_below b (legs b) p l ≡ 0) × (MissingLeg ≡ r)
  unfolding taken_leg leg_search
  taken_none r e = go (leg_below b (legs b) p l) refl (sym told ∙ e)
    where
      go : (n : ℕ) → leg_below b (legs b) p l ≡ n → taken_by b (search_of n) ≡ Err r
          → (leg_below b (legs b) p l ≡ 0) × (MissingLeg ≡ r)
      go zero h q = let d : MissingLeg ≡ r = cc in (h, d)
      go (suc n) h q = let z : ◌≡◌ {A = ℕ} 0 1 = cc in absurd (omega arith)

  taken_leg_lem : (x : TakenLeg) → t ≡ Ok x → Child b p l x.number
  unfolding taken_leg leg_search
  taken_leg_lem x e = go (leg_below b (legs b) p l) refl (sym told ∙ e)
    where
      number_or : Result TakenLeg Refusal → ℕ
      number_or (Ok y) = y.number
      number_or (Err r) = 0

      go : (n : ℕ) → leg_below b (legs b) p l ≡ n → taken_by b (search_of n) ≡ Ok x → Child b p l x.number
      go zero h q = let z : ◌≡◌ {A = ℕ} 0 1 = cc in absurd (omega arith)
      go (suc i) h q = record { row = i; found = h; of = leg_found b (legs b) p l i h; number = sym (ap number_or q) }

-- ---- a refusal that is handed on

pub saved_refused : (answer : Answer (List Run)) (b : List ℕ) (p : Plan) (s : Lists) (net : Net) (run : Run)
    (rest : List Run) (link : ℕ) (f : Front) (r : Result Rest Refusal) (k : Refusal)
    → IsErrAnd r (λ (x : Refusal). x ≡ k) → answer ≡ refused (refusal_number k)
    → SavedAs answer b p s net run rest link f r
saved_refused answer b p s net run rest link f (Ok g) k h q = absurd h
saved_refused answer b p s net run rest link f (Err x) k h q =
    q ∙ ap (λ (y : Refusal). refused (refusal_number y)) (sym h)

-- ---- the way on

module _ {b : List ℕ} {p : Plan} {fs : List Float} {us : List ℕ} {reals : List Float} {cells : List ℕ}
    {joins : List EstJoinPath} {g : Rest} {front : Front} {net : Net} {run : Run} {rest : List Run}
    (plan : PlanIn b p (length reals)) (a : AtEnd b p (lists fs us reals cells joins) g front net run rest) where
  pub front_leg : front.leg ≤ legs b
  front_leg = omega (arith, a.front.moves.leg, a.sound.0.within)

  pub front_some : 0 < front.leg
  front_some = omega (arith, a.front.moves.leg, a.sound.0.some)

  pub front_depth : front.depth + 1 ≤ 65535
  front_depth = omega (
    arith,
    a.front.depth,
    path_long (plan_above plan) run.leg a.sound.0.some a.sound.0.within,
    a.short,
    plan_legs plan,
  )

  pub front_used : (g.used ≤ 65535) × (length joins ≤ 1024)
  front_used = (
    omega (
      arith,
      saved_room cells reals p.r g.top g.used a.waiting.runs a.waiting.kept,
      plan.same_places,
      a.grown.room.most,
    ),
    a.front.moves.few,
  )

  module _ (link : ℕ) {b' : List ℕ} (same : b' ≡ b) (t : Result TakenLeg Refusal)
      (told : t ≡ taken_leg b' front.leg link) where
    at_run : t ≡ taken_leg b run.leg link
    at_run = told ∙ ap (λ (x : List ℕ). taken_leg x front.leg link) same
        ∙ ap (λ (j : ℕ). taken_leg b j link) (sym a.front.moves.leg)

    pub on_refused : (k : Refusal) → t ≡ Err k → on_over b net run link rest ≡ refused (refusal_number k)
    unfolding on_over seek_leg
    on_refused k e =
        let n = taken_none b run.leg link t at_run k e in
        ap (λ (j : ℕ). and_then (takes run j) (λ (r : Run). given
        (record { net = net; saved = on_leg r r.leg run.has_split ∷ rest }))) n.0
        ∙ ap (λ (r : Refusal). refused (refusal_number r)) n.1

    pub save_none : (k : Refusal) → t ≡ Err k → save_over b p.w.places run link rest ≡ refused (refusal_number k)
    unfolding save_over seek_leg
    save_none k e =
        let n = taken_none b run.leg link t at_run k e in
        ap (λ (j : ℕ). and_then (takes run j) (λ (r : Run). fits_in (ltb p.w.places (waiting (r ∷ rest))) (r ∷ rest)))
        n.0 ∙ ap (λ (r : Refusal). refused (refusal_number r)) n.1

    -- the leg is there
    module _ (x : TakenLeg) (is : t ≡ Ok x) where
      child : Child b run.leg link x.number
      child = taken_leg_lem b run.leg link t at_run x is

      abbrev i : ℕ
      i = child.row

      before : path_before b (suc i) ≡ path_of b run.leg
      before = before_child (plan_above plan) i run.leg child.of.parent

      deeper : front.depth + 1 ≡ length (path_before b (suc i))
      deeper = omega (
        arith,
        a.front.depth,
        path_long (plan_above plan) run.leg a.sound.0.some a.sound.0.within,
        ap length before,
      )

      abbrev taking : Bool → Run
      taking added = on_leg run (suc i) added

      sound : (added : Bool) → RunSound b g.counts.nodes (taking added)
      sound added = record {
        some = omega arith;
        within = child.of.within;
        stands = a.sound.0.stands;
        few = a.sound.0.few;
        valid = a.sound.0.valid;
      }

      begins : Begins (path_of b run.leg) (path_before b (suc i)) × Prefixes b (path_before b (suc i)) rest
      begins = (
        record { rest = []; is = sym before ∙ sym (append-nil (path_before b (suc i))) },
        subst (λ (xs : List ℕ). Prefixes b xs rest) (sym before) a.prefixes,
      )

      on_is : on_over b net run link rest ≡ given (record { net = net; saved = taking run.has_split ∷ rest })
      unfolding on_over seek_leg
      on_is = ap (λ (j : ℕ). and_then (takes run j)
          (λ (r : Run). given (record { net = net; saved = on_leg r r.leg run.has_split ∷ rest }))) child.found

      -- the run takes it next
      pub on_gives : Free b run rest link
          → GivesAs (on_over b net run link rest) b p (lists fs us reals cells joins)
          (with_front g (record { mover = front.mover; leg = x.number; depth = front.depth + 1 }))
      on_gives f = record {
        growth = record { net = net; saved = taking run.has_split ∷ rest };
        is = on_is;
        path = path_of b run.leg;
        holds = record {
          grown = a.grown;
          chained = a.chained;
          kept = a.kept;
          short = a.short;
          waiting = (
            record {
              moves = record {
                place = a.front.moves.place;
                leg = sym child.number;
                has_split = a.front.moves.has_split;
                joins = a.front.moves.joins;
                few = a.front.moves.few;
                valid = a.front.moves.valid;
                stands = a.front.moves.stands;
              };
              depth = deeper;
            },
            a.waiting,
          );
          sound = (sound run.has_split, a.sound.1);
          prefixes = begins;
          separate = (f.legs_separate i child.of.within child.of.parent child.of.link, a.separate);
        };
      }

      -- ---- a copy is saved

      many : waiting (taking false ∷ rest) ≡ g.used + length joins
      unfolding waiting
      many = omega (arith, wait_used a.waiting, ap length a.front.moves.joins)

      save_is : save_over b p.w.places run link rest ≡ fits_in (ltb p.r.places (g.used + length joins))
          (taking false ∷ rest)
      unfolding save_over seek_leg
      save_is =
          ap (λ (j : ℕ). and_then (takes run j) (λ (r : Run). fits_in (ltb p.w.places (waiting (r ∷ rest))) (r ∷ rest)))
          child.found
          ∙ ap (λ (n : ℕ). fits_in (ltb n (waiting (taking false ∷ rest))) (taking false ∷ rest)) (sym plan.same_places)
          ∙ ap (λ (n : ℕ). fits_in (ltb p.r.places n) (taking false ∷ rest)) many

      pub save_full : p.r.places < g.used + length joins → save_over b p.w.places run link rest ≡ refused 12
      save_full h = save_is ∙ ap (λ (s : Bool). fits_in s (taking false ∷ rest))
          (lt-ltb p.r.places (g.used + length joins) h)

      -- what `grow_waiting::save` asks
      pub save_leg : (0 < x.number) × (x.number ≤ p.r.legs)
      save_leg = (omega (arith, child.number), omega (arith, child.number, child.of.within, plan.all_legs))

      module _ (room : g.used + length joins ≤ p.r.places) (reals' : List Float) (cells' : List ℕ)
          (long : length cells' ≡ length cells) (else : SavedElsewhere cells cells' reals reals' p.r)
          (handed : List EstJoinPath) (entries : handed ≡ joins)
          (saves : (ws : List Waiting) → SavedIn cells reals p.r g.top g.used ws → Untaken x.number ws
          → SavedIn cells' reals' p.r x.number (g.used + length handed)
          (waiting_of front.mover.place x.number (front.depth + 1) handed ∷ ws))
          (free : Free b run rest link) where
        saved : (ws : List Waiting) → SavedIn cells reals p.r g.top g.used ws → Untaken x.number ws
            → SavedIn cells' reals' p.r x.number (g.used + length joins)
            (waiting_of front.mover.place x.number (front.depth + 1) joins ∷ ws)
        saved ws k u = subst (λ (js : List EstJoinPath). SavedIn cells' reals' p.r x.number (g.used + length js)
            (waiting_of front.mover.place x.number (front.depth + 1) js ∷ ws)) entries (saves ws k u)

        ends-left : (k : ℕ) → k < p.w.places → get_or cells' (ends_at p.w + k * 8) 0 ≡ get_or cells
            (ends_at p.w + k * 8) 0
        ends-left k h =
            let e : p.r.nodes_at + k * 8 + 2 ≡ ends_at p.w + k * 8 = omega (arith, plan.same_nodes) in
            subst (λ (q : ℕ). get_or cells' q 0 ≡ get_or cells q 0) e
            (node_left else k 2 (omega (arith, plan.same_places)) (omega arith))

        others : Untaken x.number a.waiting.runs
        others = subst (λ (j : ℕ). Untaken j a.waiting.runs) (sym child.number)
            (clear_others (plan_above plan) (suc i) g.counts.nodes a.waiting.runs rest a.sound.1 a.waiting.same
            (free.legs_separate i child.of.within child.of.parent child.of.link))

        save-kept : SavedOver (save_over b p.w.places run link rest) b p (lists fs us reals' cells' joins)
            (record { counts = g.counts; top = x.number; used = g.used + length joins }) front net run rest link
        save-kept = record {
          more = taking false ∷ rest;
          is = save_is ∙ ap (λ (s : Bool). fits_in s (taking false ∷ rest))
              (le-ltb p.r.places (g.used + length joins) room);
          ends = record {
            grown = net_same a.grown cells' long (save_mapped else a.grown.apart (sym plan.same_nodes)
                (sym plan.same_places) a.grown.within a.grown.mapped) ends-left;
            chained = save_chained else (omega (arith, plan.all_legs)) long a.chained;
            kept = save_path else (omega (arith, a.short, plan.all_legs))
                (omega (arith, a.short, plan.pairs_at)) a.kept;
            short = a.short;
            front = a.front;
            waiting = record {
              runs = waiting_of front.mover.place x.number (front.depth + 1) joins ∷ a.waiting.runs;
              kept = saved a.waiting.runs a.waiting.kept others;
              same = (
                record {
                  place = sym a.front.moves.place;
                  leg = child.number;
                  depth = deeper;
                  joins = sym a.front.moves.joins;
                  has_split = refl;
                },
                a.waiting.same,
              );
            };
            sound = (a.sound.0, (sound false, a.sound.1));
            prefixes = begins;
            separate = (free.legs_separate i child.of.within child.of.parent child.of.link, a.separate);
          };
          free = λ l d f. free_more (plan_above plan) run
              (taking false) i rest link child.of.within child.of.parent child.of.link refl l d f;
        }

        pub save-gives : (used : ℕ) → used ≡ g.used + length joins
            → SavedOver (save_over b p.w.places run link rest) b p (lists fs us reals' cells' joins)
            (record { counts = g.counts; top = x.number; used = used }) front net run rest link
        save-gives used e = subst (λ (n : ℕ). SavedOver (save_over b p.w.places run link rest) b p
            (lists fs us reals' cells' joins) (record { counts = g.counts; top = x.number; used = n }) front net run
            rest link) (sym e) save-kept
