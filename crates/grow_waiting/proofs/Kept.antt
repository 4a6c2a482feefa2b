-- What a caller may know: what saving leaves of the chains of legs, the path and the map of events, what leaves the
-- runs that wait, and that none waits at the start.
use mathlib.Core.Path.{◌≡◌, refl, sym, ◌∙◌, subst}
use mathlib.Core.Logic.{◌≢◌}
use mathlib.Core.List.{List, [], ◌∷◌}
use Prim.Native.Nat.{ℕ, ◌+◌, ◌-◌, ◌*◌, ◌≤◌, ◌<◌}
use native.Mathlib.Omega.{arith}
use lib.ListN.{length, get_or, set}
use lib.Seq.{get_or-set_other}
use lib.Ieee.{Float, nan}
use Rattle.net_node.specs.declared.EstTime.{EstTime}
use Rattle.net_join_paths.specs.declared.EstJoinPath.{EstJoinPath}
use Rattle.book_format.specs.Format.{legs}
use Rattle.book_format.specs.Chains.{Chained}
use Rattle.grow_path.specs.Kept.{PathIn}
use Rattle.net_event_map.specs.declared.Layout.{Layout}
use Rattle.net_event_map.specs.EventMap.{Mapped}
use Rattle.net_event_map.specs.EventMap.{CellsApart}
use Rattle.grow_waiting.specs.declared.rooms.Rooms.{Rooms}
use Rattle.grow_waiting.specs.declared.Popped.{Popped}
use Rattle.grow_waiting.specs.Held.{Waiting, Untaken, top_of, SavedIn, SavedElsewhere, PoppedAs}
use Rattle.grow_waiting.proofs.Runs.{Steady, saved_still}

-- ---- what saving leaves

module _ {c c' : List ℕ} {r r' : List Float} {w : Rooms} (s : SavedElsewhere c c' r r' w) where
  -- cells 0 to 3 of a leg's unit
  pub leg_left : (j k : ℕ) → j ≤ w.legs → k < 4 → get_or c' (j * 8 + k) 0 ≡ get_or c (j * 8 + k) 0
  leg_left j k h g = s.cells (j * 8 + k) (λ i t a b e d. omega arith) (λ i t a b e d. omega (arith, w.legs_before))

  -- cells 0 to 2 of a node's unit
  pub node_left : (i k : ℕ) → i < w.places → k < 3
      → get_or c' (w.nodes_at + i * 8 + k) 0 ≡ get_or c (w.nodes_at + i * 8 + k) 0
  node_left i k h g = s.cells (w.nodes_at + i * 8 + k) (λ j t a b e d. omega (arith, w.legs_before))
      (λ j t a b e d. omega arith)

  -- cells behind the nodes' units
  pub behind_left : (q : ℕ) → w.nodes_at + w.places * 8 ≤ q → get_or c' q 0 ≡ get_or c q 0
  behind_left q h = s.cells q (λ j t a b e d. omega (arith, w.legs_before)) (λ j t a b e d. omega arith)

  -- reals before the pairs
  pub reals_left : (q : ℕ) → q < w.pairs_at → get_or r' q nan ≡ get_or r q nan
  reals_left q h = s.reals q (λ j t a b d. omega arith)

  pub save_chained : {b : List ℕ} → legs b ≤ w.legs → length c' ≡ length c → Chained b c → Chained b c'
  save_chained {b} l n v = record {
    room = omega (arith, v.room);
    first = λ p h. zeroth (p * 8) (omega arith) (λ j t a e d. omega arith) ∙ v.first p h;
    before = λ i h. leg_left (i + 1) 1 (omega arith) (omega arith) ∙ v.before i h;
    ends = λ j h. leg_left j 2 (omega arith) (omega arith) ∙ v.ends j h;
  }
    where
      zeroth : (q : ℕ) → q < w.nodes_at → ((j t : ℕ) → 4 ≤ t → t < 8 → q ≢ j * 8 + t) → get_or c' q 0 ≡ get_or c q 0
      zeroth q h g = s.cells q (λ j t a b e. g j t b e) (λ j t a b e d. omega arith)

  pub save_path : {b path : List ℕ} → length path ≤ w.legs → length path < w.pairs_at → PathIn b r c path
      → PathIn b r' c' path
  save_path l g v = record {
    offsets = λ k h. reals_left k (omega arith) ∙ v.offsets k h;
    links = λ k h. leg_left k 3 (omega arith) (omega arith) ∙ v.links k h;
  }

  pub save_mapped : {v : Layout} {node : ℕ → EstTime} {n : ℕ} → CellsApart c v → v.nodes_at ≡ w.nodes_at
      → v.places ≡ w.places → n ≤ v.places → Mapped c v node n → Mapped c' v node n
  save_mapped {v} {node} {n} p a b l m = record {
    first = λ i h. behind_left (v.links_at + i * 8) (omega (arith, p.apart)) ∙ m.first i h;
    last = λ i h. behind_left (v.links_at + i * 8 + 1) (omega (arith, p.apart)) ∙ m.last i h;
    cleared = λ i h. behind_left (v.links_at + i * 8 + 2) (omega (arith, p.apart)) ∙ m.cleared i h;
    next = λ i j h g t. first_of j (omega arith) ∙ m.next i j h g t;
    fresh = λ j h g. first_of j g ∙ m.fresh j h g;
    unmarked = λ j h. s.cells (v.nodes_at + j * 8 + 1) (λ i t e f g d. omega (arith, w.legs_before))
        (λ i t e f g d. omega arith)
        ∙ m.unmarked j h;
    ungiven = λ j k h x y. s.cells (v.nodes_at + j * 8 + k) (λ i t e f g d. omega (arith, w.legs_before))
        (λ i t e f g d. omega arith)
        ∙ m.ungiven j k h x y;
    zeroth = m.zeroth;
  }
    where
      first_of : (j : ℕ) → j < v.places → get_or c' (v.nodes_at + j * 8) 0 ≡ get_or c (v.nodes_at + j * 8) 0
      first_of j h = s.cells (v.nodes_at + j * 8) (λ i t e f g d. omega (arith, w.legs_before))
          (λ i t e f g d. omega arith)

-- ---- what leaves the runs

-- the cells and reals of runs say the same
pub record Undisturbed (c c' : List ℕ) (r r' : List Float) (w : Rooms) : Type 0 where
  pub fields : (j k : ℕ) → j ≤ w.legs → 4 ≤ k → k < 8 → get_or c' (j * 8 + k) 0 ≡ get_or c (j * 8 + k) 0
  pub entries : (i k : ℕ) → i < w.places → 3 ≤ k → k < 5
      → get_or c' (w.nodes_at + i * 8 + k) 0 ≡ get_or c (w.nodes_at + i * 8 + k) 0
  pub reals : (q : ℕ) → w.pairs_at ≤ q → get_or r' q nan ≡ get_or r q nan

-- all entries are in the nodes' units, and no run takes leg 0
pub saved_room : (c : List ℕ) (r : List Float) (w : Rooms) (top used : ℕ) (runs : List Waiting)
    → SavedIn c r w top used runs → used ≤ w.places
saved_room c r w top used [] h = omega (arith, h.1)
saved_room c r w top used (run ∷ runs) h = omega (arith, h.1.0, h.1.1.1.0.fits)

not_zeroth : (c : List ℕ) (r : List Float) (w : Rooms) (top used : ℕ) (runs : List Waiting)
    → SavedIn c r w top used runs → Untaken 0 runs
not_zeroth c r w top used [] h = tt
not_zeroth c r w top used (run ∷ runs) h = (
  λ (e : 0 ≡ run.leg). omega (arith, h.1.1.1.0.real),
  not_zeroth c r w (top_of runs) (used - length run.joins) runs h.1.1.1.1,
)

module _ (c : List ℕ) (r : List Float) (w : Rooms) (top used : ℕ) (runs : List Waiting) where
  pub saved_same : {c' : List ℕ} {r' : List Float} → Undisturbed c c' r r' w → SavedIn c r w top used runs
      → SavedIn c' r' w top used runs
  saved_same {c'} {r'} u h = saved_still steady top used runs (omega arith) (not_zeroth c r w top used runs h) h
    where
      steady : Steady c c' r r' w 0 used
      steady = record {
        fields = λ j k o l a g e. u.fields j k l g e;
        times = λ j o l a. u.reals (w.pairs_at + j * 2) (omega arith);
        offsets = λ j o l a. u.reals (w.pairs_at + j * 2 + 1) (omega arith);
        entries = λ i k a g e. u.entries i k (omega (arith, saved_room c r w top used runs h)) g e;
      }

  -- one store, in none of their cells
  saved_cell : (q x : ℕ) → ((j k : ℕ) → j ≤ w.legs → 4 ≤ k → k < 8 → j * 8 + k ≢ q)
      → ((i k : ℕ) → i < w.places → 3 ≤ k → k < 5 → w.nodes_at + i * 8 + k ≢ q) → SavedIn c r w top used runs
      → SavedIn (set c q x) r w top used runs
  saved_cell q x a b = saved_same (record {
    fields = λ j k l g e. get_or-set_other c q (j * 8 + k) x 0 (a j k l g e);
    entries = λ i k l g e. get_or-set_other c q (w.nodes_at + i * 8 + k) x 0 (b i k l g e);
    reals = λ i g. refl;
  })

  -- in cells 0 to 3 of a leg's unit
  pub saved_leg : (j k x : ℕ) → j ≤ w.legs → k < 4 → SavedIn c r w top used runs
      → SavedIn (set c (j * 8 + k) x) r w top used runs
  saved_leg j k x h g = saved_cell (j * 8 + k) x (λ i t a b e d. omega arith)
      (λ i t a b e d. omega (arith, w.legs_before))

  -- in cells 0 to 2 of a node's unit
  pub saved_node : (i k x : ℕ) → k < 3 → SavedIn c r w top used runs
      → SavedIn (set c (w.nodes_at + i * 8 + k) x) r w top used runs
  saved_node i k x g = saved_cell (w.nodes_at + i * 8 + k) x (λ j t a b e d. omega (arith, w.legs_before))
      (λ j t a b e d. omega arith)

  -- behind the nodes' units
  pub saved_behind : (q x : ℕ) → w.nodes_at + w.places * 8 ≤ q → SavedIn c r w top used runs
      → SavedIn (set c q x) r w top used runs
  saved_behind q x h = saved_cell q x (λ j t a b e d. omega (arith, w.legs_before)) (λ j t a b e d. omega arith)

  -- in the reals before the pairs
  pub saved_real : (q : ℕ) (x : Float) → q < w.pairs_at → SavedIn c r w top used runs
      → SavedIn c (set r q x) w top used runs
  saved_real q x h = saved_same (record {
    fields = λ j k l g e. refl;
    entries = λ i k l g e. refl;
    reals = λ i g. get_or-set_other r q i x nan (λ (d : i ≡ q). omega arith);
  })

-- ---- the runs, one by one

-- the runs below one that is taken up again
pub saved_rest : (c : List ℕ) (r : List Float) (w : Rooms) (top used : ℕ) (run : Waiting) (runs : List Waiting)
    (joins : List EstJoinPath) (p : Popped) → PoppedAs run runs joins p → SavedIn c r w top used (run ∷ runs)
    → SavedIn c r w p.below (used - length joins) runs
saved_rest c r w top used run runs joins p a h =
    subst (λ (i : ℕ). SavedIn c r w i (used - length joins) runs) (sym a.below)
    (subst (λ (es : List EstJoinPath). SavedIn c r w (top_of runs) (used - length es) runs)
    (sym a.entries) h.1.1.1.1)

-- 0 on top: no run waits
pub saved_end : (c : List ℕ) (r : List Float) (w : Rooms) (top used : ℕ) (runs : List Waiting) → top ≡ 0
    → SavedIn c r w top used runs → runs ≡ []
saved_end c r w top used [] e h = refl
saved_end c r w top used (run ∷ runs) e h = absurd (omega (arith, h.0, h.1.1.1.0.real))

-- ---- at the start

pub saved_none : (c : List ℕ) (r : List Float) (w : Rooms) → SavedIn c r w 0 0 []
saved_none c r w = (refl, refl)
