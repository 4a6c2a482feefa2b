-- A relink of the backward pass: the walk goes up split Fakes from base to base, all of one source, and what it finds and where it began change their receivers, times and distances along.
-- Two arcs change places.
use mathlib.Core.Path.{◌≡◌, refl, sym, ap, ◌∙◌}
use mathlib.Core.Logic.{◌≢◌}
use mathlib.Core.Bool.{Bool, true, false, not, ◌&&◌}
use Prim.Native.Nat.{ℕ, zero, suc, ◌≤◌, ◌<◌}
use native.Mathlib.Omega.{arith}
use borrow.Author.Tests.{eqb-false, not-true}
use lib.Dec.{eqb}
use lib.Ieee.{Float}
use Rattle.laws.proofs.Truth.{and_left, and_right}
use Rattle.net_node.proofs.Tables.{RoomIn}
use Rattle.net_node.specs.Table.{Table, at, is_fake, set_time}
use Rattle.net_node.specs.declared.EstTime.{EstTime}
use Rattle.laws.specs.Answer.{refused}
use Rattle.laws.proofs.Answers.{Holds, holds_so}
use Rattle.pass_rules.specs.Net.{Pass}
use Rattle.pass_rules.specs.Backward.{is_passable, walked_on, relink_walk, swap_split, swapped_if}
use Rattle.arcs_growth.specs.Arcs.{is_base, source_of, arcs_read, SameArcs, times_in}
use Rattle.arcs_growth.specs.Shape.{is_receiver, Shape}
use Rattle.arcs_passes.proofs.Roles.{receiver_inside}
use Rattle.arcs_passes.proofs.Frames.{SameFrames}
use Rattle.arcs_passes.proofs.Ways.{fake_base, split_is, source_up}
use Rattle.arcs_passes.proofs.Swapped.{Swapped, swapped_shape}
use Rattle.arcs_passes.proofs.Arcs.{Held, held_of, goal_swapped, read_same, source_swapped_read}
use Rattle.arcs_passes.proofs.Sets.{sets, sets_at, sets_other}
use Rattle.arcs_passes.proofs.Stores.{view_itself, time_set, next_set, prev_set, held_set, times_swapped, both_swapped}

-- ---- the walk

-- a base of the same source
pub record Akin (node : ℕ → EstTime) (n i found : ℕ) : Type 0 where
  pub base : is_base node n found ≡ true
  pub inside : found < n
  pub source : source_of node n n found ≡ source_of node n n i

module _ (p : Pass) (n : ℕ) (s : Shape (at p.table) n) where
  abbrev net : ℕ → EstTime
  net = at p.table

  passed_up : (i : ℕ) → is_base net n i ≡ true → is_passable p i ≡ true → Akin net n i (net i).idx_prev
  unfolding is_passable
  passed_up i b e =
      let fake : is_fake (net i) ≡ true =
      and_left (is_fake (net i)) (not (p.done (net i).idx_prev)) (and_left (is_fake (net i) && not (p.done (net i).idx_prev)) (not (eqb (net i).idx_prev 0)) e) in
      let some : (net i).idx_prev ≢ 0 =
      eqb-false (net i).idx_prev 0 (not-true (eqb (net i).idx_prev 0) (and_right (is_fake (net i) && not (p.done (net i).idx_prev)) (not (eqb (net i).idx_prev 0)) e)) in
      let alternative = fake_base net n s i b fake (λ (o : i ≡ 1). some (ap (λ (x : ℕ). (net x).idx_prev) o ∙ s.start_prev)) in
      let q = split_is net n s i alternative in
      record { base = q.base; inside = q.prev_inside; source = source_up net n s i alternative }

  pub walk_holds : (k i : ℕ) → is_base net n i ≡ true → i < n → Holds (Akin net n i) (relink_walk k p i)
  unfolding relink_walk
  walk_holds zero i b h = go (is_passable p i)
    where
      go : (c : Bool) → Holds (Akin net n i) (walked_on c i (refused 15))
      go true = tt
      go false = record { base = b; inside = h; source = refl }
  walk_holds (suc k) i b h = go (is_passable p i) refl (walk_holds k (net i).idx_prev)
    where
      go : (c : Bool) → is_passable p i ≡ c → (is_base net n (net i).idx_prev ≡ true → (net i).idx_prev < n → Holds (Akin net n (net i).idx_prev) (relink_walk k p (net i).idx_prev))
          → Holds (Akin net n i) (walked_on c i (relink_walk k p (net i).idx_prev))
      go true e ih = let a = passed_up i b e in holds_so (Akin net n (net i).idx_prev) (Akin net n i) (relink_walk k p (net i).idx_prev) (ih a.base a.inside) (λ (j : ℕ) (g : Akin net n (net i).idx_prev j). record { base = g.base; inside = g.inside; source = g.source ∙ a.source })
      go false e ih = record { base = b; inside = h; source = refl }

-- ---- what the pass keeps of a network: room, the shape, frames, and each arc as often as it is there

pub record Kept (node : ℕ → EstTime) (n places : ℕ) (t : Table) : Type 0 where
  pub room : RoomIn t places
  pub shape : Shape (at t) n
  pub frames : SameFrames node (at t)
  pub arcs : SameArcs (arcs_read node n) (arcs_read (at t) n)

pub kept_itself : (t : Table) (n places : ℕ) → RoomIn t places → Shape (at t) n → Kept (at t) n places t
kept_itself t n places r s = record { room = r; shape = s; frames = λ x. refl; arcs = λ c. refl }

module _ (node : ℕ → EstTime) (n places : ℕ) (t : Table) (f : Kept node n places t) where
  swapped_kept : (u : Table) (a b : ℕ) → RoomIn u places → Swapped (at t) (at u) n a b → SameArcs (arcs_read (at t) n) (arcs_read (at u) n) → Kept node n places u
  swapped_kept u a b r w e = record {
    room = r;
    shape = swapped_shape (at t) (at u) n a b f.shape w;
    frames = λ x. w.frames x ∙ f.frames x;
    arcs = λ c. f.arcs c ∙ e c;
  }

  pub kept_timed : (i : ℕ) (x : Float) → n ≤ places → i < n → Kept node n places (set_time t i x)
  kept_timed i x l h =
      let v = time_set (view_itself t places f.room) i (omega arith) x in
      let w = times_swapped (at t) n f.shape (set_time t i x) places v in
      let same : arcs_read (at (set_time t i x)) n ≡ arcs_read (at t) n = read_same (at t) (at (set_time t i x)) n w.frames (goal_swapped (at t) (at (set_time t i x)) n 1 1 f.shape w refl v.helds) in
      swapped_kept (set_time t i x) 1 1 v.room w (λ c. ap (times_in c) (sym same))

  -- what stands before receiver curr and a base of the same source change their receivers
  module _ (curr found : ℕ) (l : n ≤ places) (r : is_receiver (at t) n curr ≡ true) (a : Akin (at t) n (at t curr).idx_prev found) where
    split_kept : (at t curr).idx_prev ≢ found → Kept node n places (swap_split t curr (at t curr).idx_prev found)
    unfolding swap_split
    split_kept o =
        let s = f.shape in
        let save = (at t curr).idx_prev in
        let base = (at t found).idx_next in
        let back = s.receiver_prev curr r in
        let save-inside : (at t curr).idx_prev < n = back.1.0 in
        let base-inside : (at t found).idx_next < n = receiver_inside (at t) n (at t found).idx_next (s.base_next found a.inside a.base).0 in
        let curr-inside : curr < n = receiver_inside (at t) n curr r in
        let found_inside : found < n = a.inside in
        let held : ℕ → Held = λ x. held_of (at t x) in
        let v1 = prev_set (view_itself t places f.room) curr (omega arith) found in
        let v2 = prev_set v1 base (omega arith) save in
        let v3 = next_set v2 save (omega arith) base in
        let v4 = next_set v3 found (omega arith) curr in
        let v5 = held_set v4 save (omega arith) (held found) _ _ (v4.helds found) in
        let v = held_set v5 found (omega arith) (held save) _ _ (v4.helds save) in
        let all : ℕ → Held = sets found (held save) (sets save (held found) held) in
        let w = both_swapped (at t) n s (swap_split t curr save found) places save found curr base all back.0 save-inside a.base found_inside o back.1.1 refl v in
        swapped_kept (swap_split t curr save found) save found v.room w
        (source_swapped_read (at t) (at (swap_split t curr save found)) n save found s w o (sym a.source)
        (v.helds save ∙ sets_other found (held save) (sets save (held found) held) save o ∙ sets_at save (held found) held)
        (v.helds found ∙ sets_at found (held save) (sets save (held found) held))
        (λ x p q. v.helds x ∙ sets_other found (held save) (sets save (held found) held) x q ∙ sets_other save (held found) held x p))

    pub kept_split : Kept node n places (swapped_if (eqb (at t curr).idx_prev found) t curr (at t curr).idx_prev found)
    kept_split = go (eqb (at t curr).idx_prev found) refl
      where
        go : (c : Bool) → eqb (at t curr).idx_prev found ≡ c → Kept node n places (swapped_if c t curr (at t curr).idx_prev found)
        go true e = f
        go false e = split_kept (eqb-false (at t curr).idx_prev found e)
