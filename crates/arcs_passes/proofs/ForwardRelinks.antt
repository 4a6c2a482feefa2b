-- A relink of the forward pass: the walk goes from receiver to receiver, all of one goal, and what it finds and where it began change their bases. Each base keeps its arc.
use mathlib.Core.Path.{◌≡◌, refl, sym, ap, ◌∙◌}
use mathlib.Core.Logic.{◌≢◌, ⊎_elim}
use mathlib.Core.Bool.{Bool, true, false, not, ◌&&◌}
use Prim.Native.Nat.{ℕ, zero, suc, ◌-◌, ◌≤◌, ◌<◌}
use native.Mathlib.Omega.{arith}
use borrow.Author.Tests.{eqb-false, not-true}
use lib.Dec.{eqb}
use lib.Ieee.{Float}
use Rattle.laws.proofs.Truth.{and_left, and_right}
use Rattle.net_node.proofs.Tables.{RoomIn}
use Rattle.net_node.specs.Table.{Table, at, is_fake, set_time}
use Rattle.net_node.specs.declared.EstTime.{EstTime}
use Rattle.laws.specs.Answer.{refused}
use Rattle.laws.proofs.Answers.{Holds, holds_so}
use Rattle.pass_rules.specs.Net.{Pass}
use Rattle.pass_rules.specs.Forward.{is_passable, walked_on, relink_walk, swap_join, swapped_if}
use Rattle.arcs_growth.specs.Arcs.{is_base, goal_of}
use Rattle.arcs_growth.specs.Shape.{is_receiver, Shape}
use Rattle.arcs_passes.proofs.Roles.{receiver_inside}
use Rattle.arcs_passes.proofs.Frames.{SameFrames, base_same}
use Rattle.arcs_passes.proofs.Ways.{onward, goal_on}
use Rattle.arcs_passes.proofs.Swapped.{Swapped, swapped_shape}
use Rattle.arcs_passes.proofs.Arcs.{held_of, EachArc, goal_swapped}
use Rattle.arcs_passes.proofs.Stores.{view_itself, time_set, next_set, prev_set, times_swapped, both_swapped}

-- ---- the walk

-- a receiver of the same goal
pub record Alike (node : ℕ → EstTime) (n i found : ℕ) : Type 0 where
  pub receives : is_receiver node n found ≡ true
  pub goal : goal_of node n n found ≡ goal_of node n n i

module _ (p : Pass) (n : ℕ) (s : Shape (at p.table) n) where
  abbrev net : ℕ → EstTime
  net = at p.table

  passed_on : (i : ℕ) → is_receiver net n i ≡ true → is_passable p n i ≡ true → Alike net n i (net i).idx_next
  unfolding is_passable
  passed_on i r e =
      let fake : is_fake (net i) ≡ true =
      and_left (is_fake (net i)) (not (p.done (net i).idx_next))
      (and_left (is_fake (net i) && not (p.done (net i).idx_next)) (not (eqb (net i).idx_next (n - 1))) e) in
      let last : (net i).idx_next ≢ n - 1 =
      eqb-false (net i).idx_next (n - 1) (not-true (eqb (net i).idx_next (n - 1)) (and_right (is_fake (net i) && not (p.done (net i).idx_next)) (not (eqb (net i).idx_next (n - 1))) e)) in
      record {
        receives = ⊎_elim (λ (q : is_receiver net n (net i).idx_next ≡ true). q) (λ (q : (net i).idx_next ≡ n - 1). absurd (last q)) (onward net n s i r);
        goal = goal_on net n s i r fake;
      }

  pub walk_holds : (k i : ℕ) → is_receiver net n i ≡ true → Holds (Alike net n i) (relink_walk k p n i)
  unfolding relink_walk
  walk_holds zero i r = go (is_passable p n i)
    where
      go : (b : Bool) → Holds (Alike net n i) (walked_on b i (refused 15))
      go true = tt
      go false = record { receives = r; goal = refl }
  walk_holds (suc k) i r = go (is_passable p n i) refl (walk_holds k (net i).idx_next)
    where
      go : (b : Bool) → is_passable p n i ≡ b → (is_receiver net n (net i).idx_next ≡ true → Holds (Alike net n (net i).idx_next) (relink_walk k p n (net i).idx_next))
          → Holds (Alike net n i) (walked_on b i (relink_walk k p n (net i).idx_next))
      go true e ih = let a = passed_on i r e in holds_so (Alike net n (net i).idx_next) (Alike net n i) (relink_walk k p n (net i).idx_next) (ih a.receives) (λ (j : ℕ) (h : Alike net n (net i).idx_next j). record { receives = h.receives; goal = h.goal ∙ a.goal })
      go false e ih = record { receives = r; goal = refl }

-- ---- what the pass keeps of a network: room, the shape, frames, and each base's arc

pub record Forth (node : ℕ → EstTime) (n places : ℕ) (t : Table) : Type 0 where
  pub room : RoomIn t places
  pub shape : Shape (at t) n
  pub frames : SameFrames node (at t)
  pub arcs : EachArc node (at t) n

pub forth_itself : (t : Table) (n places : ℕ) → RoomIn t places → Shape (at t) n → Forth (at t) n places t
forth_itself t n places r s = record { room = r; shape = s; frames = λ x. refl; arcs = λ i h e. refl }

module _ (node : ℕ → EstTime) (n places : ℕ) (t : Table) (f : Forth node n places t) where
  -- after an exchange of receivers of one goal
  swapped_forth : (u : Table) (a b : ℕ) → RoomIn u places → Swapped (at t) (at u) n a b
      → goal_of (at t) n n (at t a).idx_next ≡ goal_of (at t) n n (at t b).idx_next → ((x : ℕ) → held_of (at u x) ≡ held_of (at t x))
      → Forth node n places u
  swapped_forth u a b r w g h = record {
    room = r;
    shape = swapped_shape (at t) (at u) n a b f.shape w;
    frames = λ x. w.frames x ∙ f.frames x;
    arcs = λ i l e. goal_swapped (at t) (at u) n a b f.shape w g h i l (base_same node (at t) f.frames n i ∙ e) ∙ f.arcs i l e;
  }

  pub forth_timed : (i : ℕ) (x : Float) → n ≤ places → i < n → Forth node n places (set_time t i x)
  forth_timed i x l h =
      let v = time_set (view_itself t places f.room) i (omega arith) x in
      swapped_forth (set_time t i x) 1 1 v.room (times_swapped (at t) n f.shape (set_time t i x) places v) refl v.helds

  -- what stands behind base curr and a receiver of the same goal change their bases
  module _ (curr found : ℕ) (l : n ≤ places) (b : is_base (at t) n curr ≡ true) (h : curr < n) (a : Alike (at t) n (at t curr).idx_next found) where
    joined_forth : (at t curr).idx_next ≢ found → Forth node n places (swap_join t curr (at t curr).idx_next found)
    unfolding swap_join
    joined_forth o =
        let s = f.shape in
        let save = (at t curr).idx_next in
        let base = (at t found).idx_prev in
        let back = s.receiver_prev found a.receives in
        let base-inside : (at t found).idx_prev < n = back.1.0 in
        let save-inside : (at t curr).idx_next < n = receiver_inside (at t) n (at t curr).idx_next (s.base_next curr h b).0 in
        let found_inside : found < n = receiver_inside (at t) n found a.receives in
        let v1 = next_set (view_itself t places f.room) curr (omega arith) found in
        let v2 = next_set v1 base (omega arith) save in
        let v3 = prev_set v2 save (omega arith) base in
        let v = prev_set v3 found (omega arith) curr in
        let apart : curr ≢ (at t found).idx_prev = λ (e : curr ≡ (at t found).idx_prev). o (ap (λ (z : ℕ). (at t z).idx_next) e ∙ back.1.1) in
        let w = both_swapped (at t) n s (swap_join t curr save found) places curr base save found (λ x. held_of (at t x)) b h back.0 back.1.0 apart refl back.1.1 v in
        swapped_forth (swap_join t curr save found) curr base v.room w (sym a.goal ∙ ap (goal_of (at t) n n) (sym back.1.1)) v.helds

    pub forth_joined : Forth node n places (swapped_if (eqb (at t curr).idx_next found) t curr (at t curr).idx_next found)
    forth_joined = go (eqb (at t curr).idx_next found) refl
      where
        go : (c : Bool) → eqb (at t curr).idx_next found ≡ c → Forth node n places (swapped_if c t curr (at t curr).idx_next found)
        go true e = f
        go false e = joined_forth (eqb-false (at t curr).idx_next found e)
