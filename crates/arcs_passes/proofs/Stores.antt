-- Fields set in a table, as a pass sets them: what each node's next, prev and held numbers are afterwards. A relink's stores are an exchange of receivers, and so is a time that is set.
use mathlib.Core.Path.{◌≡◌, refl, sym, ap, ◌∙◌}
use mathlib.Core.Logic.{◌⊎◌, inl, inr, ◌≢◌}
use mathlib.Core.Bool.{true, cond}
use Prim.Native.Nat.{ℕ, ◌<◌}
use native.Mathlib.Omega.{arith}
use lib.Dec.{eqb}
use lib.Ieee.{Float}
use Rattle.laws.proofs.Truth.{equal_or_not}
use Rattle.net_node.proofs.Sets.{Changed, time_set as set_time_lem, next_set as set_next_lem, prev_set as set_prev_lem, arc_set as set_arc_lem}
use Rattle.net_node.proofs.Tables.{RoomIn}
use Rattle.net_node.specs.Table.{Table, at, set_time, set_next, set_prev, set_arc}
use Rattle.net_node.specs.declared.EstTime.{EstTime}
use Rattle.arcs_growth.specs.Arcs.{is_base}
use Rattle.arcs_growth.specs.Shape.{Shape}
use Rattle.arcs_passes.proofs.Sets.{sets, sets_at, sets_other}
use Rattle.arcs_passes.proofs.Roles.{base_start}
use Rattle.arcs_passes.proofs.Frames.{frame_of, SameFrames}
use Rattle.arcs_passes.proofs.Swapped.{Swapped}
use Rattle.arcs_passes.proofs.Arcs.{Held, held_of}

-- ---- one node changed

module _ {t s : Table} {places i : ℕ} {y : EstTime} (c : Changed t s places i y) where
  change_sets : {A : Type 0} (g : EstTime → A) (x : ℕ) → g (at s x) ≡ sets i (g y) (λ (j : ℕ). g (at t j)) x
  change_sets g x = go (equal_or_not x i)
    where
      go : (x ≡ i) ⊎ (x ≢ i) → g (at s x) ≡ sets i (g y) (λ (j : ℕ). g (at t j)) x
      go (inl e) = ap g (ap (at s) e ∙ c.here) ∙ sym (sets_at i (g y) (λ (j : ℕ). g (at t j))) ∙ sym (ap (sets i (g y) (λ (j : ℕ). g (at t j))) e)
      go (inr o) = ap g (c.other x o) ∙ sym (sets_other i (g y) (λ (j : ℕ). g (at t j)) x o)

  change_keeps : {A : Type 0} (g : EstTime → A) → g y ≡ g (at t i) → (x : ℕ) → g (at s x) ≡ g (at t x)
  change_keeps g e x = go (equal_or_not x i)
    where
      go : (x ≡ i) ⊎ (x ≢ i) → g (at s x) ≡ g (at t x)
      go (inl o) = ap g (ap (at s) o ∙ c.here) ∙ e ∙ ap (λ (j : ℕ). g (at t j)) (sym o)
      go (inr o) = ap g (c.other x o)

-- ---- a table seen beside a network

-- The frames are those of a network, and these are the nexts, the prevs and what bases hold.
pub record View (node : ℕ → EstTime) (t : Table) (places : ℕ) (next prev : ℕ → ℕ) (held : ℕ → Held) : Type 0 where
  pub room : RoomIn t places
  pub frames : SameFrames node (at t)
  pub nexts : (x : ℕ) → (at t x).idx_next ≡ next x
  pub prevs : (x : ℕ) → (at t x).idx_prev ≡ prev x
  pub helds : (x : ℕ) → held_of (at t x) ≡ held x

pub view_itself : (t : Table) (places : ℕ) → RoomIn t places → View (at t) t places (λ x. (at t x).idx_next) (λ x. (at t x).idx_prev) (λ x. held_of (at t x))
view_itself t places r = record { room = r; frames = λ x. refl; nexts = λ x. refl; prevs = λ x. refl; helds = λ x. refl }

module _ {node : ℕ → EstTime} {t : Table} {places : ℕ} {next prev : ℕ → ℕ} {held : ℕ → Held} (v : View node t places next prev held) (i : ℕ) (h : i < places) where
  sets_like : {A : Type 0} (y : A) (f g : ℕ → A) → ((x : ℕ) → f x ≡ g x) → (x : ℕ) → sets i y f x ≡ sets i y g x
  sets_like y f g e x = ap (cond (eqb x i) y) (e x)

  pub time_set : (x : Float) → View node (set_time t i x) places next prev held
  time_set x =
      let c = set_time_lem t places v.room i h x in
      record {
        room = c.room;
        frames = λ z. change_keeps c frame_of refl z ∙ v.frames z;
        nexts = λ z. change_keeps c (λ (w : EstTime). w.idx_next) refl z ∙ v.nexts z;
        prevs = λ z. change_keeps c (λ (w : EstTime). w.idx_prev) refl z ∙ v.prevs z;
        helds = λ z. change_keeps c held_of refl z ∙ v.helds z;
      }

  pub next_set : (k : ℕ) → View node (set_next t i k) places (sets i k next) prev held
  next_set k =
      let c = set_next_lem t places v.room i h k in
      record {
        room = c.room;
        frames = λ z. change_keeps c frame_of refl z ∙ v.frames z;
        nexts = λ z. change_sets c (λ (w : EstTime). w.idx_next) z ∙ sets_like k (λ (j : ℕ). (at t j).idx_next) next v.nexts z;
        prevs = λ z. change_keeps c (λ (w : EstTime). w.idx_prev) refl z ∙ v.prevs z;
        helds = λ z. change_keeps c held_of refl z ∙ v.helds z;
      }

  pub prev_set : (k : ℕ) → View node (set_prev t i k) places next (sets i k prev) held
  prev_set k =
      let c = set_prev_lem t places v.room i h k in
      record {
        room = c.room;
        frames = λ z. change_keeps c frame_of refl z ∙ v.frames z;
        nexts = λ z. change_keeps c (λ (w : EstTime). w.idx_next) refl z ∙ v.nexts z;
        prevs = λ z. change_sets c (λ (w : EstTime). w.idx_prev) z ∙ sets_like k (λ (j : ℕ). (at t j).idx_prev) prev v.prevs z;
        helds = λ z. change_keeps c held_of refl z ∙ v.helds z;
      }

  pub held_set : (a : Held) (x y : Float) → record { time = x; distance = y } ≡ a → View node (set_arc t i x y) places next prev (sets i a held)
  held_set a x y e =
      let c = set_arc_lem t places v.room i h x y in
      record {
        room = c.room;
        frames = λ z. change_keeps c frame_of refl z ∙ v.frames z;
        nexts = λ z. change_keeps c (λ (q : EstTime). q.idx_next) refl z ∙ v.nexts z;
        prevs = λ z. change_keeps c (λ (q : EstTime). q.idx_prev) refl z ∙ v.prevs z;
        helds = λ z. change_sets c held_of z ∙ ap (λ (q : Held). sets i q (λ (j : ℕ). held_of (at t j)) z) e ∙ sets_like a (λ (j : ℕ). held_of (at t j)) held v.helds z;
      }

-- ---- exchanges of receivers

module _ (node : ℕ → EstTime) (n : ℕ) (s : Shape node n) (t : Table) (places : ℕ) where
  -- nothing but times has changed: the start has exchanged its receiver with itself
  pub times_swapped : View node t places (λ x. (node x).idx_next) (λ x. (node x).idx_prev) (λ x. held_of (node x)) → Swapped node (at t) n 1 1
  times_swapped v =
      let some = s.some in
      let inside : 1 < n = omega arith in
      let back = (s.base_next 1 inside (base_start node n)).1 in
      record {
        frames = v.frames;
        base_a = base_start node n;
        inside_a = inside;
        base_b = base_start node n;
        inside_b = inside;
        next_a = v.nexts 1;
        next_b = v.nexts 1;
        next_other = λ x p q. v.nexts x;
        prev_a = v.prevs (node 1).idx_next ∙ back;
        prev_b = v.prevs (node 1).idx_next ∙ back;
        prev_other = λ x p q. v.prevs x;
      }

  -- bases a and b, whose nexts were c and d
  pub both_swapped : (a b c d : ℕ) (held : ℕ → Held) → is_base node n a ≡ true → a < n → is_base node n b ≡ true → b < n → a ≢ b → (node a).idx_next ≡ c → (node b).idx_next ≡ d
      → View node t places (sets b c (sets a d (λ x. (node x).idx_next))) (sets d a (sets c b (λ x. (node x).idx_prev))) held
      → Swapped node (at t) n a b
  both_swapped a b c d held ba ha bb hb o e f v =
      let next : ℕ → ℕ = λ (x : ℕ). (node x).idx_next in
      let prev : ℕ → ℕ = λ (x : ℕ). (node x).idx_prev in
      let apart : c ≢ d = λ (p : c ≡ d). o (sym (s.base_next a ha ba).1 ∙ ap prev (e ∙ p ∙ sym f) ∙ (s.base_next b hb bb).1) in
      record {
        frames = v.frames;
        base_a = ba;
        inside_a = ha;
        base_b = bb;
        inside_b = hb;
        next_a = v.nexts a ∙ sets_other b c (sets a d next) a o ∙ sets_at a d next ∙ sym f;
        next_b = v.nexts b ∙ sets_at b c (sets a d next) ∙ sym e;
        next_other = λ x p q. v.nexts x ∙ sets_other b c (sets a d next) x q ∙ sets_other a d next x p;
        prev_a = v.prevs (node a).idx_next ∙ ap (sets d a (sets c b prev)) e ∙ sets_other d a (sets c b prev) c apart ∙ sets_at c b prev;
        prev_b = v.prevs (node b).idx_next ∙ ap (sets d a (sets c b prev)) f ∙ sets_at d a (sets c b prev);
        prev_other = λ x p q. v.prevs x ∙ sets_other d a (sets c b prev) x (λ (z : x ≡ d). q (z ∙ sym f)) ∙ sets_other c b prev x (λ (z : x ≡ c). p (z ∙ sym e));
      }
