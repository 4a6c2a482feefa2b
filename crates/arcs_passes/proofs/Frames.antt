-- The frame of a node: its event, its speed and both alternatives, which no pass changes. Two networks of the same frames have the same bases, receivers and sources.
use mathlib.Core.Path.{◌≡◌, refl, ap, ◌∙◌}
use mathlib.Core.List.{◌∷◌}
use mathlib.Core.Bool.{Bool, true, false, not, ◌&&◌, ◌||◌, cond}
use Prim.Native.Nat.{ℕ, zero, suc, ◌+◌, ◌-◌}
use lib.Dec.{eqb, ltb}
use lib.ListN.{length}
use lib.Ieee.{Float}
use Rattle.net_node.specs.Table.{fake_kind, is_fake}
use Rattle.laws.specs.Below.{some_below}
use Rattle.net_node.specs.declared.LinkEvent.{LinkEvent}
use Rattle.net_node.specs.declared.EstTime.{EstTime}
use Rattle.arcs_growth.specs.Arcs.{one, source_as, is_alternative, is_base, alternative_of, owners, is_owned, source_of, arc_of, arcs_below, arcs_read}
use Rattle.arcs_growth.specs.Shape.{is_receiver}

pub record Frame : Type 0 where
  pub event : LinkEvent
  pub speed : Float
  pub next_alt : ℕ
  pub prev_alt : ℕ

abbrev pub frame_of : EstTime → Frame
frame_of x = record { event = x.link_event; speed = x.speed; next_alt = x.idx_next_alt; prev_alt = x.idx_prev_alt }

abbrev pub SameFrames : (ℕ → EstTime) → (ℕ → EstTime) → Type 0
SameFrames node node' = (x : ℕ) → frame_of (node' x) ≡ frame_of (node x)

module _ (node node' : ℕ → EstTime) (f : SameFrames node node') where
  pub event_same : (x : ℕ) → (node' x).link_event ≡ (node x).link_event
  event_same x = ap (λ (z : Frame). z.event) (f x)

  pub speed_same : (x : ℕ) → (node' x).speed ≡ (node x).speed
  speed_same x = ap (λ (z : Frame). z.speed) (f x)

  pub fake_same : (x : ℕ) → is_fake (node' x) ≡ is_fake (node x)
  fake_same x = ap (λ (z : Frame). fake_kind z.event.est_type) (f x)

  pub next_alt_same : (x : ℕ) → (node' x).idx_next_alt ≡ (node x).idx_next_alt
  next_alt_same x = ap (λ (z : Frame). z.next_alt) (f x)

  pub prev_alt_same : (x : ℕ) → (node' x).idx_prev_alt ≡ (node x).idx_prev_alt
  prev_alt_same x = ap (λ (z : Frame). z.prev_alt) (f x)

  module _ (n : ℕ) where
    pub alternative_same : (i : ℕ) → is_alternative node' n i ≡ is_alternative node n i
    unfolding is_alternative
    alternative_same i = λ t. not (eqb i 0) && some_below n (λ k. eqb (next_alt_same k t) i)

    pub base_same : (i : ℕ) → is_base node' n i ≡ is_base node n i
    unfolding is_base
    base_same i = λ t. eqb i 1 || not (fake_same i t) || alternative_same i t

    pub receiver_same : (i : ℕ) → is_receiver node' n i ≡ is_receiver node n i
    unfolding is_receiver
    receiver_same i = λ t. ltb 1 i && ltb i (n - 1) && not (alternative_same i t)

    above_same : (k i : ℕ) → alternative_of node' n k i ≡ alternative_of node n k i
    unfolding alternative_of
    above_same zero i = refl
    above_same (suc k) i = ap (λ (b : Bool). cond b k (alternative_of node' n k i)) (ap (λ (j : ℕ). eqb j i) (next_alt_same k)) ∙ ap (cond (eqb (node k).idx_next_alt i) k) (above_same k i)

    owners_same : (k i : ℕ) → owners node' n k i ≡ owners node n k i
    unfolding owners
    owners_same zero i = refl
    owners_same (suc k) i = λ t. owners_same k i t + one (eqb (next_alt_same k t) i)

    owned_same : (i : ℕ) → is_owned node' n i ≡ is_owned node n i
    unfolding is_owned
    owned_same i = λ t. eqb (owners_same n i t) 1 && not (eqb (above_same n i t) 0)

    pub source_same : (k i : ℕ) → source_of node' n k i ≡ source_of node n k i
    unfolding source_of
    source_same zero i = refl
    source_same (suc k) i =
        let before : source_of node' n k (alternative_of node' n n i) ≡ source_of node n k (alternative_of node n n i) = ap (source_of node' n k) (above_same n i) ∙ source_same k (alternative_of node n n i) in
        λ t. source_as n (eqb i 1 || not (fake_same i t)) (owned_same i t) i (before t)

    -- as many arcs are read off
    many_below : (k : ℕ) → length (arcs_below node' n k) ≡ length (arcs_below node n k)
    unfolding arcs_below
    many_below zero = refl
    many_below (suc k) = ap (λ (b : Bool). length (cond b (arc_of node' n k ∷ arcs_below node' n k) (arcs_below node' n k))) (base_same k) ∙ go (is_base node n k) (many_below k)
      where
        go : (b : Bool) → length (arcs_below node' n k) ≡ length (arcs_below node n k)
            → length (cond b (arc_of node' n k ∷ arcs_below node' n k) (arcs_below node' n k)) ≡ length (cond b (arc_of node n k ∷ arcs_below node n k) (arcs_below node n k))
        go true q = ap suc q
        go false q = q

    pub many_same : length (arcs_read node' n) ≡ length (arcs_read node n)
    unfolding arcs_read
    many_same = many_below n
