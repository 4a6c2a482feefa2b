-- Laws of equal events and of the nodes of an event: one node more, the first of them and the last.
use mathlib.Core.Path.{◌≡◌, refl, sym, ap, ◌∙◌, subst}
use mathlib.Core.Logic.{◌⊎◌, inl, inr}
use mathlib.Core.Bool.{Bool, true, false, ◌&&◌, cond}
use mathlib.Core.List.{List, [], ◌∷◌, ◌++◌, append-nil}
use Prim.Native.Nat.{ℕ, zero, suc, ◌+◌, ◌-◌, ◌≤◌, ◌<◌}
use native.Mathlib.Nat.{add-zero, zero-add, suc-add, not-suc-le-zero}
use native.Mathlib.Omega.{arith}
use lib.Dec.{eqb}
use lib.ListN.{length, get_or, length-append}
use borrow.Author.Tests.{eqb-true, eq-eqb, ne_eqb}
use Rattle.laws.proofs.Truth.{true_or_false, not_both, and_left, and_none, equal_or_not}
use Rattle.net_node.specs.declared.EstType.{EstType}
use Rattle.net_node.specs.declared.EstType.TheVariants.{Arrive, Clear, Fake}
use Rattle.net_node.specs.declared.LinkEvent.{LinkEvent}
use Rattle.net_node.specs.declared.EstTime.{EstTime}
use Rattle.net_node.specs.Table.{kind_number, same_kind, same_event}
use Rattle.net_event_map.specs.EventMap.{nodes_from, head_of, last_of, arrive_at, clear_at, RealKind}

-- ---- equal events

same_link : (a b : LinkEvent) → same_event a b ≡ true → a.link_idx ≡ b.link_idx
unfolding same_event
same_link a b e =
    eqb-true a.link_idx b.link_idx (and_left (eqb a.link_idx b.link_idx) (same_kind a.est_type b.est_type) e)

-- an event is no Arrive of two links
pub same_arrive : (a : LinkEvent) (k l : ℕ) → same_event a (arrive_at k) ≡ true → same_event a (arrive_at l) ≡ true
    → k ≡ l
unfolding arrive_at
same_arrive a k l s t = sym (same_link a (arrive_at k) s) ∙ same_link a (arrive_at l) t

pub arrive_same : (l : ℕ) → same_event (arrive_at l) (arrive_at l) ≡ true
unfolding same_event same_kind arrive_at
arrive_same l = ap (λ (t : Bool). t && true) (eq-eqb l l refl)

pub clear_same : (l : ℕ) → same_event (clear_at l) (clear_at l) ≡ true
unfolding same_event same_kind clear_at
clear_same l = ap (λ (t : Bool). t && true) (eq-eqb l l refl)

pub arrive_other : (l m : ℕ) → (m ≡ l → ⊥) → same_event (arrive_at l) (arrive_at m) ≡ false
unfolding same_event same_kind arrive_at
arrive_other l m h = ap (λ (t : Bool). t && true) (ne_eqb l m (λ (e : l ≡ m). h (sym e)))

pub clear_other : (l m : ℕ) → (m ≡ l → ⊥) → same_event (clear_at l) (clear_at m) ≡ false
unfolding same_event same_kind clear_at
clear_other l m h = ap (λ (t : Bool). t && true) (ne_eqb l m (λ (e : l ≡ m). h (sym e)))

pub arrive_no_clear : (l m : ℕ) → same_event (arrive_at l) (clear_at m) ≡ false
unfolding same_event same_kind arrive_at clear_at
arrive_no_clear l m = and_none (eqb l m)

pub clear_no_arrive : (l m : ℕ) → same_event (clear_at l) (arrive_at m) ≡ false
unfolding same_event same_kind arrive_at clear_at
clear_no_arrive l m = and_none (eqb l m)

-- a Fake has no event of a link
pub fake_none : (a e : LinkEvent) → a.est_type ≡ Fake → RealKind e.est_type → same_event a e ≡ false
unfolding same_event same_kind
fake_none a e f r =
    ap (λ (k : EstType). eqb a.link_idx e.link_idx && eqb (kind_number k) (kind_number e.est_type)) f
    ∙ go (eqb a.link_idx e.link_idx) e.est_type r
  where
    go : (t : Bool) (k : EstType) → RealKind k → (t && eqb 2 (kind_number k)) ≡ false
    go t Arrive r = and_none t
    go t Clear r = and_none t
    go t Fake r = absurd r

-- nor an event but a Fake's
pub fake_only : (a e : LinkEvent) → a.est_type ≡ Fake → same_event a e ≡ true → e.est_type ≡ Fake
fake_only a e f t = go e.est_type refl
  where
    go : (k : EstType) → e.est_type ≡ k → k ≡ Fake
    go Arrive h = not_both t (fake_none a e f (subst RealKind (sym h) tt))
    go Clear h = not_both t (fake_none a e f (subst RealKind (sym h) tt))
    go Fake h = refl

-- ---- heads and lasts

pub head_first : (xs : List ℕ) (i : ℕ) → xs ≡ [] → head_of (xs ++ (i ∷ [])) ≡ i
head_first xs i e = ap (λ (q : List ℕ). head_of (q ++ (i ∷ []))) e

pub head_kept : (xs : List ℕ) (i : ℕ) → 0 < head_of xs → head_of (xs ++ (i ∷ [])) ≡ head_of xs
head_kept [] i h = absurd (not-suc-le-zero h)
head_kept (x ∷ xs) i h = refl

last_added : (xs : List ℕ) (y : ℕ) (ys : List ℕ) → last_of (xs ++ (y ∷ ys)) ≡ last_of (y ∷ ys)
unfolding last_of
last_added [] y ys = refl
last_added (x ∷ []) y ys = refl
last_added (x ∷ z ∷ xs) y ys = last_added (z ∷ xs) y ys

pub last_own : (xs : List ℕ) (i : ℕ) → last_of (xs ++ (i ∷ [])) ≡ i
unfolding last_of
last_own xs i = last_added xs i []

last_behind : (j : ℕ) (xs : List ℕ) → (xs ≡ []) ⊎ (last_of (j ∷ xs) ≡ last_of xs)
unfolding last_of
last_behind j [] = inl refl
last_behind j (x ∷ xs) = inr refl

last_alone : (j : ℕ) (xs : List ℕ) → xs ≡ [] → last_of (j ∷ xs) ≡ j
unfolding last_of
last_alone j xs e = ap (λ (q : List ℕ). last_of (j ∷ q)) e

-- ---- the nodes of an event

abbrev pub has : (ℕ → EstTime) → LinkEvent → ℕ → Bool
has node e i = same_event (node i).link_event e

-- node j is one of the k from a on, and has the event
pub record Inside (node : ℕ → EstTime) (e : LinkEvent) (a k j : ℕ) : Type 0 where
  pub from : a ≤ j
  pub below : j < a + k
  pub has_it : has node e j ≡ true

-- it is the first of them
pub record Walked (node : ℕ → EstTime) (e : LinkEvent) (a k j : ℕ) : Type 0 where
  pub is : nodes_from node e a k ≡ j ∷ nodes_from node e (suc j) (a + k - suc j)
  pub inside : Inside node e a k j

module _ (node : ℕ → EstTime) (e : LinkEvent) where
  with_it : (a k : ℕ) → has node e a ≡ true → nodes_from node e a (suc k) ≡ a ∷ nodes_from node e (suc a) k
  unfolding nodes_from
  with_it a k h = ap (λ (t : Bool). cond t (a ∷ nodes_from node e (suc a) k) (nodes_from node e (suc a) k)) h

  without_it : (a k : ℕ) → has node e a ≡ false → nodes_from node e a (suc k) ≡ nodes_from node e (suc a) k
  unfolding nodes_from
  without_it a k h = ap (λ (t : Bool). cond t (a ∷ nodes_from node e (suc a) k) (nodes_from node e (suc a) k)) h

  split : (m a k b : ℕ) → b ≡ a + m → nodes_from node e a (m + k) ≡ nodes_from node e a m ++ nodes_from node e b k
  unfolding nodes_from
  split zero a k b h = ap (nodes_from node e a) (zero-add k)
      ∙ ap (λ (x : ℕ). nodes_from node e x k) (sym (h ∙ add-zero a))
  split (suc m) a k b h = ap (nodes_from node e a) (suc-add m k) ∙ go (has node e a) (split m (suc a) k b (omega arith))
    where
      go : (t : Bool) → nodes_from node e (suc a) (m + k) ≡ nodes_from node e (suc a) m ++ nodes_from node e b k
          → cond t (a ∷ nodes_from node e (suc a) (m + k)) (nodes_from node e (suc a) (m + k))
          ≡ cond t (a ∷ nodes_from node e (suc a) m) (nodes_from node e (suc a) m) ++ nodes_from node e b k
      go true ih = ap (λ (q : List ℕ). a ∷ q) ih
      go false ih = ih

  -- those before node b, then those from it on
  pub nodes_split : (a m b k n : ℕ) → b ≡ a + m → n ≡ m + k
      → nodes_from node e a n ≡ nodes_from node e a m ++ nodes_from node e b k
  nodes_split a m b k n h g = ap (nodes_from node e a) g ∙ split m a k b h

  -- one node more
  pub nodes_added : (a k i n : ℕ) → i ≡ a + k → n ≡ k + 1 → has node e i ≡ true
      → nodes_from node e a n ≡ nodes_from node e a k ++ (i ∷ [])
  unfolding nodes_from
  nodes_added a k i n h g t = nodes_split a k i 1 n h g
      ∙ ap (λ (q : List ℕ). nodes_from node e a k ++ q) (with_it i 0 t)

  pub nodes_passed : (a k i n : ℕ) → i ≡ a + k → n ≡ k + 1 → has node e i ≡ false
      → nodes_from node e a n ≡ nodes_from node e a k
  unfolding nodes_from
  nodes_passed a k i n h g t = nodes_split a k i 1 n h g
      ∙ ap (λ (q : List ℕ). nodes_from node e a k ++ q) (without_it i 0 t) ∙ append-nil (nodes_from node e a k)

  -- with a node in it
  nodes_around : (a k j : ℕ) → Inside node e a k j
      → nodes_from node e a k ≡ nodes_from node e a (j - a) ++ (j ∷ nodes_from node e (suc j) (a + k - suc j))
  nodes_around a k j i =
      let h : j ≡ a + (j - a) = omega (arith, i.from) in
      let g : k ≡ (j - a) + suc (a + k - suc j) = omega (arith, i.from, i.below) in
      nodes_split a (j - a) j (suc (a + k - suc j)) k h g
      ∙ ap (λ (q : List ℕ). nodes_from node e a (j - a) ++ q) (with_it j (a + k - suc j) i.has_it)

  pub nodes_none : (a k j : ℕ) → nodes_from node e a k ≡ [] → Inside node e a k j → ⊥
  nodes_none a k j z i =
      let b = nodes_from node e a (j - a) in
      let r = j ∷ nodes_from node e (suc j) (a + k - suc j) in
      let f : 0 ≡ length (b ++ r) = ap length (sym z ∙ nodes_around a k j i) in
      omega (arith, f, length-append b r)

  -- none, or the first of them and those behind it
  pub walk : (a k : ℕ) → (nodes_from node e a k ≡ []) ⊎ Walked node e a k (head_of (nodes_from node e a k))
  unfolding nodes_from
  walk a zero = inl refl
  walk a (suc k) = go (true_or_false (has node e a)) (walk (suc a) k)
    where
      go : (has node e a ≡ true) ⊎ (has node e a ≡ false)
          → (nodes_from node e (suc a) k ≡ []) ⊎ Walked node e (suc a) k (head_of (nodes_from node e (suc a) k))
          → (nodes_from node e a (suc k) ≡ []) ⊎ Walked node e a (suc k) (head_of (nodes_from node e a (suc k)))
      go (inl t) ih =
          let s : k ≡ a + suc k - suc a = omega arith in
          inr (subst (λ (q : ℕ). Walked node e a (suc k) q) (sym (ap head_of (with_it a k t))) (record {
            is = with_it a k t ∙ ap (λ (n : ℕ). a ∷ nodes_from node e (suc a) n) s;
            inside = record { from = omega arith; below = omega arith; has_it = t };
          }))
      go (inr f) (inl z) = inl (without_it a k f ∙ z)
      go (inr f) (inr v) =
          let j = head_of (nodes_from node e (suc a) k) in
          let s : suc a + k - suc j ≡ a + suc k - suc j = omega arith in
          inr (subst (λ (q : ℕ). Walked node e a (suc k) q) (sym (ap head_of (without_it a k f))) (record {
            is = without_it a k f ∙ v.is ∙ ap (λ (n : ℕ). j ∷ nodes_from node e (suc j) n) s;
            inside = record {
              from = omega (arith, v.inside.from);
              below = omega (arith, v.inside.below);
              has_it = v.inside.has_it;
            };
          }))

  -- none, or the last is one of them
  pub last_inside : (a k : ℕ) → (nodes_from node e a k ≡ []) ⊎ Inside node e a k (last_of (nodes_from node e a k))
  unfolding nodes_from
  last_inside a zero = inl refl
  last_inside a (suc k) = go (true_or_false (has node e (a + k))) (last_inside a k)
    where
      go : (has node e (a + k) ≡ true) ⊎ (has node e (a + k) ≡ false)
          → (nodes_from node e a k ≡ []) ⊎ Inside node e a k (last_of (nodes_from node e a k))
          → (nodes_from node e a (suc k) ≡ []) ⊎ Inside node e a (suc k) (last_of (nodes_from node e a (suc k)))
      go (inl t) ih =
          let s : last_of (nodes_from node e a (suc k)) ≡ a + k =
          ap last_of (nodes_added a k (a + k) (suc k) refl (omega arith) t)
          ∙ last_own (nodes_from node e a k) (a + k) in
          inr (subst (λ (q : ℕ). Inside node e a (suc k) q) (sym s)
          (record { from = omega arith; below = omega arith; has_it = t }))
      go (inr f) (inl z) = inl (nodes_passed a k (a + k) (suc k) refl (omega arith) f ∙ z)
      go (inr f) (inr v) =
          let s : last_of (nodes_from node e a (suc k)) ≡ last_of (nodes_from node e a k) =
          ap last_of (nodes_passed a k (a + k) (suc k) refl (omega arith) f) in
          inr (subst (λ (q : ℕ). Inside node e a (suc k) q) (sym s)
          (record { from = v.from; below = omega (arith, v.below); has_it = v.has_it }))

  -- the last is also the last from any of them on
  last_from : (a k j : ℕ) → Inside node e a k j
      → last_of (nodes_from node e a k) ≡ last_of (j ∷ nodes_from node e (suc j) (a + k - suc j))
  last_from a k j i = ap last_of (nodes_around a k j i)
      ∙ last_added (nodes_from node e a (j - a)) j (nodes_from node e (suc j) (a + k - suc j))

  -- none stands behind the last, and one behind each other
  pub behind_last : (a k j : ℕ) → Inside node e a k j → last_of (nodes_from node e a k) ≡ j
      → nodes_from node e (suc j) (a + k - suc j) ≡ []
  behind_last a k j i l = go (last_behind j xs) (last_inside (suc j) (a + k - suc j))
    where
      xs : List ℕ
      xs = nodes_from node e (suc j) (a + k - suc j)

      go : (xs ≡ []) ⊎ (last_of (j ∷ xs) ≡ last_of xs) → (xs ≡ []) ⊎ Inside node e (suc j) (a + k - suc j) (last_of xs)
          → xs ≡ []
      go (inl z) q = z
      go (inr s) (inl z) = z
      go (inr s) (inr v) = let t : j ≡ last_of xs = sym l ∙ last_from a k j i ∙ s in absurd (omega (arith, v.from, t))

  pub behind_other : (a k j : ℕ) → Inside node e a k j → (j ≡ last_of (nodes_from node e a k) → ⊥)
      → 0 < head_of (nodes_from node e (suc j) (a + k - suc j))
  behind_other a k j i l = go (walk (suc j) (a + k - suc j))
    where
      xs : List ℕ
      xs = nodes_from node e (suc j) (a + k - suc j)

      go : (xs ≡ []) ⊎ Walked node e (suc j) (a + k - suc j) (head_of xs) → 0 < head_of xs
      go (inl z) = absurd (l (sym (last_from a k j i ∙ last_alone j xs z)))
      go (inr v) = omega (arith, v.inside.from)

  -- each of them
  pub nodes_inside : (a k m : ℕ) → m < length (nodes_from node e a k)
      → Inside node e a k (get_or (nodes_from node e a k) m 0)
  unfolding nodes_from
  nodes_inside a zero m h = absurd (not-suc-le-zero h)
  nodes_inside a (suc k) m h = go (true_or_false (has node e a)) m h (nodes_inside (suc a) k)
    where
      wider : (j : ℕ) → Inside node e (suc a) k j → Inside node e a (suc k) j
      wider j i = record { from = omega (arith, i.from); below = omega (arith, i.below); has_it = i.has_it }

      go : (has node e a ≡ true) ⊎ (has node e a ≡ false) → (m : ℕ) → m < length (nodes_from node e a (suc k))
          → ((m : ℕ) → m < length (nodes_from node e (suc a) k)
          → Inside node e (suc a) k (get_or (nodes_from node e (suc a) k) m 0))
          → Inside node e a (suc k) (get_or (nodes_from node e a (suc k)) m 0)
      go (inl t) zero h ih =
          subst (λ (q : List ℕ). Inside node e a (suc k) (get_or q 0 0)) (sym (with_it a k t))
          (record { from = omega arith; below = omega arith; has_it = t })
      go (inl t) (suc m) h ih =
          let g : suc m < suc (length (nodes_from node e (suc a) k)) =
          subst (λ (q : List ℕ). suc m < length q) (with_it a k t) h in
          subst (λ (q : List ℕ). Inside node e a (suc k) (get_or q (suc m) 0)) (sym (with_it a k t))
          (wider (get_or (nodes_from node e (suc a) k) m 0) (ih m (omega arith)))
      go (inr f) m h ih =
          subst (λ (q : List ℕ). Inside node e a (suc k) (get_or q m 0)) (sym (without_it a k f))
          (wider (get_or (nodes_from node e (suc a) k) m 0)
          (ih m (subst (λ (q : List ℕ). m < length q) (without_it a k f) h)))

  -- a first of 0 is none, where node 0 lacks the event
  module _ (zeroth : has node e 0 ≡ false) where
    pub walked_none : (a k : ℕ) → head_of (nodes_from node e a k) ≡ 0 → nodes_from node e a k ≡ []
    walked_none a k z = go (walk a k)
      where
        go : (nodes_from node e a k ≡ []) ⊎ Walked node e a k (head_of (nodes_from node e a k))
            → nodes_from node e a k ≡ []
        go (inl n) = n
        go (inr v) = not_both (subst (λ (j : ℕ). has node e j ≡ true) z v.inside.has_it) zeroth

    pub some_first : (a k j : ℕ) → Inside node e a k j → 0 < head_of (nodes_from node e a k)
    some_first a k j i = go (equal_or_not (head_of (nodes_from node e a k)) 0)
      where
        go : (head_of (nodes_from node e a k) ≡ 0) ⊎ (head_of (nodes_from node e a k) ≡ 0 → ⊥)
            → 0 < head_of (nodes_from node e a k)
        go (inl z) = absurd (nodes_none a k j (walked_none a k z) i)
        go (inr z) = omega arith

  pub walked_on_lem : (a k j : ℕ) → head_of (nodes_from node e a k) ≡ j → 0 < j → Walked node e a k j
  walked_on_lem a k j h p = go (walk a k)
    where
      go : (nodes_from node e a k ≡ []) ⊎ Walked node e a k (head_of (nodes_from node e a k)) → Walked node e a k j
      go (inl z) = let f : j ≡ 0 = sym h ∙ ap head_of z in absurd (omega arith)
      go (inr v) = subst (λ (q : ℕ). Walked node e a k q) h v
