-- A turn of the search over the marks, by the five ways through it.
use mathlib.Core.Path.{◌≡◌, refl, sym, ap, ◌∙◌, subst}
use mathlib.Core.Bool.{Bool, true, false, cond}
use mathlib.Core.List.{List, [], ◌∷◌, ◌++◌}
use Prim.Native.Nat.{ℕ, zero, suc, ◌+◌, ◌-◌, ◌*◌, ◌/◌, ◌%◌, ◌≤◌, ◌<◌}
use native.Mathlib.Omega.{arith}
use borrow.Author.Tests.{eqb-true, eq-eqb, ne_eqb}
use lib.Dec.{eqb}
use lib.ListN.{length, get_or, set, length-set}
use Rattle.book_format.specs.Format.{links, origins, destinations, link_prev, link_prev_alt, origin_link}
use Rattle.book_format.specs.Rows.{row5}
use Rattle.book_options.specs.Options.{member, origin_below, pushed, enter, search, options_of}
use Rattle.book_options.specs.Turns.{stack_at, outside_set, SearchIn, unseen_links, unmet, Walking, even, pops_left, SearchTurned}
use Rattle.book_options.specs.declared.Walk.{Walk}
use Rattle.book_format.proofs.Given.{prev_named, prev_alt_named}
use Rattle.laws.proofs.Lists.{kept_at}
use Rattle.laws.proofs.Below.{sum_same, sum_most, sum_falls}
use Rattle.book_options.proofs.Laws.{outside_itself, outside_most, outside_less, in_set_lem, not_in_set, stack_one, stack_pushed, stack_same, mark_even, holds_fewer, holds_enter, holds_push, holds_keep}

-- ---- the definition's turn

module _ (b : List ℕ) (k l : ℕ) (stack s kept : List ℕ) where
  search_turn : (t : Bool) (o : ℕ) → member l s ≡ t → origin_below b (origins b) l ≡ o
      → search (suc k) b (l ∷ stack) s kept ≡ (let e = enter b l t o stack s kept in search k b e.stack e.set e.kept)
  unfolding search
  search_turn t o h g = rw (h, g)

  search_seen : member l s ≡ true → search (suc k) b (l ∷ stack) s kept ≡ search k b stack s kept
  unfolding enter
  search_seen h = search_turn true (origin_below b (origins b) l) h refl

  search_origin : (o : ℕ) → member l s ≡ false → origin_below b (origins b) l ≡ suc o → search (suc k) b (l ∷ stack) s kept ≡ search k b stack (l ∷ s) (kept ++ (o ∷ []))
  unfolding enter
  search_origin o h g = search_turn false (suc o) h g

  search_previous : member l s ≡ false → origin_below b (origins b) l ≡ 0 → search (suc k) b (l ∷ stack) s kept ≡ search k b (pushed b l stack) (l ∷ s) kept
  unfolding enter
  search_previous h g = search_turn false 0 h g

pub search_empty : (k : ℕ) (b s kept : List ℕ) → search k b [] s kept ≡ record { stack = []; set = s; kept = kept }
unfolding search
search_empty zero b s kept = refl
search_empty (suc k) b s kept = refl

module _ (b : List ℕ) (l : ℕ) (stack : List ℕ) where
  pushed_none : link_prev b l ≡ 0 → pushed b l stack ≡ stack
  unfolding pushed
  pushed_none h = rw (eq-eqb (link_prev b l) 0 h)

  pushed_one : (link_prev b l ≡ 0 → ⊥) → link_prev_alt b l ≡ 0 → pushed b l stack ≡ link_prev b l ∷ stack
  unfolding pushed
  pushed_one h g = rw (ne_eqb (link_prev b l) 0 h, eq-eqb (link_prev_alt b l) 0 g)

  pushed_two : (link_prev b l ≡ 0 → ⊥) → (link_prev_alt b l ≡ 0 → ⊥) → pushed b l stack ≡ link_prev_alt b l ∷ link_prev b l ∷ stack
  unfolding pushed
  pushed_two h g = rw (ne_eqb (link_prev b l) 0 h, ne_eqb (link_prev_alt b l) 0 g)

-- ---- a turn

-- The search goes on from the stack that is to come, while `top` links stand on the marks' stack and at most `more` are to be pushed; fewer than `bound` pops are left.
record Going (b m : List ℕ) (top n more bound : ℕ) (stack : List ℕ) : Type 0 where
  left : ℕ
  set : List ℕ
  kept : List ℕ
  answer : search left b stack set kept ≡ options_of b
  holds : SearchIn b m top n set kept
  pops : top + more + 2 * unseen_links b set ≤ left
  room : top + more + unseen_links b set ≤ links b + destinations b
  some : n + unmet b set ≤ origins b
  falls : top + more + 2 * unseen_links b set < bound

-- by the marks as by the set
pops_left_lem : (b m : List ℕ) (w : Walk) (s kept : List ℕ) → SearchIn b m w.top w.kept s kept → pops_left b m w ≡ w.top + 2 * unseen_links b s
unfolding pops_left unseen_links
pops_left_lem b m w s kept v = ap (λ (x : ℕ). w.top + 2 * x) (sum_same (links b) (even m) (outside_set s) (mark_even v))

-- the marks' stack is the search's
going_done : {b m d : List ℕ} {top n more : ℕ} {w : Walk} {stack : List ℕ} → Going b m top n more (pops_left b d w) stack → stack_at m (links b) top ≡ stack
    → SearchTurned b d w m (record { top = top; kept = n })
going_done {b} {m} {d} {top} {n} {more} {w} {stack} g e =
    let p = g.pops in
    let r = g.room in
    let f = g.falls in
    record {
      walking = record {
        left = g.left;
        set = g.set;
        kept = g.kept;
        answer = ap (λ (t : List ℕ). search g.left b t g.set g.kept) e ∙ g.answer;
        holds = g.holds;
        pops = omega arith;
        room = omega arith;
        some = g.some;
      };
      falls = omega (arith, pops_left_lem b m (record { top = top; kept = n }) g.set g.kept g.holds);
    }

going_push : {b m : List ℕ} {top n bound : ℕ} {stack : List ℕ} (more i x : ℕ) → Going b m top n (more + 1) bound stack → i ≡ links b + top → i < length m → x < links b
    → Going b (set m i x) (top + 1) n more bound stack
going_push more i x g e h l =
    let p = g.pops in
    let r = g.room in
    let f = g.falls in
    record {
      left = g.left;
      set = g.set;
      kept = g.kept;
      answer = g.answer;
      holds = holds_push g.holds i x e h (omega arith) l;
      pops = omega arith;
      room = omega arith;
      some = g.some;
      falls = omega arith;
    }

-- the origin that a link has
pub origin_is : (b : List ℕ) (n l o : ℕ) → origin_below b n l ≡ suc o → (o < n) × (origin_link b o ≡ l)
unfolding origin_below
origin_is b zero l o h = absurd (omega arith)
origin_is b (suc n) l o h = go (eqb (origin_link b n) l) refl h (origin_is b n l o)
  where
    go : (t : Bool) → eqb (origin_link b n) l ≡ t → cond t (suc n) (origin_below b n l) ≡ suc o → (origin_below b n l ≡ suc o → (o < n) × (origin_link b o ≡ l))
        → (o < suc n) × (origin_link b o ≡ l)
    go true e f ih = let d : o ≡ n = omega arith in (omega arith, ap (origin_link b) d ∙ eqb-true (origin_link b n) l e)
    go false e f ih = let r = ih f in (omega (arith, r.0), r.1)

module _ (b : List ℕ) (l : ℕ) (s : List ℕ) (h : outside_set s l ≡ 1) where
  pub unseen_falls : l < links b → unseen_links b (l ∷ s) < unseen_links b s
  unfolding unseen_links
  unseen_falls g = sum_falls (links b) (outside_set (l ∷ s)) (outside_set s) l (λ i. outside_less l i s) g (omega (arith, outside_itself l s))

  pub unmet_less : unmet b (l ∷ s) ≤ unmet b s
  unfolding unmet
  unmet_less = sum_most (origins b) (λ i. outside_set (l ∷ s) (origin_link b i)) (λ i. outside_set s (origin_link b i)) (λ i. outside_less l (origin_link b i) s)

  pub unmet_falls : (o : ℕ) → o < origins b → origin_link b o ≡ l → unmet b (l ∷ s) < unmet b s
  unfolding unmet
  unmet_falls o g e =
      sum_falls (origins b) (λ i. outside_set (l ∷ s) (origin_link b i)) (λ i. outside_set s (origin_link b i)) o (λ i. outside_less l (origin_link b i) s) g
      (subst (λ (x : ℕ). outside_set (l ∷ s) x < outside_set s x) (sym e) (omega (arith, outside_itself l s)))

module _ {b m : List ℕ} {w : Walk} (v : Walking b m w) (h : 0 < w.top) (l : ℕ) (e : l ≡ get_or m (links b + (w.top - 1)) 0) where
  pub popped_link : l < links b
  popped_link = subst (λ (x : ℕ). x < links b) (sym e) (v.holds.within (w.top - 1) (omega arith))

  lead : search (suc (v.left - 1)) b (l ∷ stack_at m (links b) (w.top - 1)) v.set v.kept ≡ options_of b
  lead =
      let p = v.pops in
      let k : suc (v.left - 1) ≡ v.left = omega arith in
      let t : w.top - 1 + 1 ≡ w.top = omega arith in
      let d : l ∷ stack_at m (links b) (w.top - 1) ≡ stack_at m (links b) w.top =
      ap (λ (x : ℕ). x ∷ stack_at m (links b) (w.top - 1)) e ∙ sym (stack_one m (links b) (w.top - 1)) ∙ ap (stack_at m (links b)) t in
      ap (λ (x : ℕ). search x b (l ∷ stack_at m (links b) (w.top - 1)) v.set v.kept) k
      ∙ ap (λ (x : List ℕ). search v.left b x v.set v.kept) d
      ∙ v.answer

  bound : pops_left b m w ≡ w.top + 2 * unseen_links b v.set
  bound = pops_left_lem b m w v.set v.kept v.holds

  -- the link is in the set
  pub turn_seen : get_or m l 0 % 2 ≡ 1 → SearchTurned b m w m (record { top = w.top - 1; kept = w.kept })
  turn_seen g =
      let p = v.pops in
      let r = v.room in
      let a = v.holds.marks l popped_link in
      let z : outside_set v.set l ≡ 0 = omega (arith, outside_most l v.set) in
      let go : Going b m (w.top - 1) w.kept 0 (pops_left b m w) (stack_at m (links b) (w.top - 1)) = record {
        left = v.left - 1;
        set = v.set;
        kept = v.kept;
        answer = sym (search_seen b (v.left - 1) l (stack_at m (links b) (w.top - 1)) v.set v.kept (in_set_lem l v.set z)) ∙ lead;
        holds = holds_fewer v.holds (w.top - 1) (omega arith);
        pops = omega arith;
        room = omega arith;
        some = v.some;
        falls = omega (arith, bound);
      } in
      going_done go refl

  -- the link enters the set
  module _ (g : get_or m l 0 % 2 ≡ 1 → ⊥) where
    new : outside_set v.set l ≡ 1
    new = omega (arith, v.holds.marks l popped_link, outside_most l v.set)

    origin : get_or m l 0 ≡ 2 * origin_below b (origins b) l
    origin = omega (arith, v.holds.marks l popped_link, new)

    pub stack_room : w.top < links b + destinations b
    stack_room = omega (arith, v.room, unseen_falls b l v.set new popped_link)

    fewer_unmet : (get_or m l 0 ≡ 0 → ⊥) → unmet b (l ∷ v.set) < unmet b v.set
    fewer_unmet z =
        let o = origin_below b (origins b) l - 1 in
        let c = origin_is b (origins b) l o (omega (arith, origin)) in
        unmet_falls b l v.set new o c.0 c.1

    pub kept_room : (get_or m l 0 ≡ 0 → ⊥) → w.kept < origins b
    kept_room z = omega (arith, v.some, fewer_unmet z)

  module _ (g : get_or m l 0 % 2 ≡ 1 → ⊥) (x : ℕ) (d : x ≡ get_or m l 0 + 1) (r : links b ≤ length m) where
    same_stack : stack_at (set m l x) (links b) (w.top - 1) ≡ stack_at m (links b) (w.top - 1)
    same_stack = stack_same m (set m l x) (links b) (w.top - 1) (λ i j. kept_at m l (links b + i) x (λ (f : links b + i ≡ l). omega (arith, popped_link)))

    held : SearchIn b (set m l x) (w.top - 1) w.kept (l ∷ v.set) v.kept
    held = holds_enter (holds_fewer v.holds (w.top - 1) (omega arith)) l x popped_link (omega (arith, popped_link)) (new g) d

    -- its origin is kept
    pub turn_kept : (get_or m l 0 ≡ 0 → ⊥) → (i o : ℕ) → i ≡ 2 * links b + destinations b + w.kept → i < length m → o ≡ get_or m l 0 / 2 - 1
        → SearchTurned b m w (set (set m l x) i o) (record { top = w.top - 1; kept = w.kept + 1 })
    turn_kept z i o f j y =
        let p = v.pops in
        let q = v.room in
        let t = v.some in
        let a = unseen_falls b l v.set (new g) popped_link in
        let n : origin_below b (origins b) l ≡ suc o = omega (arith, origin g) in
        let u = fewer_unmet g z in
        let k : i < length (set m l x) = subst (λ (y : ℕ). i < y) (sym (length-set m l x)) j in
        let go : Going b (set (set m l x) i o) (w.top - 1) (w.kept + 1) 0 (pops_left b m w) (stack_at m (links b) (w.top - 1)) = record {
          left = v.left - 1;
          set = l ∷ v.set;
          kept = v.kept ++ (o ∷ []);
          answer = sym (search_origin b (v.left - 1) l (stack_at m (links b) (w.top - 1)) v.set v.kept o (not_in_set l v.set (new g)) n) ∙ lead;
          holds = holds_keep held i o f k (omega arith);
          pops = omega arith;
          room = omega arith;
          some = omega arith;
          falls = omega (arith, bound);
        } in
        going_done go
        (stack_same (set m l x) (set (set m l x) i o) (links b) (w.top - 1) (λ k c. kept_at (set m l x) i (links b + k) o (λ (d : links b + k ≡ i). omega arith)) ∙ same_stack)

    -- it has no origin
    module _ (z : get_or m l 0 ≡ 0) where
      entered : Going b (set m l x) (w.top - 1) w.kept 2 (pops_left b m w) (pushed b l (stack_at m (links b) (w.top - 1)))
      entered =
          let p = v.pops in
          let q = v.room in
          let t = v.some in
          let a = unseen_falls b l v.set (new g) popped_link in
          let u = unmet_less b l v.set (new g) in
          record {
            left = v.left - 1;
            set = l ∷ v.set;
            kept = v.kept;
            answer = sym (search_previous b (v.left - 1) l (stack_at m (links b) (w.top - 1)) v.set v.kept (not_in_set l v.set (new g)) (omega (arith, origin g))) ∙ lead;
            holds = held;
            pops = omega arith;
            room = omega arith;
            some = omega arith;
            falls = omega (arith, bound);
          }

      pub turn_first : link_prev b l ≡ 0 → SearchTurned b m w (set m l x) (record { top = w.top - 1; kept = w.kept })
      turn_first n = going_done entered (same_stack ∙ sym (pushed_none b l (stack_at m (links b) (w.top - 1)) n))

      module _ (p : ℕ) (n : p ≡ link_prev b l) (f : p ≡ 0 → ⊥) (c : row5 b ≡ false) (i : ℕ) (j : i ≡ links b + (w.top - 1)) (k : i < length m) where
        inside : i < length (set m l x)
        inside = subst (λ (y : ℕ). i < y) (sym (length-set m l x)) k

        one : Going b (set (set m l x) i p) (w.top - 1 + 1) w.kept 1 (pops_left b m w) (pushed b l (stack_at m (links b) (w.top - 1)))
        one = going_push 1 i p entered j inside (subst (λ (y : ℕ). y < links b) (sym n) (prev_named b c l popped_link))

        one-stack : stack_at (set (set m l x) i p) (links b) (w.top - 1 + 1) ≡ link_prev b l ∷ stack_at m (links b) (w.top - 1)
        one-stack =
            stack_pushed (set m l x) (links b) (w.top - 1) i p j inside
            ∙ ap (λ (y : List ℕ). p ∷ y) same_stack
            ∙ ap (λ (y : ℕ). y ∷ stack_at m (links b) (w.top - 1)) n

        real : link_prev b l ≡ 0 → ⊥
        real y = f (n ∙ y)

        pub turn_one : link_prev_alt b l ≡ 0 → SearchTurned b m w (set (set m l x) i p) (record { top = w.top - 1 + 1; kept = w.kept })
        turn_one q = going_done one (one-stack ∙ sym (pushed_one b l (stack_at m (links b) (w.top - 1)) real q))

        pub turn_two : (a : ℕ) → a ≡ link_prev_alt b l → (a ≡ 0 → ⊥) → i + 1 < length m
            → SearchTurned b m w (set (set (set m l x) i p) (i + 1) a) (record { top = w.top - 1 + 2; kept = w.kept })
        turn_two a y z q =
            let u : i + 1 < length (set (set m l x) i p) = omega (arith, length-set (set m l x) i p, length-set m l x) in
            let t : w.top - 1 + 1 + 1 ≡ w.top - 1 + 2 = omega arith in
            let go = going_push 0 (i + 1) a one (omega arith) u (subst (λ (o : ℕ). o < links b) (sym y) (prev_alt_named b c l popped_link)) in
            subst (λ (o : ℕ). SearchTurned b m w (set (set (set m l x) i p) (i + 1) a) (record { top = o; kept = w.kept })) t
            (going_done go
            (stack_pushed (set (set m l x) i p) (links b) (w.top - 1 + 1) (i + 1) a (omega arith) u
            ∙ ap (λ (o : List ℕ). a ∷ o) one-stack
            ∙ ap (λ (o : ℕ). o ∷ link_prev b l ∷ stack_at m (links b) (w.top - 1)) y
            ∙ sym (pushed_two b l (stack_at m (links b) (w.top - 1)) real (λ (o : link_prev_alt b l ≡ 0). z (y ∙ o)))))
