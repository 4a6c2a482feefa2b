-- The search without a copy finds what the source's search finds with one, for every book that rows 5 and 6 let through: the same set, the same origins in the same order, and 8 for the same books (`same_options`).
use mathlib.Core.Path.{◌≡◌, refl, sym, ap, ◌∙◌, subst}
use mathlib.Core.Logic.{◌⊎◌, inl, inr}
use mathlib.Core.Bool.{Bool, true, false, ◌||◌, cond}
use mathlib.Core.List.{List, [], ◌∷◌, ◌++◌}
use Prim.Native.Nat.{ℕ, zero, suc, ◌+◌, ◌-◌, ◌*◌, ◌≤◌, ◌<◌}
use native.Mathlib.Nat.{not-suc-le-zero}
use native.Mathlib.Omega.{arith}
use borrow.Author.Tests.{eq-eqb, ne_eqb}
use lib.Dec.{eqb}
use lib.ListN.{length, get_or, take, length-append, get_or-append}
use lib.Seq.{get_or_at}
use Rattle.laws.proofs.Truth.{equal_or_not, not_both, none_right}
use Rattle.laws.proofs.Below.{none_at}
use Rattle.book_format.specs.Format.{links, origins, destinations, origin_link}
use Rattle.book_format.specs.Rows.{row5, row6, origin_repeats, some_bad_place, some_origin_repeats}
use Rattle.book_options.specs.Options.{Search, member, origin_below, stacked, pushed, enter, search, options_of, in_set, kept_origins, none, destination_zero, row8}
use Rattle.book_options.proofs.Walks.{origin_is}
use Rattle.book_options.proofs.Apart.{member_more, member_here}
use Rattle.book_options.proofs.Empties.{options_whole}
use Rattle.book_copied_origins.specs.Copied.{Copy, rows_below, swapped, swept_all, CopySearch, enter_copy, search_copy, copy_options, kept_copies, copy_refuses}
use Rattle.book_copied_origins.proofs.LinkZero.{zero_in_set}
use Rattle.book_copied_origins.proofs.Swaps.{turned, turned_n, turned_other, turned_back, turned_most, swapped_at, swapped_length, kept_next, swept_none, swept_one}

-- ---- origins and their links

no_origin : (b : List ℕ) (n l : ℕ) → origin_below b n l ≡ 0 → (q : ℕ) → q < n → origin_link b q ≡ l → ⊥
unfolding origin_below
no_origin b zero l e q h f = not-suc-le-zero h
no_origin b (suc n) l e q h f = go (eqb (origin_link b n) l) refl e (equal_or_not q n) (λ z. no_origin b n l z q)
  where
    go : (t : Bool) → eqb (origin_link b n) l ≡ t → cond t (suc n) (origin_below b n l) ≡ 0 → (q ≡ n) ⊎ (q ≡ n → ⊥) → (origin_below b n l ≡ 0 → q < n → origin_link b q ≡ l → ⊥) → ⊥
    go true s z r ih = absurd (omega arith)
    go false s z (inl r) ih = not_both (eq-eqb (origin_link b n) l (ap (origin_link b) (sym r) ∙ f)) s
    go false s z (inr r) ih = ih z (omega arith) f

-- row 6: one origin to a link
module _ (b : List ℕ) (h : row6 b ≡ false) where
  none_above : (i j : ℕ) → i < origins b → j < i → origin_link b j ≡ origin_link b i → ⊥
  unfolding row6
  none_above i j g l e =
      not_both (eq-eqb (origin_link b j) (origin_link b i) e)
      (none_at i (λ (k : ℕ). eqb (origin_link b k) (origin_link b i)) j l (none_at (origins b) (origin_repeats b) i g (none_right (some_bad_place b) (some_origin_repeats b) h)))

  one_origin : (i j : ℕ) → i < origins b → j < origins b → origin_link b i ≡ origin_link b j → i ≡ j
  one_origin i j g l e = go (equal_or_not i j)
    where
      go : (i ≡ j) ⊎ (i ≡ j → ⊥) → i ≡ j
      go (inl r) = r
      go (inr r) = absurd (later (equal_or_not (i - j) 0))
        where
          later : (i - j ≡ 0) ⊎ (i - j ≡ 0 → ⊥) → ⊥
          later (inl z) = none_above j i l (omega arith) e
          later (inr z) = none_above i j g (omega arith) (sym e)

-- ---- what holds between two pops

-- The copy has each origin once, at its place; its first are those kept, which lie on links of the set.
record Same (b set kept : List ℕ) (c : Copy) : Type 0 where
  place : ℕ → ℕ
  sized : length c.rows ≡ origins b
  named : (i : ℕ) → i < origins b → get_or c.rows i 0 < origins b
  back : (i : ℕ) → i < origins b → place (get_or c.rows i 0) ≡ i
  there : (q : ℕ) → q < origins b → place q < origins b
  at : (q : ℕ) → q < origins b → get_or c.rows (place q) 0 ≡ q
  many : c.kept ≡ length kept
  most : c.kept ≤ origins b
  rows : (k : ℕ) → k < c.kept → get_or c.rows k 0 ≡ get_or kept k 0
  met : (k : ℕ) → k < c.kept → member (origin_link b (get_or c.rows k 0)) set ≡ true

-- ---- a link that enters the set

module _ (b : List ℕ) (h : row6 b ≡ false) (set kept : List ℕ) (c : Copy) (v : Same b set kept c) (l : ℕ) (m : member l set ≡ false) where
  -- no origin has it
  sweep_none : origin_below b (origins b) l ≡ 0 → swept_all b l c ≡ c
  unfolding swept_all
  sweep_none e =
      swept_none b l (origins b - c.kept) c.kept c
      (λ j x y z. no_origin b (origins b) l e (get_or c.rows j 0) (v.named j (omega (arith, v.most))) z)

  same_none : Same b (l ∷ set) kept c
  same_none = record {
    place = v.place;
    sized = v.sized;
    named = v.named;
    back = v.back;
    there = v.there;
    at = v.at;
    many = v.many;
    most = v.most;
    rows = v.rows;
    met = λ k g. member_more (origin_link b (get_or c.rows k 0)) l set (v.met k g);
  }

  -- origin o has it
  module _ (o : ℕ) (ho : o < origins b) (eo : origin_link b o ≡ l) where
    abbrev p : ℕ
    p = v.place o

    p_most : p < origins b
    p_most = v.there o ho

    p_inside : p < length c.rows
    p_inside = subst (λ (x : ℕ). p < x) (sym v.sized) p_most

    p_link : origin_link b (get_or c.rows p 0) ≡ l
    p_link = ap (origin_link b) (v.at o ho) ∙ eo

    p_behind : c.kept ≤ p
    p_behind = go (equal_or_not (c.kept - p) 0)
      where
        go : (c.kept - p ≡ 0) ⊎ (c.kept - p ≡ 0 → ⊥) → c.kept ≤ p
        go (inl z) = omega arith
        go (inr z) = not_both (ap (λ (x : ℕ). member x set) (sym p_link) ∙ v.met p (omega arith)) m

    sweep_one : swept_all b l c ≡ kept_next c p
    unfolding swept_all
    sweep_one =
        swept_one b l (origins b - c.kept) c.kept p c p_behind (omega (arith, p_most, v.most)) p_behind p_inside p_link
        (λ j x y d z.
        let g : j < origins b = omega (arith, v.most) in
        let r : get_or c.rows j 0 ≡ o = one_origin b h (get_or c.rows j 0) o (v.named j g) ho (z ∙ sym eo) in
        d (sym (v.back j g) ∙ ap v.place r))

    moved_at : (j : ℕ) → get_or (swapped c.rows p c.kept) j 0 ≡ get_or c.rows (turned p c.kept j) 0
    moved_at j = swapped_at p c.kept c.rows j p_inside (omega (arith, p_inside, p_behind))

    moved_first : (k : ℕ) → k < c.kept → get_or (swapped c.rows p c.kept) k 0 ≡ get_or c.rows k 0
    moved_first k g = moved_at k ∙ ap (λ (x : ℕ). get_or c.rows x 0) (turned_other p c.kept k (λ (e : k ≡ c.kept). omega arith) (λ (e : k ≡ p). omega (arith, p_behind)))

    moved_last : get_or (swapped c.rows p c.kept) c.kept 0 ≡ o
    moved_last = moved_at c.kept ∙ ap (λ (x : ℕ). get_or c.rows x 0) (turned_n p c.kept c.kept refl) ∙ v.at o ho

    same_one : Same b (l ∷ set) (kept ++ (o ∷ [])) (kept_next c p)
    same_one = record {
      place = λ q. turned p c.kept (v.place q);
      sized = swapped_length p c.kept c.rows ∙ v.sized;
      named = λ i g. subst (λ (x : ℕ). x < origins b) (sym (moved_at i)) (v.named (turned p c.kept i) (inside i g));
      back = λ i g. ap (λ (x : ℕ). turned p c.kept (v.place x)) (moved_at i) ∙ ap (turned p c.kept) (v.back (turned p c.kept i) (inside i g)) ∙ turned_back p c.kept i;
      there = λ q g. inside (v.place q) (v.there q g);
      at = λ q g. moved_at (turned p c.kept (v.place q)) ∙ ap (λ (x : ℕ). get_or c.rows x 0) (turned_back p c.kept (v.place q)) ∙ v.at q g;
      many = omega (arith, v.many, length-append kept (o ∷ []));
      most = omega (arith, p_most, p_behind);
      rows = λ k g. row k g (equal_or_not k c.kept);
      met = λ k g. seen k g (equal_or_not k c.kept);
    }
      where
        inside : (i : ℕ) → i < origins b → turned p c.kept i < origins b
        inside i g = turned_most p c.kept i (origins b) p_most (omega (arith, p_most, p_behind)) g

        row : (k : ℕ) → k < suc c.kept → (k ≡ c.kept) ⊎ (k ≡ c.kept → ⊥) → get_or (swapped c.rows p c.kept) k 0 ≡ get_or (kept ++ (o ∷ [])) k 0
        row k g (inl e) = ap (λ (x : ℕ). get_or (swapped c.rows p c.kept) x 0) e ∙ moved_last ∙ sym (get_or_at kept o [] 0 k (sym (e ∙ v.many)))
        row k g (inr e) =
            let f : k < c.kept = omega arith in
            moved_first k f ∙ v.rows k f ∙ sym (get_or-append kept (o ∷ []) 0 k (subst (λ (x : ℕ). k < x) v.many f))

        seen : (k : ℕ) → k < suc c.kept → (k ≡ c.kept) ⊎ (k ≡ c.kept → ⊥) → member (origin_link b (get_or (swapped c.rows p c.kept) k 0)) (l ∷ set) ≡ true
        seen k g (inl e) = member_here l (origin_link b (get_or (swapped c.rows p c.kept) k 0)) set (ap (λ (x : ℕ). origin_link b (get_or (swapped c.rows p c.kept) x 0)) e ∙ ap (origin_link b) moved_last ∙ eo)
        seen k g (inr e) =
            let f : k < c.kept = omega arith in
            ap (λ (x : ℕ). member (origin_link b x) (l ∷ set)) (moved_first k f) ∙ member_more (origin_link b (get_or c.rows k 0)) l set (v.met k f)

-- ---- both searches, pop by pop

record Agree (b : List ℕ) (s : Search) (t : CopySearch) : Type 0 where
  stack : t.stack ≡ s.stack
  set : t.set ≡ s.set
  same : Same b s.set s.kept t.copy

module _ (b : List ℕ) (h : row6 b ≡ false) where
  enter_agrees : (l : ℕ) (stack set kept : List ℕ) (c : Copy) (t : Bool) (o : ℕ) → member l set ≡ t → origin_below b (origins b) l ≡ o → Same b set kept c → Agree b (enter b l t o stack set kept) (enter_copy b l t stack set c)
  unfolding enter enter_copy
  enter_agrees l stack set kept c true o m e v = record { stack = refl; set = refl; same = v }
  enter_agrees l stack set kept c false zero m e v =
      let s = sweep_none b h set kept c v l m e in
      record {
        stack = ap (λ (d : Copy). cond (eqb c.kept d.kept) (pushed b l stack) stack) s ∙ ap (λ (x : Bool). cond x (pushed b l stack) stack) (eq-eqb c.kept c.kept refl);
        set = refl;
        same = subst (Same b (l ∷ set) kept) (sym s) (same_none b h set kept c v l m);
      }
  enter_agrees l stack set kept c false (suc o) m e v =
      let f = origin_is b (origins b) l o e in
      let s = sweep_one b h set kept c v l m o f.0 f.1 in
      record {
        stack = ap (λ (d : Copy). cond (eqb c.kept d.kept) (pushed b l stack) stack) s ∙ ap (λ (x : Bool). cond x (pushed b l stack) stack) (ne_eqb c.kept (suc c.kept) (λ (z : c.kept ≡ suc c.kept). omega arith));
        set = refl;
        same = subst (Same b (l ∷ set) (kept ++ (o ∷ []))) (sym s) (same_one b h set kept c v l m o f.0 f.1);
      }

  search_agrees : (k : ℕ) (stack set kept : List ℕ) (c : Copy) → Same b set kept c → Agree b (search k b stack set kept) (search_copy k b stack set c)
  unfolding search search_copy
  search_agrees zero stack set kept c v = record { stack = refl; set = refl; same = v }
  search_agrees (suc k) [] set kept c v = record { stack = refl; set = refl; same = v }
  search_agrees (suc k) (l ∷ stack) set kept c v =
      let e = enter b l (member l set) (origin_below b (origins b) l) stack set kept in
      let t = enter_copy b l (member l set) stack set c in
      let a = enter_agrees l stack set kept c (member l set) (origin_below b (origins b) l) refl refl v in
      subst (λ (x : List ℕ). Agree b (search k b e.stack e.set e.kept) (search_copy k b x t.set t.copy)) (sym a.stack)
      (subst (λ (x : List ℕ). Agree b (search k b e.stack e.set e.kept) (search_copy k b e.stack x t.copy)) (sym a.set)
      (search_agrees k e.stack e.set e.kept t.copy a.same))

-- ---- the whole

below_length : (n : ℕ) → length (rows_below n) ≡ n
unfolding rows_below
below_length zero = refl
below_length (suc n) = omega (arith, length-append (rows_below n) (n ∷ []), below_length n)

below_at : (n i : ℕ) → i < n → get_or (rows_below n) i 0 ≡ i
unfolding rows_below
below_at zero i h = absurd (not-suc-le-zero h)
below_at (suc n) i h = go (equal_or_not i n) (below_at n i)
  where
    go : (i ≡ n) ⊎ (i ≡ n → ⊥) → (i < n → get_or (rows_below n) i 0 ≡ i) → get_or (rows_below n ++ (n ∷ [])) i 0 ≡ i
    go (inl e) ih = get_or_at (rows_below n) n [] 0 i (below_length n ∙ sym e) ∙ sym e
    go (inr e) ih =
        let f : i < n = omega arith in
        get_or-append (rows_below n) (n ∷ []) 0 i (subst (λ (x : ℕ). i < x) (sym (below_length n)) f) ∙ ih f

same_start : (b : List ℕ) → Same b [] [] (record { rows = rows_below (origins b); kept = 0 })
same_start b = record {
  place = λ q. q;
  sized = below_length (origins b);
  named = λ i g. subst (λ (x : ℕ). x < origins b) (sym (below_at (origins b) i g)) g;
  back = λ i g. below_at (origins b) i g;
  there = λ q g. g;
  at = λ q g. below_at (origins b) q g;
  many = refl;
  most = omega arith;
  rows = λ k g. absurd (not-suc-le-zero g);
  met = λ k g. absurd (not-suc-le-zero g);
}

front_is : (n : ℕ) (rows kept : List ℕ) → n ≡ length kept → n ≤ length rows → ((k : ℕ) → k < n → get_or rows k 0 ≡ get_or kept k 0) → take n rows ≡ kept
front_is zero rows [] e h g = refl
front_is zero rows (x ∷ kept) e h g = absurd (omega arith)
front_is (suc n) [] kept e h g = absurd (omega arith)
front_is (suc n) (y ∷ rows) [] e h g = absurd (omega arith)
front_is (suc n) (y ∷ rows) (x ∷ kept) e h g =
    let a : y ≡ x = g 0 (omega arith) in
    let r : take n rows ≡ kept = front_is n rows kept (omega arith) (omega arith) (λ k l. g (suc k) (omega arith)) in
    cc

-- What document 02 asks for beside the work space: "Set, order and number are those of before."
pub record SameOptions (b : List ℕ) : Type 0 where
  -- the pops are enough
  pub whole : (copy_options b).stack ≡ []
  pub set : (copy_options b).set ≡ (options_of b).set
  pub kept : kept_copies b ≡ kept_origins b
  pub number : copy_refuses b ≡ row8 b

-- no origin is kept just if none is counted
none_counted : (n : ℕ) (kept : List ℕ) → n ≡ length kept → eqb n 0 ≡ none kept
none_counted n [] e = eq-eqb n 0 e
none_counted n (x ∷ kept) e = ne_eqb n 0 (λ (z : n ≡ 0). omega arith)

-- of every book that rows 5 and 6 let through
pub same_options : (b : List ℕ) → row5 b ≡ false → row6 b ≡ false → SameOptions b
unfolding copy_options options_of kept_copies kept_origins copy_refuses row8 in_set
same_options b g h =
    let a = search_agrees b h (destinations b + 2 * links b) (stacked b (destinations b)) [] [] (record { rows = rows_below (origins b); kept = 0 }) (same_start b) in
    let n = (copy_options b).copy.kept in
    record {
      whole = a.stack ∙ options_whole b g;
      set = a.set;
      kept = front_is n (copy_options b).copy.rows (options_of b).kept a.same.many (omega (arith, a.same.most, a.same.sized)) a.same.rows;
      number = ap (λ (s : List ℕ). member 0 s || eqb n 0) a.set ∙ ap (λ (t : Bool). t || eqb n 0) (zero_in_set b g) ∙ ap (λ (t : Bool). destination_zero b || t) (none_counted n (options_of b).kept a.same.many);
    }
