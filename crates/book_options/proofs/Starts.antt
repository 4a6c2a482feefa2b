-- The start of the search: the destinations on the stack, the origins' links marked, and the state that both make.
use mathlib.Core.Path.{◌≡◌, refl, sym, ap, ◌∙◌, subst}
use mathlib.Core.Logic.{◌⊎◌, inl, inr}
use mathlib.Core.Bool.{Bool, true, false, cond}
use mathlib.Core.List.{List, []}
use Prim.Native.Nat.{ℕ, zero, suc, ◌+◌, ◌*◌, ◌≤◌, ◌<◌}
use native.Mathlib.Nat.{not-suc-le-zero}
use native.Mathlib.Numerals.{add-one}
use native.Mathlib.Omega.{arith}
use borrow.Author.Tests.{eq-eqb, ne_eqb}
use lib.Dec.{eqb}
use lib.ListN.{length, get_or, set, get_or-replicate}
use Rattle.laws.specs.Below.{some_below, sum_below}
use Rattle.laws.proofs.Below.{none_more, some_at}
use Rattle.space.specs.Space.{zeros}
use Rattle.book_format.specs.Format.{links, origins, destinations, origin_link, destination_link}
use Rattle.book_format.specs.Rows.{row5}
use Rattle.book_options.specs.Options.{member, origin_below, stacked, search, options_of}
use Rattle.book_options.specs.Turns.{DestinationsStacked, Numbered, stack_at, outside_set, unseen_links, unmet, Walking}
use Rattle.book_format.proofs.Given.{destination_named}
use Rattle.laws.proofs.Truth.{equal_or_not}
use Rattle.laws.proofs.Lists.{kept_at, stored_at}

-- ---- the destinations

pub pushed_none : (b m : List ℕ) → links b ≤ length m → m ≡ zeros (length m) → DestinationsStacked b 0 m
unfolding some_below zeros
pushed_none b m h e = record {
  real = refl;
  stack = λ i l. absurd (not-suc-le-zero l);
  blank = λ l g. ap (λ (x : List ℕ). get_or x l 0) e ∙ get_or-replicate (length m) l 0 0 (omega arith);
}

pub pushed_more : {b m : List ℕ} {n : ℕ} → DestinationsStacked b n m → (i x : ℕ) → x ≡ destination_link b n → (x ≡ 0 → ⊥) → i ≡ links b + n → i < length m → DestinationsStacked b (n + 1) (set m i x)
pushed_more {b} {m} {n} p i x e z d h = record {
  real = none_more n (λ j. eqb (destination_link b j) 0) p.real (ne_eqb (destination_link b n) 0 (λ (o : destination_link b n ≡ 0). z (e ∙ o)));
  stack = λ k l. pushed k l (equal_or_not k n);
  blank = λ l g. kept_at m i l x (λ (o : l ≡ i). omega arith) ∙ p.blank l g;
}
  where
    pushed : (k : ℕ) → k < n + 1 → (k ≡ n) ⊎ (k ≡ n → ⊥) → get_or (set m i x) (links b + k) 0 ≡ destination_link b k
    pushed k l (inl o) = stored_at m i (links b + k) x (omega arith) h ∙ e ∙ ap (destination_link b) (sym o)
    pushed k l (inr o) = kept_at m i (links b + k) x (λ (y : links b + k ≡ i). o (omega arith)) ∙ p.stack k (omega arith)

pub zero_met : (b : List ℕ) (i x : ℕ) → i < destinations b → x ≡ destination_link b i → x ≡ 0 → some_below (destinations b) (λ j. eqb (destination_link b j) 0) ≡ true
zero_met b i x h e z = some_at (destinations b) (λ j. eqb (destination_link b j) 0) i h (eq-eqb (destination_link b i) 0 (sym e ∙ z))

-- ---- the origins

pub numbered_none : (b m : List ℕ) → ((l : ℕ) → l < links b → get_or m l 0 ≡ 0) → Numbered b 0 m m
unfolding origin_below
numbered_none b m h = record { marks = h; rest = λ i l. refl }

pub numbered_more : {b d m : List ℕ} {n : ℕ} → Numbered b n d m → (l x : ℕ) → l ≡ origin_link b n → x ≡ 2 * (n + 1) → l < links b → links b ≤ length m → Numbered b (n + 1) d (set m l x)
unfolding origin_below
numbered_more {b} {d} {m} {n} v l x e f h r = record {
  marks = λ k g. numbered k g (equal_or_not k l) ∙ ap (λ (y : ℕ). 2 * origin_below b y k) (sym (add-one n));
  rest = λ i g. kept_at m l i x (λ (o : i ≡ l). omega arith) ∙ v.rest i g;
}
  where
    numbered : (k : ℕ) → k < links b → (k ≡ l) ⊎ (k ≡ l → ⊥) → get_or (set m l x) k 0 ≡ 2 * origin_below b (suc n) k
    numbered k g (inl o) =
        stored_at m l k x o (omega arith) ∙ f ∙ ap (λ (y : ℕ). 2 * y) (add-one n)
        ∙ ap (λ (t : Bool). 2 * cond t (suc n) (origin_below b n k)) (sym (eq-eqb (origin_link b n) k (sym (o ∙ e))))
    numbered k g (inr o) =
        kept_at m l k x o ∙ v.marks k g
        ∙ ap (λ (t : Bool). 2 * cond t (suc n) (origin_below b n k)) (sym (ne_eqb (origin_link b n) k (λ (y : origin_link b n ≡ k). o (sym (e ∙ y)))))

-- ---- the search's first state

pub outside_empty : (l : ℕ) → outside_set [] l ≡ 1
unfolding outside_set member
outside_empty l = refl

pub sum_ones : (n : ℕ) (f : ℕ → ℕ) → ((i : ℕ) → f i ≡ 1) → sum_below n f ≡ n
unfolding sum_below
sum_ones zero f h = refl
sum_ones (suc n) f h = omega (arith, sum_ones n f h, h n)

start_stack : (b m : List ℕ) (n : ℕ) → ((i : ℕ) → i < n → get_or m (links b + i) 0 ≡ destination_link b i) → stack_at m (links b) n ≡ stacked b n
unfolding stack_at stacked
start_stack b m zero h = refl
start_stack b m (suc n) h =
    let a : stack_at m (links b) n ≡ stacked b n = start_stack b m n (λ i l. h i (omega arith)) in
    let e : get_or m (links b + n) 0 ≡ destination_link b n = h n (omega arith) in
    cc

pub walk_start : {b d m : List ℕ} → row5 b ≡ false → DestinationsStacked b (destinations b) d → Numbered b (origins b) d m → Walking b m (record { top = destinations b; kept = 0 })
unfolding options_of unseen_links unmet
walk_start {b} {d} {m} h p n =
    let stack : (i : ℕ) → i < destinations b → get_or m (links b + i) 0 ≡ destination_link b i = λ i l. n.rest (links b + i) (omega arith) ∙ p.stack i l in
    let u : unseen_links b [] ≡ links b = sum_ones (links b) (outside_set []) outside_empty in
    let t : unmet b [] ≡ origins b = sum_ones (origins b) (λ i. outside_set [] (origin_link b i)) (λ i. outside_empty (origin_link b i)) in
    record {
      left = destinations b + 2 * links b;
      set = [];
      kept = [];
      answer = ap (λ (s : List ℕ). search (destinations b + 2 * links b) b s [] []) (start_stack b m (destinations b) stack);
      holds = record {
        within = λ i l. subst (λ (x : ℕ). x < links b) (sym (stack i l)) (destination_named b h i l);
        marks = λ l g. omega (arith, n.marks l g, outside_empty l);
        many = refl;
        rows = λ k g. absurd (not-suc-le-zero g);
      };
      pops = omega arith;
      room = omega arith;
      some = omega arith;
    }
