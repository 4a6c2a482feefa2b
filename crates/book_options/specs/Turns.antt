-- How the marks hold a state of the search: what its parts promise each other.
use Rattle.std.specs.Prelude.{◌≡◌, false, cond, List, [], ◌∷◌, ℕ, zero, suc, ◌+◌, ◌-◌, ◌*◌, ◌%◌, ◌≤◌, ◌<◌, eqb, length}
use Rattle.std.specs.Prelude.{get_or}
use Rattle.laws.specs.Below.{some_below, sum_below}
use Rattle.book_format.specs.Format.{links, origins, destinations, origin_link, destination_link}
use Rattle.book_options.specs.Options.{member, origin_below, search, options_of}
use Rattle.book_options.specs.declared.Walk.{Walk}

-- The first n destinations stand behind the links' marks, which are still 0; none of them is link 0.
pub record DestinationsStacked (b : List ℕ) (n : ℕ) (m : List ℕ) : Type 0 where
  pub real : some_below n (λ i. eqb (destination_link b i) 0) ≡ false
  pub stack : (i : ℕ) → i < n → get_or m (links b + i) 0 ≡ destination_link b i
  pub blank : (l : ℕ) → l < links b → get_or m l 0 ≡ 0

abbrev pub AllStacked : List ℕ → List ℕ → Type 0
AllStacked b m = DestinationsStacked b (destinations b) m

-- The links' marks tell the first n origins; what stands behind them is what stood there in d.
pub record Numbered (b : List ℕ) (n : ℕ) (d m : List ℕ) : Type 0 where
  pub marks : (l : ℕ) → l < links b → get_or m l 0 ≡ 2 * origin_below b n l
  pub rest : (i : ℕ) → links b ≤ i → get_or m i 0 ≡ get_or d i 0

abbrev pub AllNumbered : List ℕ → List ℕ → List ℕ → Type 0
AllNumbered b d m = Numbered b (origins b) d m

-- the n links of the stack, the top first
unfoldable pub stack_at : List ℕ → ℕ → ℕ → List ℕ
stack_at m at zero = []
stack_at m at (suc n) = get_or m (at + n) 0 ∷ stack_at m at n

-- 1 for a link outside the set
unfoldable pub outside_set : List ℕ → ℕ → ℕ
outside_set set l = cond (member l set) 0 1

-- The marks hold a stack of `top` links, this set, and the rows of n kept origins.
pub record SearchIn (b m : List ℕ) (top n : ℕ) (set kept : List ℕ) : Type 0 where
  pub within : (i : ℕ) → i < top → get_or m (links b + i) 0 < links b
  pub marks : (l : ℕ) → l < links b → get_or m l 0 + outside_set set l ≡ 2 * origin_below b (origins b) l + 1
  pub many : n ≡ length kept
  pub rows : (k : ℕ) → k < n → get_or m (2 * links b + destinations b + k) 0 ≡ get_or kept k 0

-- how many links are not in the set
unfoldable pub unseen_links : List ℕ → List ℕ → ℕ
unfolding outside_set
unseen_links b set = sum_below (links b) (outside_set set)

-- how many origins' links are not in the set
unfoldable pub unmet : List ℕ → List ℕ → ℕ
unfolding outside_set
unmet b set = sum_below (origins b) (λ i. outside_set set (origin_link b i))

-- The search goes on from a state that the marks hold, with pops enough for the stack and for what the links outside
-- the set can push, with room for these, and room for the origins that are not met yet.
pub record Walking (b m : List ℕ) (w : Walk) : Type 0 where
  pub left : ℕ
  pub set : List ℕ
  pub kept : List ℕ
  pub answer : search left b (stack_at m (links b) w.top) set kept ≡ options_of b
  pub holds : SearchIn b m w.top w.kept set kept
  pub pops : w.top + 2 * unseen_links b set ≤ left
  pub room : w.top + unseen_links b set ≤ links b + destinations b
  pub some : w.kept + unmet b set ≤ origins b

-- 1 for an even mark
unfoldable pub even : List ℕ → ℕ → ℕ
even m l = 1 - get_or m l 0 % 2

-- how many pops are left at most, by the marks
unfoldable pub pops_left : List ℕ → List ℕ → Walk → ℕ
unfolding even
pops_left b m w = w.top + 2 * sum_below (links b) (even m)

-- a turn of the search
pub record SearchTurned (b m : List ℕ) (w : Walk) (m' : List ℕ) (w' : Walk) : Type 0 where
  pub walking : Walking b m' w'
  pub falls : pops_left b m' w' < pops_left b m w
