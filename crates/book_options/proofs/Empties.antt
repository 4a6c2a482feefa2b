-- The turns are enough: the search empties its stack, so its set and its kept origins are whole. A link enters the set once and pushes at most two, so the stack's length and twice the links outside the set fall with every pop.
use mathlib.Core.Path.{◌≡◌, refl}
use mathlib.Core.Bool.{Bool, true, false, cond}
use mathlib.Core.List.{List, [], ◌∷◌}
use Prim.Native.Nat.{ℕ, zero, suc, ◌+◌, ◌*◌, ◌≤◌, ◌<◌}
use native.Mathlib.Omega.{arith}
use lib.Dec.{eqb}
use lib.ListN.{length}
use Rattle.laws.proofs.Members.{All}
use Rattle.book_format.specs.Format.{links, origins, destinations, link_prev, link_prev_alt}
use Rattle.book_format.specs.Rows.{row5}
use Rattle.book_format.proofs.Given.{prev_named, prev_alt_named, destination_named}
use Rattle.book_options.specs.Options.{member, origin_below, stacked, pushed, enter, search, options_of}
use Rattle.book_options.specs.Turns.{outside_set, unseen_links}
use Rattle.book_options.proofs.Laws.{is_outside}
use Rattle.book_options.proofs.Starts.{outside_empty, sum_ones}
use Rattle.book_options.proofs.Walks.{unseen_falls}

module _ (b : List ℕ) (h : row5 b ≡ false) where
  -- links of the book
  abbrev Named : List ℕ → Type 0
  Named = All (λ (l : ℕ). l < links b)

  -- what a link pushes
  record Grows (stack more : List ℕ) : Type 0 where
    named : Named more
    few : length more ≤ length stack + 2

  pushed_grows : (l : ℕ) → l < links b → (stack : List ℕ) → Named stack → Grows stack (pushed b l stack)
  unfolding pushed
  pushed_grows l g stack n = go (eqb (link_prev b l) 0) (eqb (link_prev_alt b l) 0)
    where
      go : (x y : Bool) → Grows stack (cond x stack (cond y (link_prev b l ∷ stack) (link_prev_alt b l ∷ link_prev b l ∷ stack)))
      go true y = record { named = n; few = omega arith }
      go false true = record { named = (prev_named b h l g, n); few = omega arith }
      go false false = record { named = (prev_alt_named b h l g, (prev_named b h l g, n)); few = omega arith }

  -- a state with pops enough for its stack and for what the links outside its set can push
  record Enough (k : ℕ) (stack set : List ℕ) : Type 0 where
    named : Named stack
    pops : length stack + 2 * unseen_links b set ≤ k

  turn_enough : (k l : ℕ) (stack set kept : List ℕ) (t : Bool) (o : ℕ) → member l set ≡ t → Enough (suc k) (l ∷ stack) set
      → (let e = enter b l t o stack set kept in Enough k e.stack e.set)
  unfolding enter
  turn_enough k l stack set kept true o m v = record { named = v.named.1; pops = omega (arith, v.pops) }
  turn_enough k l stack set kept false zero m v =
      let p = pushed_grows l v.named.0 stack v.named.1 in
      record { named = p.named; pops = omega (arith, v.pops, p.few, unseen_falls b l set (is_outside l set m) v.named.0) }
  turn_enough k l stack set kept false (suc o) m v =
      record { named = v.named.1; pops = omega (arith, v.pops, unseen_falls b l set (is_outside l set m) v.named.0) }

  search_empties : (k : ℕ) (stack set kept : List ℕ) → Enough k stack set → (search k b stack set kept).stack ≡ []
  unfolding search
  search_empties zero [] set kept v = refl
  search_empties zero (l ∷ stack) set kept v = absurd (omega (arith, v.pops))
  search_empties (suc k) [] set kept v = refl
  search_empties (suc k) (l ∷ stack) set kept v =
      let e = enter b l (member l set) (origin_below b (origins b) l) stack set kept in
      search_empties k e.stack e.set e.kept (turn_enough k l stack set kept (member l set) (origin_below b (origins b) l) refl v)

  stacked_named : (n : ℕ) → n ≤ destinations b → Named (stacked b n)
  unfolding stacked
  stacked_named zero g = tt
  stacked_named (suc n) g = (destination_named b h n (omega arith), stacked_named n (omega arith))

  stacked_length : (n : ℕ) → length (stacked b n) ≡ n
  unfolding stacked
  stacked_length zero = refl
  stacked_length (suc n) = omega (arith, stacked_length n)

  -- of every book that row 5 lets through
  pub options_whole : (options_of b).stack ≡ []
  unfolding options_of unseen_links
  options_whole =
      search_empties (destinations b + 2 * links b) (stacked b (destinations b)) [] []
      (record {
        named = stacked_named (destinations b) (omega arith);
        pops = omega (arith, stacked_length (destinations b), sum_ones (links b) (outside_set []) outside_empty);
      })
