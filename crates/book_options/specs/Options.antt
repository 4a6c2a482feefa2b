-- `get_link_idx_options`, document 01 under "Options": the set of the links that the search from the destinations
-- meets, and which origins are kept, in the order in which they are met.
-- "Destination links go on a stack; each popped link not yet in the set enters it. An origin of that link moves to the
-- end of the kept part by swapping; only if there is none is a real (nonzero) previous pushed, and its alternative only
-- after a real previous." So not every link from which a destination can be reached is in the set: nothing is pushed
-- behind an origin (links 1 to 2 to 3, origins 1 and 2, destination 3: origin 1 is dropped), nor an alternative alone.
-- Only the kept part's order is ever read, so the definition appends to it and swaps nothing.
use Rattle.std.specs.Prelude.{◌≡◌, Bool, true, false, ◌||◌, cond, List, [], ◌∷◌, ◌++◌, ℕ, zero, suc, ◌+◌, ◌*◌, ◌%◌, ◌<◌}
use Rattle.std.specs.Prelude.{eqb, length, get_or, Result, Ok, Err}
use Rattle.laws.specs.Below.{some_below}
use Rattle.refusals.specs.declared.Refusal.{Refusal}
use Rattle.refusals.specs.declared.Refusal.TheVariants.{NoPath}
use Rattle.book_format.specs.Format.{links, origins, destinations, link_prev, link_prev_alt, origin_link}
use Rattle.book_format.specs.Format.{destination_link}

-- whether a link is in a list of links
unfoldable pub member : ℕ → List ℕ → Bool
member l [] = false
member l (x ∷ xs) = eqb l x || member l xs

-- the origin of a link among the first n, counted from 1, or 0: row 6 leaves at most one
unfoldable pub origin_below : List ℕ → ℕ → ℕ → ℕ
origin_below b zero l = 0
origin_below b (suc n) l = cond (eqb (origin_link b n) l) (suc n) (origin_below b n l)

-- "Destination links go on a stack", of which the last is on top
unfoldable pub stacked : List ℕ → ℕ → List ℕ
stacked b zero = []
stacked b (suc n) = destination_link b n ∷ stacked b n

-- "a real (nonzero) previous pushed, and its alternative only after a real previous"
unfoldable pub pushed : List ℕ → ℕ → List ℕ → List ℕ
pushed b l stack =
    cond (eqb (link_prev b l) 0) stack
    (cond (eqb (link_prev_alt b l) 0) (link_prev b l ∷ stack)
    (link_prev_alt b l ∷ link_prev b l ∷ stack))

-- A state of the search: the stack, its top first; the set, its latest link first; the kept origins' rows, in order.
pub record Search : Type 0 where
  pub stack : List ℕ
  pub set : List ℕ
  pub kept : List ℕ

-- what a popped link l makes of the rest, by whether it is in the set and by its origin, counted from 1
unfoldable pub enter : List ℕ → ℕ → Bool → ℕ → List ℕ → List ℕ → List ℕ → Search
enter b l true o stack set kept = record { stack = stack; set = set; kept = kept }
enter b l false zero stack set kept = record { stack = pushed b l stack; set = l ∷ set; kept = kept }
enter b l false (suc o) stack set kept = record { stack = stack; set = l ∷ set; kept = kept ++ (o ∷ []) }

-- The loop over the stack, for so many pops. A link enters the set once and pushes at most two, so destinations
-- + 2 * links pops empty the stack: `options_whole`, proofs/Empties.antt, for every book that row 5 lets through.
unfoldable pub search : ℕ → List ℕ → List ℕ → List ℕ → List ℕ → Search
unfolding enter
search zero b stack set kept = record { stack = stack; set = set; kept = kept }
search (suc k) b [] set kept = record { stack = []; set = set; kept = kept }
search (suc k) b (l ∷ stack) set kept =
    let t = enter b l (member l set) (origin_below b (origins b) l) stack set kept in
    search k b t.stack t.set t.kept

unfoldable pub options_of : List ℕ → Search
unfolding search
options_of b = search (destinations b + 2 * links b) b (stacked b (destinations b)) [] []

-- whether a link is in the set
unfoldable pub in_set : List ℕ → ℕ → Bool
unfolding options_of
in_set b l = member l (options_of b).set

-- the rows of the origins kept, in order
unfoldable pub kept_origins : List ℕ → List ℕ
unfolding options_of
kept_origins b = (options_of b).kept

-- ---- row 8: "destination 0, or no origin kept"

abbrev pub none : List ℕ → Bool
none [] = true
none (x ∷ xs) = false

abbrev pub destination_zero : List ℕ → Bool
destination_zero b = some_below (destinations b) (λ i. eqb (destination_link b i) 0)

unfoldable pub row8 : List ℕ → Bool
row8 b = destination_zero b || none (kept_origins b)

-- what the search answers: how many origins are kept, or the refusal
unfoldable pub link_options : List ℕ → Result ℕ Refusal
unfolding row8
link_options b = cond (row8 b) (Err NoPath) (Ok (length (kept_origins b)))

-- ---- the search's part of the work space

-- "a work space of 8 bytes for each link and 4 for each origin and destination" (document 02, Ask 2), in numbers of 4
-- bytes: a mark for each link; the stack, which has room for every link and destination; the rows of the origins kept.
-- The search is lent just so many numbers; it has no array of its own.
abbrev pub search_room : List ℕ → ℕ
search_room b = 2 * links b + destinations b + origins b

-- where the kept origins' rows begin
abbrev pub kept_at : List ℕ → ℕ
kept_at b = 2 * links b + destinations b

-- What the marks then say. Each link has one mark, which is odd for a link of the set; the kept origins' rows stand
-- behind the links' marks and the stack.
pub record OptionsIn (b marks : List ℕ) : Type 0 where
  pub set : (l : ℕ) → l < links b → eqb (get_or marks l 0 % 2) 1 ≡ in_set b l
  pub kept : (k : ℕ) → k < length (kept_origins b) → get_or marks (kept_at b + k) 0 ≡ get_or (kept_origins b) k 0
