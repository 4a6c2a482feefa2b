-- The leg search: what it answers, document 01's number for each answer, and what the driver takes of it.
-- And what is asked of one leg's samples, by where they stand.
use Rattle.std.specs.Prelude.{◌≡◌, Bool, not, ◌||◌, cond, List, ℕ, zero, suc, ◌+◌, ◌-◌, ◌*◌, ◌≤◌, ◌<◌, eqb, get_or, set}
use Rattle.std.specs.Prelude.{Option, Some, None, Result, Ok, Err}
use Rattle.laws.specs.Below.{some_below}
use Rattle.book_format.specs.declared.Leg.{Leg}
use Rattle.book_format.specs.Format.{links, legs, departure_bits, sample_time, first_sample}
use Rattle.book_format.specs.Rows.{falls, same_sample, leg_falls, leg_begins}
use Rattle.book_format.specs.Chains.{leg_below, Chained}
use Rattle.refusals.specs.declared.Refusal.{Refusal}
use Rattle.refusals.specs.declared.Refusal.TheVariants.{MissingLeg}
use Rattle.refusals.specs.Refusals.{refusal_number}
use Rattle.book_legs.specs.declared.TakenLeg.{TakenLeg}

-- a leg number, 0 being none
abbrev pub search_of : ℕ → Option ℕ
search_of zero = None
search_of (suc j) = Some (suc j)

-- "The leg is found or the book is refused with 10": the leg with this parent and link
unfoldable pub leg_search : List ℕ → ℕ → ℕ → Option ℕ
leg_search b parent link = search_of (leg_below b (legs b) parent link)

-- Row 10: "no leg with the needed parent and link"
abbrev pub search_number : Option ℕ → ℕ
search_number (Some j) = 0
search_number None = refusal_number MissingLeg

-- What the driver takes: the leg's number and where its samples begin and end, or the refusal.
abbrev pub taken_by : List ℕ → Option ℕ → Result TakenLeg Refusal
taken_by b (Some j) = Ok (record { number = j; first = first_sample b (j - 1); end = first_sample b j })
taken_by b None = Err MissingLeg

unfoldable pub taken_leg : List ℕ → ℕ → ℕ → Result TakenLeg Refusal
taken_leg b parent link = taken_by b (leg_search b parent link)

-- The starting legs by their links: behind the links' own marks each link has one, the number of the leg that starts
-- over it, or 0.
-- Stands in contracts of the search for a starting leg and of growth, and in no struct of a book and its marks: growth
-- reads the same marks for the options, and the one function that takes a start would make the struct for that call.
pub record Started (b marks : List ℕ) : Type 0 where
  pub starts : (l : ℕ) → l < links b → get_or marks (links b + l) 0 ≡ leg_below b (legs b) 0 l

-- ---- words of single functions

-- the marks, once a leg is named at its link if it starts
abbrev pub named_start : List ℕ → Leg → ℕ → List ℕ
named_start starts leg number = cond (eqb leg.parent 0) (set starts leg.link_idx number) starts

-- the first n legs: those that start, by their links
pub record Named (b : List ℕ) (n : ℕ) (starts : List ℕ) : Type 0 where
  pub at : (l : ℕ) → l < links b → get_or starts l 0 ≡ leg_below b n 0 l

-- one list is another but from an index up to another
pub record SameBut (from to : ℕ) (m m' : List ℕ) : Type 0 where
  pub below : (i : ℕ) → i < from → get_or m' i 0 ≡ get_or m i 0
  pub behind : (i : ℕ) → to ≤ i → get_or m' i 0 ≡ get_or m i 0

-- the marks but for the starting legs
abbrev pub SameButStarts : List ℕ → List ℕ → List ℕ → Type 0
SameButStarts b m m' = SameBut (links b) (2 * links b) m m'

-- the leg of a number as the cells have it: its samples begin where those of the leg before it end
abbrev pub leg_in : List ℕ → ℕ → TakenLeg
leg_in cells number = record {
  number = number;
  first = get_or cells ((number - 1) * 8 + 2) 0;
  end = get_or cells (number * 8 + 2) 0;
}

-- a leg that was found has its unit among so many cells
abbrev pub InCells : ℕ → Option ℕ → Type 0
InCells n (Some j) = (0 < j) × (j * 8 + 8 ≤ n)
InCells n None = Unit

-- what is taken of a search, by cells that have a book's chains
abbrev pub TakenFrom : List ℕ → Option ℕ → Result TakenLeg Refusal → Type 0
TakenFrom cells found r = (b : List ℕ) → Chained b cells → InCells ((legs b + 1) * 8) found → r ≡ taken_by b found

-- ---- row 7

-- the samples of some leg fall, or don't begin where they must
abbrev pub samples_fail : List ℕ → Bool
samples_fail b = some_below (legs b) (leg_falls b) || some_below (legs b) (λ i. not (leg_begins b i))

-- for the leg whose samples begin at `first`, count as many as `count`, and whose parent's end at `end`

unfoldable pub begins_at : List ℕ → ℕ → ℕ → ℕ → Bool
begins_at b zero end first = eqb (sample_time b first) (departure_bits b)
begins_at b (suc p) end first = same_sample b (end - 1) first

unfoldable pub falls_from : List ℕ → ℕ → ℕ → Bool
falls_from b first count = some_below (count - 1) (λ k. falls b (first + k))
