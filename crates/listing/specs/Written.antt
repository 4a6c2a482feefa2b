-- How far a text has been written into a slice. Only contracts of private functions use these words.
use Rattle.std.specs.Prelude.{◌≡◌, List, ◌++◌, ℕ, ◌≤◌, ◌<◌, length, take, Option, Some, None, Result}
use Rattle.std.proofs.Math.Option.{some}
use Rattle.listing.specs.declared.Text.{Text}
use Rattle.listing.specs.declared.ListingError.{ListingError}
use Rattle.listing.specs.Listing.{TextListed}

-- The next byte goes to a place: the text lies before it. None: the text has not fitted.
abbrev pub WrittenTo : List ℕ → Option ℕ → List ℕ → Type 0
WrittenTo out (Some at) text = (at ≤ length out) × (take at out ≡ text)
WrittenTo out None text = length out < length text

pub record Written (t : Text) (text : List ℕ) : Type 0 where
  pub to : WrittenTo t.out.now t.at text

-- More text has been put behind whatever was written, into the same slice.
pub record Puts (t : Text) (more : List ℕ) (u : Text) : Type 0 where
  pub same_slice : u.out.ghost_name ≡ t.out.ghost_name
  pub sized : length u.out.now ≡ length t.out.now
  pub behind : (text : List ℕ) → Written t text → Written u (text ++ more)

-- What lies behind the text is made zero, or everything if the text has not fitted.
pub record Finishes (t : Text) (left : List ℕ) (r : Result ℕ ListingError) : Type 0 where
  pub listed : (text : List ℕ) → Written t text → TextListed (some text) t.out.now left r
