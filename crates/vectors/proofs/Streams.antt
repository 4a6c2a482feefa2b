-- The books of a stream that are answered one behind the other.
use mathlib.Core.Path.{◌≡◌, refl}
use mathlib.Core.Bool.{Bool, true}
use mathlib.Core.List.{List}
use Prim.Native.Nat.{ℕ, ◌+◌, ◌≤◌, ◌<◌}
use native.Mathlib.Numerals.{add-one}
use native.Mathlib.Omega.{arith}
use Rattle.std.specs.declared.option.Option.{Option}
use Rattle.std.specs.Prelude.{IsTrue}
use Rattle.vectors.specs.Vectors.{NextAnswered, BooksAnswered}

-- after k turns
pub record Turned (k : ℕ) (before now held holds : Option (List ℕ)) : Type 0 where
  pub within : k ≤ 1000000
  pub answered : BooksAnswered k before now held holds

pub none_turned : (before held : Option (List ℕ)) → Turned 0 before before held held
unfolding BooksAnswered
none_turned before held = record { within = omega arith; answered = record { unread = refl; unprinted = refl } }

-- a book is answered
pub turned_on : {k : ℕ} {before now after held holds more : Option (List ℕ)} {b : Bool}
    → Turned k before now held holds → k < 1000000 → (IsTrue b → NextAnswered k now after holds more) → b ≡ true
    → Turned (k + 1) before after held more
unfolding BooksAnswered
turned_on {now = now} {holds = holds} t h next e = record {
  within = omega arith;
  answered = rw add-one (now, (holds, (t.answered, next e)));
}
