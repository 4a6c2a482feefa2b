-- A refusal that `?` hands on.
use mathlib.Core.Path.{◌≡◌, ap}
use Rattle.std.specs.Prelude.{Result, Ok, Err, IsErrAnd}
use Rattle.refusals.specs.declared.Refusal.{Refusal}

pub handed_on : {A : Type 0} (r : Result A Refusal) (e : Refusal) → IsErrAnd r (λ (x : Refusal). x ≡ e) → r ≡ Err e
handed_on (Ok a) e h = absurd h
handed_on (Err x) e h = ap Err h
