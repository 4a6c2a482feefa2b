-- A whole input that is handed on.
use Rattle.std.proofs.Common.{◌≡◌, ℕ, ◌≤◌, List, length, OnOk, IfSome, Some, None, Ok, Err, sym, subst}
use Rattle.std.specs.declared.option.Option.{Option}
use Rattle.std.specs.declared.result.Result.{Result}
use Rattle.streams.specs.Streams.{IsInput}

-- what holds of the bytes read holds of the input, if they are the input
pub of_input : {A B : Type 0} (r : Result A B) (input : Option (List ℕ)) {read : Option ℕ} {n : ℕ}
    (bytes : ℕ → List ℕ) (P : List ℕ → Type 0)
    → read ≡ Some n → IfSome read (λ k. IsInput input (bytes k)) → P (bytes n)
    → OnOk r (IfSome input (λ xs. length xs ≤ 65536 → P xs))
of_input r input {read} {n} bytes P e w p = on r
  where
    is : IsInput input (bytes n)
    is = subst (λ o. IfSome o (λ k. IsInput input (bytes k))) e w

    go : (o : Option (List ℕ)) → IsInput o (bytes n) → IfSome o (λ xs. length xs ≤ 65536 → P xs)
    go None i = tt
    go (Some xs) i = λ short. subst P (sym i) p

    on : {A B : Type 0} (r : Result A B) → OnOk r (IfSome input (λ xs. length xs ≤ 65536 → P xs))
    on (Ok x) = go input is
    on (Err e) = tt
