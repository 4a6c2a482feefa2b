-- The front of a list to which an entry is appended, or not.
use mathlib.Core.Path.{◌≡◌, sym, ap, ◌∙◌, subst}
use mathlib.Core.Bool.{Bool, true, false}
use mathlib.Core.List.{List, [], ◌∷◌, ◌++◌}
use mathlib.Core.Option.{some}
use Prim.Native.Nat.{ℕ, ◌≤◌}
use native.Mathlib.Omega.{arith}
use lib.Dec.{ltb}
use lib.ListN.{length, take}
use lib.Seq.{take_all, take-append-le}
use Rattle.std.proofs.lemmas.List.{length-take}
use Rattle.net_join_paths.specs.declared.EstJoinPath.{EstJoinPath}
use Rattle.net_join_paths.specs.Entries.{entry, pushed_as, push}
use Rattle.net_joins.specs.Joins.{appended_if}

pub take_same : (es : List EstJoinPath) → take (length es) es ≡ es
take_same es = take_all (length es) es (omega arith)

-- a list that begins with another is no shorter
longer : (es fs : List EstJoinPath) → take (length es) fs ≡ es → length es ≤ length fs
longer es fs h = omega (arith, sym (ap length h) ∙ length-take (length es) fs)

-- the entries that were there stay
pub appended_stays : (b : Bool) (m i : ℕ) (es fs gs : List EstJoinPath) → take (length es) fs ≡ es
    → appended_if b m i fs ≡ some gs → take (length es) gs ≡ es
unfolding push
appended_stays true m i es fs gs h o = let e : fs ≡ gs = cc in
    subst (λ (z : List EstJoinPath). take (length es) z ≡ es) e h
appended_stays false m i es fs gs h o = go (ltb (length fs) 1024) o
  where
    go : (b : Bool) → pushed_as b fs (entry m i) ≡ some gs → take (length es) gs ≡ es
    go true o =
        let e : fs ++ (entry m i ∷ []) ≡ gs = cc in
        subst (λ (z : List EstJoinPath). take (length es) z ≡ es) e
        (take-append-le (length es) fs (entry m i ∷ []) (longer es fs h) ∙ h)
    go false o = cc
