-- Laws of lists of entries: the node of an entry, and how an answer is read.
use mathlib.Core.Path.{◌≡◌, refl, sym, ap, ◌∙◌, subst}
use mathlib.Core.List.{List, [], ◌∷◌, ◌++◌}
use mathlib.Core.Option.{Option, none, some}
use Prim.{Unit}
use Prim.Native.Nat.{ℕ, zero, suc, ◌≤◌, ◌<◌}
use native.Mathlib.Nat.{not-suc-le-zero}
use native.Mathlib.Omega.{arith}
use lib.ListN.{length, get_or}
use Rattle.std.specs.Prelude.{Result, Ok, Err, IsErr, IsErrAnd}
use Rattle.refusals.specs.declared.Refusal.{Refusal}
use Rattle.refusals.specs.declared.Refusal.TheVariants.{NoPlace}
use Rattle.net_join_paths.specs.declared.EstJoinPath.{EstJoinPath}
use Rattle.net_join_paths.specs.Entries.{entry, node_of, and_then, EntriesAs, Valid}

-- ---- the node of an entry

pub node_front : (xs ys : List EstJoinPath) (k : ℕ) → k < length xs → node_of (xs ++ ys) k ≡ node_of xs k
node_front [] ys k h = absurd (not-suc-le-zero h)
node_front (x ∷ xs) ys zero h = refl
node_front (x ∷ xs) ys (suc k) h = node_front xs ys k (omega arith)

pub node_last : (xs : List EstJoinPath) (x : EstJoinPath) (k : ℕ) → k ≡ length xs
    → node_of (xs ++ (x ∷ [])) k ≡ x.est_idx_next
node_last [] x zero h = refl
node_last [] x (suc k) h = absurd (omega arith)
node_last (y ∷ xs) x zero h = absurd (omega arith)
node_last (y ∷ xs) x (suc k) h = node_last xs x k (omega arith)

-- the same of more nodes
pub valid_wider : {es : List EstJoinPath} {n : ℕ} (places : ℕ) → n ≤ places → Valid es n → Valid es places
valid_wider places h v = record { node = λ k l. omega (arith, v.node k l) }

-- ---- an answer, and what is made of it

pub and_then_some : (a : Option (List EstJoinPath)) → and_then a some ≡ a
and_then_some none = refl
and_then_some (some es) = refl

pub then_same : (a : Option (List EstJoinPath)) (f g : List EstJoinPath → Option (List EstJoinPath))
    → ((es : List EstJoinPath) → f es ≡ g es) → and_then a f ≡ and_then a g
then_same none f g h = refl
then_same (some es) f g h = h es

pub then_none : (a : Option (List EstJoinPath)) → none ≡ and_then a (λ es. none)
then_none none = refl
then_none (some es) = refl

-- ---- an answer that is passed on by `?`

pub over_as : {answer : Option (List EstJoinPath)} {e : Refusal} (list : List EstJoinPath) (r : Result Unit Refusal)
    → IsErr r × IsErrAnd r (λ x. x ≡ e) → answer ≡ none → e ≡ NoPlace → EntriesAs answer list r
over_as list (Ok u) g n h = absurd g.1
over_as list (Err x) g n h = (n, g.1 ∙ h)

-- ---- an entry for the node of one that was read, whatever it is where there is none

got_node : (xs : List EstJoinPath) (k : ℕ)
    → (get_or xs k (record { link_idx_match = 0; est_idx_next = 0 })).est_idx_next ≡ node_of xs k
got_node [] k = refl
got_node (x ∷ xs) zero = refl
got_node (x ∷ xs) (suc k) = got_node xs k

-- it names a node where the list does
pub valid_at : (es : List EstJoinPath) (n k : ℕ) → Valid es n → k < length es
    → (get_or es k (record { link_idx_match = 0; est_idx_next = 0 })).est_idx_next < n
valid_at es n k v h = subst (λ (i : ℕ). i < n) (sym (got_node es k)) (v.node k h)

pub node_got : (m : ℕ) (xs ys : List EstJoinPath) (k : ℕ) → ys ≡ xs
    → entry m (get_or ys k (record { link_idx_match = 0; est_idx_next = 0 })).est_idx_next ≡ entry m (node_of xs k)
node_got m xs ys k e = ap (entry m) (got_node ys k ∙ ap (λ (zs : List EstJoinPath). node_of zs k) e)
