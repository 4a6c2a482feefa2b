-- What holds of a pass's answers: behind an assertion, and of the best entry out of a queue.
use mathlib.Core.Path.{◌≡◌, refl}
use mathlib.Core.Bool.{Bool, true, false, cond}
use mathlib.Core.List.{List, [], ◌∷◌}
use Prim.Native.Nat.{ℕ}
use Rattle.pass_queue.specs.declared.Entry.{Entry}
use Rattle.pass_queue.specs.Queue.{before, better, best, others}
use Rattle.laws.specs.Answer.{Answer}
use Rattle.laws.proofs.Answers.{Holds}
use Rattle.pass_rules.specs.Net.{asserting}

pub holds_if : {A : Type 0} (P : A → Type 0) (b : Bool) (x : Answer A) → (b ≡ true → Holds P x) → Holds P (asserting b x)
holds_if P true x h = h refl
holds_if P false x h = tt

-- ---- queues

-- every entry's node
abbrev pub Every : (ℕ → Type 0) → List Entry → Type 0
Every P [] = Unit
Every P (e ∷ es) = P e.node × Every P es

cond_holds : {A : Type 0} (P : A → Type 0) (b : Bool) (x y : A) → P x → P y → P (cond b x y)
cond_holds P true x y p q = p
cond_holds P false x y p q = q

pub best_holds : (P : ℕ → Type 0) (back : Bool) (e : Entry) (es : List Entry) → P e.node → Every P es → P (best back e es).node
unfolding best
best_holds P back e [] p q = p
best_holds P back e (x ∷ xs) p q = best_holds P back (better back e x) xs (cond_holds (λ (z : Entry). P z.node) (before back x e) x e q.0 p) q.1

pub others_hold : (P : ℕ → Type 0) (back : Bool) (e : Entry) (es : List Entry) → P e.node → Every P es → Every P (others back e es)
unfolding others
others_hold P back e [] p q = tt
others_hold P back e (x ∷ xs) p q = (
  cond_holds (λ (z : Entry). P z.node) (before back x e) e x p q.0,
  others_hold P back (better back e x) xs (cond_holds (λ (z : Entry). P z.node) (before back x e) x e q.0 p) q.1,
)
