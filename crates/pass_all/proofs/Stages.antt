-- `passes`, a stage at a time: what it is behind each test of the code, and what each stage leaves for the next.
use mathlib.Core.Path.{◌≡◌, refl, sym, ap, ◌∙◌, subst}
use mathlib.Core.Logic.{◌≢◌}
use mathlib.Core.Bool.{Bool, true, false}
use mathlib.Core.List.{List}
use Prim.Native.Nat.{ℕ, suc, ◌+◌}
use native.Mathlib.Omega.{arith}
use lib.Dec.{ltb}
use lib.ListN.{length, get_or, take, drop}
use lib.Ieee.{Float}
use Rattle.std.proofs.lemmas.List.{get_or-drop}
use Rattle.std.specs.Prelude.{Option, Some, None, Result, Ok, Err, IsErrAnd}
use Rattle.std.specs.Option.{ok_or}
use Rattle.refusals.specs.declared.Refusal.{Refusal}
use Rattle.refusals.specs.declared.Refusal.TheVariants.{NotTimed}
use Rattle.refusals.specs.Refusals.{refusal_number, told}
use Rattle.space.specs.Space.{zeros}
use Rattle.space.proofs.Zeros.{zero_at, zeros_front}
use Rattle.net_node.specs.Table.{node_at, Table, at}
use Rattle.pass_rules.specs.Checks.{row14}
use Rattle.laws.specs.Answer.{Answer, refused, given, and_then, number_of}
use Rattle.pass_rules.specs.Net.{Pass}
use Rattle.pass_rules.specs.Forward.{forward}
use Rattle.pass_rules.specs.Backward.{backward}
use Rattle.pass_rules.specs.Walks.{done_in}
use Rattle.pass_rules.specs.Passes.{some_left, all_zero, checked_as, after_forward, after_backward, passes}
use Rattle.pass_state.specs.Held.{Ends, EndsAs}
use Rattle.pass_all.specs.Answers.{TimedAs}

-- ---- the answers

nonzero : (k : ℕ) → suc k ≢ 0
nonzero k e = omega arith

refused_as : (t : Answer Table) (k : ℕ) (left : Table) → k ≢ 0 → t ≡ refused k → TimedAs t k left
refused_as t k left h e = subst (λ (x : Answer Table). TimedAs x k left) (sym e) (refl, h)

-- ---- a pass, and what is told of it

module _ {begun : List ℕ} {answer : Answer Pass} {n : ℕ} {t : Table} {flags : List ℕ} {o : Option Unit} where
  pub ended : (u : Unit) → EndsAs begun answer n t flags o → o ≡ Some u → Ends begun answer n t flags
  ended u a e = subst (EndsAs begun answer n t flags) e a

pub failed : (begun : List ℕ) (answer : Answer Pass) (n : ℕ) (t : Table) (flags : List ℕ) (o : Option Unit) → EndsAs begun answer n t flags o → o ≡ None → answer ≡ refused 15
failed begun answer n t flags o a e = subst (EndsAs begun answer n t flags) e a

-- what `?` hands on where a pass fails is 15
pub fifteen : (r : Result Unit Refusal) (x : Refusal) (o : Option Unit) → IsErrAnd r (λ y. y ≡ x) → Err x ≡ ok_or o NotTimed → o ≡ None → (t : Answer Table) (left : Table) → TimedAs t 15 left → TimedAs t (number_of (told r)) left
fifteen (Err y) x o h e f t left v =
    let z : NotTimed ≡ y = cc in
    subst (λ (s : Refusal). TimedAs t (refusal_number s) left) z v
fifteen (Ok u) x o h e f t left v = absurd h

-- ---- no flag is set before a pass

none_flagged : (flags : List ℕ) → flags ≡ zeros (length flags) → (i : ℕ) → done_in flags i ≡ false
unfolding done_in
none_flagged flags e i = ap (λ (s : List ℕ). ltb 0 (get_or s i 0)) e ∙ ap (ltb 0) (zero_at (length flags) i)

-- both passes' flags are cut out of cells that are zero
module _ (n k : ℕ) (cells flags : List ℕ) (e : cells ≡ zeros (length cells)) where
  pub front_unset : flags ≡ take n (take k cells) → (i : ℕ) → done_in flags i ≡ false
  front_unset f i = ap (λ (s : List ℕ). done_in s i) f ∙ none_flagged (take n (take k cells)) (zeros_front n (zeros_front k e)) i

  pub back_unset : flags ≡ drop n (take k cells) → (i : ℕ) → done_in flags i ≡ false
  unfolding done_in
  back_unset f i = ap (λ (s : List ℕ). ltb 0 (get_or s i 0)) f ∙ ap (ltb 0) (get_or-drop n (take k cells) i 0) ∙ none_flagged (take k cells) (zeros_front k e) (n + i)

-- ---- backward

module _ (t : Table) (n : ℕ) where
  abbrev back : Answer Table
  back = and_then (backward t n) (after_backward n)

  pub told_backward : (left : Table) → backward t n ≡ refused 15 → TimedAs back 15 left
  told_backward left h = refused_as back 15 left (nonzero 14) (ap (λ (x : Answer Pass). and_then x (after_backward n)) h)

  -- the pass came to its end
  module _ {begun flags : List ℕ} (left : Table) (q : Ends begun (backward t n) n left flags) (m : ℕ) (l : m ≡ n) where
    abbrev behind : Table → Answer Table
    behind x = checked_as (all_zero x n) 16 (given x)

    passed_is : (s d : Bool) → s ≡ some_left (done_in flags) m → s ≡ d → back ≡ checked_as d 15 (behind left)
    passed_is s d e f =
        ap (λ (x : Answer Pass). and_then x (after_backward n)) q.is
        ∙ ap (λ (done : ℕ → Bool). checked_as (some_left done n) 15 (behind q.pass.table)) q.done
        ∙ ap (λ (x : Table). checked_as (some_left (done_in flags) n) 15 (behind x)) q.table
        ∙ ap (λ (x : Bool). checked_as x 15 (behind left)) (ap (some_left (done_in flags)) (sym l) ∙ sym e ∙ f)

    pub told_unpassed : (s : Bool) → s ≡ some_left (done_in flags) m → s ≡ true → TimedAs back 15 left
    told_unpassed s e d = refused_as back 15 left (nonzero 14) (passed_is s true e d)

    pub told_zero : (s : Bool) → s ≡ some_left (done_in flags) m → s ≡ false → (z : Bool) → z ≡ all_zero left n → z ≡ true → TimedAs back 16 left
    told_zero s e d z f g = refused_as back 16 left (nonzero 15) (passed_is s false e d ∙ ap (λ (x : Bool). checked_as x 16 (given left)) (sym f ∙ g))

    pub told_times : (s : Bool) → s ≡ some_left (done_in flags) m → s ≡ false → (z : Bool) → z ≡ all_zero left n → z ≡ false → TimedAs back 0 left
    told_times s e d z f g = subst (λ (x : Answer Table). TimedAs x 0 left) (sym (passed_is s false e d ∙ ap (λ (x : Bool). checked_as x 16 (given left)) (sym f ∙ g))) (refl, refl)

-- ---- the checks, and forward

module _ (t : Table) (n : ℕ) (departure : Float) where
  abbrev whole : Answer Table
  whole = passes t n departure

  checks_is : (b d : Bool) → b ≡ row14 (node_at t.floats t.numbers) n → b ≡ d → whole ≡ checked_as d 14 (and_then (forward t n departure) (after_forward n))
  unfolding passes at
  checks_is b d e f = ap (λ (x : Bool). checked_as x 14 (and_then (forward t n departure) (after_forward n))) (sym e ∙ f)

  pub told_14 : (left : Table) (b : Bool) → b ≡ row14 (node_at t.floats t.numbers) n → b ≡ true → TimedAs whole 14 left
  told_14 left b e d = refused_as whole 14 left (nonzero 13) (checks_is b true e d)

  -- the checks hold
  module _ (b : Bool) (e : b ≡ row14 (node_at t.floats t.numbers) n) (d : b ≡ false) where
    pub told_forward : (left : Table) → forward t n departure ≡ refused 15 → TimedAs whole 15 left
    told_forward left h = refused_as whole 15 left (nonzero 14) (checks_is b false e d ∙ ap (λ (x : Answer Pass). and_then x (after_forward n)) h)

    -- the pass came to its end
    module _ {begun flags : List ℕ} (left : Table) (q : Ends begun (forward t n departure) n left flags) (m : ℕ) (l : m ≡ n) where
      timed_is : (s f : Bool) → s ≡ some_left (done_in flags) m → s ≡ f → whole ≡ checked_as f 15 (back left n)
      timed_is s f g h =
          checks_is b false e d
          ∙ ap (λ (x : Answer Pass). and_then x (after_forward n)) q.is
          ∙ ap (λ (done : ℕ → Bool). checked_as (some_left done n) 15 (back q.pass.table n)) q.done
          ∙ ap (λ (x : Table). checked_as (some_left (done_in flags) n) 15 (back x n)) q.table
          ∙ ap (λ (x : Bool). checked_as x 15 (back left n)) (ap (some_left (done_in flags)) (sym l) ∙ sym g ∙ h)

      pub told_untimed : (s : Bool) → s ≡ some_left (done_in flags) m → s ≡ true → TimedAs whole 15 left
      told_untimed s f g = refused_as whole 15 left (nonzero 14) (timed_is s true f g)

      pub told_whole : (s : Bool) → s ≡ some_left (done_in flags) m → s ≡ false → (r : ℕ) (then : Table) → TimedAs (back left n) r then → TimedAs whole r then
      told_whole s f g r then = subst (λ (x : Answer Table). TimedAs x r then) (sym (timed_is s false f g))
