-- The answer that a number is, and what it leaves of the table.
use mathlib.Core.Path.{◌≡◌, refl, sym, ap, ◌∙◌, subst}
use mathlib.Core.Logic.{◌≢◌}
use Prim.Native.Nat.{ℕ, zero, suc, ◌*◌, ◌≤◌}
use native.Mathlib.Nat.{sub-zero}
use native.Mathlib.Omega.{arith}
use lib.ListN.{length}
use lib.Ieee.{Float}
use Rattle.std.specs.Prelude.{Result, Ok, Err, IfOk, IsErrAnd}
use Rattle.std.specs.Result.{result_unwrap_or}
use Rattle.laws.specs.Answer.{Answer, refused, given, and_then, unless, number_of}
use Rattle.refusals.specs.Refusals.{refusal_number, told}
use Rattle.refusals.specs.declared.Refusal.{Refusal}
use Rattle.refusals.proofs.Numbers.{refusal_some}
use Rattle.net_node.specs.Table.{Table}
use Rattle.net_node.specs.Left.{nodes_in, floats_kept, numbers_kept, floats_left, numbers_left}
use Rattle.net_node.specs.Lent.{Slices}
use Rattle.space.specs.Space.{units_of, bytes_of, zeros, zero_floats}
use Rattle.space.specs.Lent.{bytes_in, Cleared}
use Rattle.pass_rules.specs.Passes.{passes}
use Rattle.pass_all.specs.Answers.{TimedAs}
use Rattle.pass_table.specs.TableEntry.{table_times, wholly, times_of, nodes_told, TimesUpdated}
use Rattle.pass_table.specs.Parts.{first_number}
use Rattle.pass_table.proofs.FirstRows.{nonzero, most_nodes}

-- what `?` hands on is told as the refusal is
pub handed_on : (r : Result ℕ Refusal) (x : Refusal) → IsErrAnd r (λ y. y ≡ x) → (t : Answer Table) (left : Table) → TimedAs t (refusal_number x) left → TimedAs t (number_of (told r)) left
handed_on (Err y) x h t left v = subst (λ (s : Refusal). TimedAs t (refusal_number s) left) (sym h) v
handed_on (Ok n) x h t left v = absurd h

-- ---- rows 3 to 5, then the passes

module _ (lent : Table) (departure : Float) (n units rs cs ms : ℕ) (e : n ≡ nodes_in lent) (f : units ≡ units_of rs cs ms) (number : ℕ) (g : number ≡ first_number lent n departure (64 * units)) where
  abbrev times : Answer Table
  times = table_times lent departure (bytes_of rs cs ms)

  times_is : times ≡ unless number (passes lent n departure)
  unfolding table_times bytes_of first_number
  times_is =
      ap (λ (k : ℕ). unless (first_number lent k departure (64 * units_of rs cs ms)) (passes lent k departure)) (sym e)
      ∙ ap (λ (k : ℕ). unless (first_number lent n departure (64 * k)) (passes lent n departure)) (sym f)
      ∙ ap (λ (k : ℕ). unless k (passes lent n departure)) (sym g)

  told_number : (left : Table) → number ≢ 0 → TimedAs times number left
  told_number left h = subst (λ (t : Answer Table). TimedAs t number left) (sym times_is) (go number h)
    where
      go : (k : ℕ) → k ≢ 0 → TimedAs (unless k (passes lent n departure)) k left
      go zero h = absurd (h refl)
      go (suc k) h = (refl, h)

  pub told_passes : number ≡ 0 → (r : ℕ) (left : Table) → TimedAs (passes lent n departure) r left → TimedAs times r left
  told_passes z r left = subst (λ (t : Answer Table). TimedAs t r left) (sym (times_is ∙ ap (λ (k : ℕ). unless k (passes lent n departure)) z))

pub told_first : (lent : Table) (departure : Float) (n units rs cs ms : ℕ) → n ≡ nodes_in lent → units ≡ units_of rs cs ms → (x : Refusal) → refusal_number x ≡ first_number lent n departure (64 * units) → (left : Table)
    → TimedAs (table_times lent departure (bytes_of rs cs ms)) (refusal_number x) left
told_first lent departure n units rs cs ms e f x g left = told_number lent departure n units rs cs ms e f (refusal_number x) g left (refusal_some x)

-- ---- the whole answer

-- what is not refused is small enough
pub kept_fits : (lent : Table) (departure : Float) (bytes : ℕ) (left : Table) (r : Result ℕ Refusal) → TimedAs (table_times lent departure bytes) (number_of (told r)) left → IfOk r (λ n. n ≡ nodes_in lent) → result_unwrap_or r 0 ≤ 65535
unfolding table_times first_number
kept_fits lent departure bytes left (Err x) t e = omega arith
kept_fits lent departure bytes left (Ok n) t e = go (first_number lent (nodes_in lent) departure bytes) refl t
  where
    go : (j : ℕ) → first_number lent (nodes_in lent) departure bytes ≡ j → TimedAs (unless j (passes lent (nodes_in lent) departure)) 0 left → n ≤ 65535
    go zero f g = let h = most_nodes lent (nodes_in lent) departure bytes f in omega (arith, e)
    go (suc j) f g = absurd (nonzero j (sym g.0))

module _ (n : ℕ) (left : Table) where
  answer_as_lem : (r : Result ℕ Refusal) → IfOk r (λ k. k ≡ n) → (a : Answer Table) → TimedAs a (number_of (told r)) left → told r ≡ nodes_told (and_then a (wholly n))
  answer_as_lem (Ok k) e (refused j) p = absurd (p.1 (sym p.0))
  answer_as_lem (Ok k) e (given t) p = ap given e
  answer_as_lem (Err x) e (refused j) p = ap refused p.0
  answer_as_lem (Err x) e (given t) p = absurd (refusal_some x p.0)

  floats_as_lem : (size : ℕ) (r : Result ℕ Refusal) → IfOk r (λ k. k ≡ n) → (a : Answer Table) → TimedAs a (number_of (told r)) left → floats_kept (result_unwrap_or r 0) left.floats size ≡ floats_left (and_then a (wholly n)) size
  floats_as_lem size (Ok k) e (refused j) p = absurd (p.1 (sym p.0))
  floats_as_lem size (Ok k) e (given t) p = ap (λ (x : ℕ). floats_kept x left.floats size) e ∙ ap (λ (x : Table). floats_kept n x.floats size) p.1
  floats_as_lem size (Err x) e (refused j) p = ap zero_floats (sub-zero size)
  floats_as_lem size (Err x) e (given t) p = absurd (refusal_some x p.0)

  numbers_as_lem : (size : ℕ) (r : Result ℕ Refusal) → IfOk r (λ k. k ≡ n) → (a : Answer Table) → TimedAs a (number_of (told r)) left → numbers_kept (result_unwrap_or r 0) left.numbers size ≡ numbers_left (and_then a (wholly n)) size
  numbers_as_lem size (Ok k) e (refused j) p = absurd (p.1 (sym p.0))
  numbers_as_lem size (Ok k) e (given t) p = ap (λ (x : ℕ). numbers_kept x left.numbers size) e ∙ ap (λ (x : Table). numbers_kept n x.numbers size) p.1
  numbers_as_lem size (Err x) e (refused j) p = ap zeros (sub-zero size)
  numbers_as_lem size (Err x) e (given t) p = absurd (refusal_some x p.0)

-- the slices that are lent; the table as the passes left it, of the same lengths; and all of them at the end
pub updated : (lent : Slices) (departure : Float) (r : Result ℕ Refusal) → IfOk r (λ n. n ≡ nodes_in lent.table) → (passed : Table)
    → TimedAs (table_times lent.table departure (bytes_in lent.work)) (number_of (told r)) passed → length passed.floats ≡ length lent.table.floats
    → length passed.numbers ≡ length lent.table.numbers → (kept : ℕ) → kept ≡ result_unwrap_or r 0 → (left : Slices) → left.table.floats ≡ floats_kept kept passed.floats (length passed.floats)
    → left.table.numbers ≡ numbers_kept kept passed.numbers (length passed.numbers) → Cleared lent.work left.work → TimesUpdated lent left departure r
unfolding times_of
updated lent departure r e passed timed l m kept k left fs us w = record {
  answer = answer_as_lem (nodes_in lent.table) passed r e times timed;
  floats =
      fs
      ∙ ap (λ (x : ℕ). floats_kept kept passed.floats x) l
      ∙ ap (λ (x : ℕ). floats_kept x passed.floats (length lent.table.floats)) k
      ∙ floats_as_lem (nodes_in lent.table) passed (length lent.table.floats) r e times timed;
  numbers =
      us
      ∙ ap (λ (x : ℕ). numbers_kept kept passed.numbers x) m
      ∙ ap (λ (x : ℕ). numbers_kept x passed.numbers (length lent.table.numbers)) k
      ∙ numbers_as_lem (nodes_in lent.table) passed (length lent.table.numbers) r e times timed;
  work = w;
}
  where
    times : Answer Table
    times = table_times lent.table departure (bytes_in lent.work)

-- ---- what the answer tells

whole_nodes : (t : Answer Table) (n k : ℕ) → given k ≡ nodes_told (and_then t (wholly n)) → k ≡ n
whole_nodes (refused j) n k e = let z : ◌≡◌ {A = ℕ} 0 1 = cc in absurd (nonzero 0 (sym z))
whole_nodes (given t) n k e = cc

-- as many nodes as a u32 can tell
whole_most : (lent : Slices) (departure : Float) (k : ℕ) → given k ≡ nodes_told (times_of lent departure) → k ≤ 65535
unfolding times_of first_number
whole_most lent departure k e = go (first_number t (nodes_in t) departure (bytes_in lent.work)) refl e
  where
    t : Table
    t = lent.table

    go : (j : ℕ) → first_number t (nodes_in t) departure (bytes_in lent.work) ≡ j → given k ≡ nodes_told (and_then (unless j (passes t (nodes_in t) departure)) (wholly (nodes_in t))) → k ≤ 65535
    go zero f g = let h = most_nodes t (nodes_in t) departure (bytes_in lent.work) f in omega (arith, whole_nodes (passes t (nodes_in t) departure) (nodes_in t) k g)
    go (suc j) f g = let z : ◌≡◌ {A = ℕ} 0 1 = cc in absurd (nonzero 0 (sym z))

-- how many nodes are told at most
pub nodes_most : {lent left : Slices} {departure : Float} (r : Result ℕ Refusal) → TimesUpdated lent left departure r → result_unwrap_or r 0 ≤ 65535
nodes_most {lent} {left} {departure} (Ok k) u = whole_most lent departure k u.answer
nodes_most (Err x) u = omega arith
