-- One sweep over rows: none was bad so far, and whether one fell against the row before it.
use mathlib.Core.Path.{◌≡◌, refl, sym, ap, ◌∙◌}
use mathlib.Core.Bool.{Bool, true, false, ◌||◌, cond}
use Prim.Native.Nat.{ℕ, ◌+◌, ◌-◌, ◌≤◌, ◌<◌}
use native.Mathlib.Omega.{arith}
use Rattle.laws.specs.Below.{some_below}
use Rattle.laws.specs.Answer.{refused, given}
use Rattle.refusals.specs.declared.Refusal.{Refusal}
use Rattle.refusals.specs.Refusals.{refusal_number}
use Rattle.laws.proofs.Below.{some_more, none_more, some_at}
use Rattle.event_maker.specs.Parts.{sweep_answer}

-- the rows below i, and which of them fell against the row before it
pub record Swept (n : ℕ) (bad falls : ℕ → Bool) (i : ℕ) (found : Bool) : Type 0 where
  pub good : some_below i bad ≡ false
  pub fell : found ≡ some_below (i - 1) falls

module _ (n : ℕ) (bad falls : ℕ → Bool) where
  pub sweep_start : bad 0 ≡ false → Swept n bad falls 1 false
  unfolding some_below
  sweep_start e = record { good = e; fell = refl }

  pub sweep_on : (i : ℕ) (found r : Bool) → 1 ≤ i → Swept n bad falls i found → bad i ≡ false → r ≡ falls (i - 1) → Swept n bad falls (i + 1) (found || r)
  sweep_on i found r h v e f =
      let d : i - 1 + 1 ≡ i + 1 - 1 = omega arith in
      record {
        good = none_more i bad v.good e;
        fell = ap (λ (t : Bool). t || r) v.fell ∙ ap (λ (t : Bool). some_below (i - 1) falls || t) f ∙ sym (some_more (i - 1) falls) ∙ ap (λ (k : ℕ). some_below k falls) d;
      }

  pub sweep_bad : (k : ℕ) → k < n → bad k ≡ true → refused 4 ≡ sweep_answer n bad falls
  unfolding sweep_answer
  sweep_bad k h e = sym (ap (λ (t : Bool). cond t (refused 4) (given (some_below (n - 1) falls))) (some_at n bad k h e))

  pub sweep_end : (i : ℕ) (found : Bool) → i ≡ n → Swept n bad falls i found → given found ≡ sweep_answer n bad falls
  unfolding sweep_answer
  sweep_end i found d v =
      ap given (v.fell ∙ ap (λ (k : ℕ). some_below (k - 1) falls) d)
      ∙ ap (λ (t : Bool). cond t (refused 4) (given (some_below (n - 1) falls))) (sym (ap (λ (k : ℕ). some_below k bad) (sym d) ∙ v.good))

  -- what an answer says of the rows
  pub swept_bad : (r : Refusal) → refused (refusal_number r) ≡ sweep_answer n bad falls → (refusal_number r ≡ 4) × (some_below n bad ≡ true)
  unfolding sweep_answer
  swept_bad r e = go (some_below n bad) e
    where
      go : (t : Bool) → refused (refusal_number r) ≡ cond t (refused 4) (given (some_below (n - 1) falls)) → (refusal_number r ≡ 4) × (t ≡ true)
      go true e = (cc, refl)
      go false e = absurd (cc)

  pub swept_good : (found : Bool) → given found ≡ sweep_answer n bad falls → (some_below n bad ≡ false) × (found ≡ some_below (n - 1) falls)
  unfolding sweep_answer
  swept_good found e = go (some_below n bad) e
    where
      go : (t : Bool) → given found ≡ cond t (refused 4) (given (some_below (n - 1) falls)) → (t ≡ false) × (found ≡ some_below (n - 1) falls)
      go true e = absurd (cc)
      go false e = (refl, cc)
