-- `book_rows::lower_of` meets its contract: of two refusals the one with the lower number is told.
use Rattle.std.proofs.Common.{◌≡◌, refl, sym, ap, ◌∙◌, Bool, true, false, cond, ◌==◌, nat_lt, min, rules, arith}
use Rattle.std.specs.Ordering.{ord_min, nat_cmp, on, is_lt}
use Rattle.std.specs.declared.cmp.Ordering.TheVariants.{Less, Equal, Greater}
use Rattle.std.proofs.lemmas.Bool.{ltb-true, ltb-false}
use Rattle.std.proofs.lemmas.List.Sorted.{answers_always}
use Rattle.refusals.specs.declared.Refusal.{Refusal}
use Rattle.refusals.specs.Refusals.{refusal_number}
use Rattle.refusals.proofs.Numbers.{refusal_some}
use Rattle.book_rows.specs.Elements.{lower}
use Rattle.book_rows.proofs.Lowest.{lower_min}
use Rattle.book_rows.proofs.lower_of.Goals as goal

is_less : (t e : Bool) → is_lt (cond t Less (cond e Equal Greater)) ≡ t
is_less true e = refl
is_less false true = refl
is_less false false = refl

-- the number of the one that is taken
taken : (x y : Refusal) (t : Bool) → nat_lt (refusal_number y) (refusal_number x) ≡ t → refusal_number (cond t y x) ≡ min (refusal_number x) (refusal_number y)
taken x y true e = let h = ltb-true (refusal_number y) (refusal_number x) e in omega arith
taken x y false e = let h = ltb-false (refusal_number y) (refusal_number x) e in omega arith

lowest_key : (x y : Refusal) → refusal_number (ord_min (on refusal_number nat_cmp) x y) ≡ lower (refusal_number x) (refusal_number y)
lowest_key x y =
    ap (λ (t : Bool). refusal_number (cond t y x)) (is_less (nat_lt (refusal_number y) (refusal_number x)) (refusal_number y == refusal_number x))
    ∙ taken x y _ refl
    ∙ sym (lower_min (refusal_number x) (refusal_number y) (refusal_some x) (refusal_some y))

pub returns-in-Err-Err : goal.returns-in-Err-Err
returns-in-Err-Err c =
    let e = c.min_by_key.ensures refusal_number (answers_always _ _ _ (λ f a r f′ h. search rules)) in
    rw (c.in-Err-Err.is-0, c.in-Err-Err.is-1, e) (lowest_key c.in-Err-Err.first c.in-Err-Err.second)
