-- What is printed, where the input's bytes and those that the output holds are known. Assumes nothing.
use Rattle.std.proofs.Common.{◌≡◌, ℕ, ◌+◌, ◌*◌, ◌/◌, ◌≤◌, ◌<◌, ◌↔◌, Bool, true, false, IsTrue, add-one, drop, drop_at, drop-drop, length-drop, length-take-le, List, [], ◌∷◌, ◌++◌, Some, None, IfSome, refl, arith, length, take, sym, ap, ◌∙◌, subst, length-append, take_all}
use lib.Seq.{take_at}
use borrow.Author.Tests.{le-ltb}
use Rattle.std.specs.declared.option.Option.{Option}
use Rattle.std.specs.Io.KnownBytes.{Appends, Consumes}
use Rattle.std.proofs.KnownBytes.{Appends-nil, Appends-trans}
use Rattle.roots.specs.Roots.{answer, line, lines, text}

line_of_eight : (input bytes : List ℕ) → 8 ≤ length input → take 8 input ≡ bytes → line input ≡ answer bytes ++ 10 ∷ []
line_of_eight input bytes h e =
    let some : 1 ≤ length input = omega arith in
    rw (le-ltb (length input) 1 some, le-ltb (length input) 8 h) (ap (λ (l : List ℕ). answer l ++ 10 ∷ []) e)

-- eight bytes were read
module _ (before now : Option (List ℕ)) (n : ℕ) (buf : List ℕ) (read : Consumes before now (take n buf)) (room : length buf ≡ 8) (full : 8 ≤ n) where
  bytes_are : take n buf ≡ buf
  bytes_are = take_all n buf (omega arith)

  pub eight_read : IfSome before (λ input. Consumes before now (take 8 input))
  eight_read = go before now read
    where
      go : (a b : Option (List ℕ)) → Consumes a b (take n buf) → IfSome a (λ input. Consumes a b (take 8 input))
      go None b p = tt
      go (Some input) None p = absurd p
      go (Some input) (Some ys) p =
          let q : input ≡ buf ++ ys = p ∙ ap (λ (l : List ℕ). l ++ ys) bytes_are in
          q ∙ ap (λ (l : List ℕ). l ++ ys) (sym (ap (take 8) q ∙ take_at buf ys 8 room))

  -- and their line is printed
  pub line_printed : (held between holds : Option (List ℕ)) (text : List ℕ) → length text ≡ 16 → take 16 text ≡ answer buf → Appends held between text → Appends between holds (10 ∷ []) → IfSome before (λ input. Appends held holds (line input))
  line_printed held between holds text l e p q = go before now read
    where
      all : Appends held holds (answer buf ++ 10 ∷ [])
      all = subst (λ (t : List ℕ). Appends held holds (t ++ 10 ∷ [])) (sym (take_all 16 text (omega arith)) ∙ e) (Appends-trans held between holds text (10 ∷ []) p q)

      go : (a b : Option (List ℕ)) → Consumes a b (take n buf) → IfSome a (λ input. Appends held holds (line input))
      go None b p = tt
      go (Some input) None p = absurd p
      go (Some input) (Some ys) p =
          let q : input ≡ buf ++ ys = p ∙ ap (λ (l : List ℕ). l ++ ys) bytes_are in
          let long : 8 ≤ length input = omega (arith, ap length q, length-append buf ys) in
          subst (Appends held holds) (sym (line_of_eight input buf long (ap (take 8) q ∙ take_at buf ys 8 room))) all

-- ---- the lines

lines_none : (input : List ℕ) → lines 0 input ≡ []
unfolding lines
lines_none input = refl

lines_more : (i : ℕ) (input : List ℕ) → lines (i + 1) input ≡ lines i input ++ line (drop (8 * i) input)
unfolding lines
lines_more i input = rw add-one refl

-- after i turns
pub record Turned (i : ℕ) (first now held holds : Option (List ℕ)) : Type 0 where
  pub rest : IfSome first (λ input. (8 * i ≤ length input) × (now ≡ Some (drop (8 * i) input)))
  pub printed : IfSome first (λ input. Appends held holds (lines i input))

pub none_turned : (first held : Option (List ℕ)) → Turned 0 first first held held
none_turned first held = record { rest = start first; printed = nothing first }
  where
    start : (a : Option (List ℕ)) → IfSome a (λ input. (8 * 0 ≤ length input) × (a ≡ Some (drop (8 * 0) input)))
    start None = tt
    start (Some input) = (omega arith, refl)

    nothing : (a : Option (List ℕ)) → IfSome a (λ input. Appends held held (lines 0 input))
    nothing None = tt
    nothing (Some input) = subst (Appends held held) (sym (lines_none input)) (Appends-nil held)

module _ {i : ℕ} {first now held holds : Option (List ℕ)} (more : Option (List ℕ)) (t : Turned i first now held holds) (line_is : IfSome now (λ input. Appends holds more (line input))) where
  one_more : IfSome first (λ input. Appends held more (lines (i + 1) input))
  one_more = go first t.rest t.printed
    where
      go : (a : Option (List ℕ)) → IfSome a (λ input. (8 * i ≤ length input) × (now ≡ Some (drop (8 * i) input))) → IfSome a (λ input. Appends held holds (lines i input)) → IfSome a (λ input. Appends held more (lines (i + 1) input))
      go None r p = tt
      go (Some input) r p =
          let q = subst (λ (o : Option (List ℕ)). IfSome o (λ xs. Appends holds more (line xs))) r.1 line_is in
          subst (Appends held more) (sym (lines_more i input)) (Appends-trans held holds more (lines i input) (line (drop (8 * i) input)) p q)

  pub turned_on : (after : Option (List ℕ)) {b : Bool} → b ≡ true → IfSome now (λ input. Consumes now after (take 8 input)) → IfSome now (λ input. IsTrue b ↔ (8 ≤ length input)) → Turned (i + 1) first after held more
  turned_on after {b} e rest test = record { rest = go first t.rest; printed = one_more }
    where
      dropped : (input : List ℕ) (a : Option (List ℕ)) → 8 ≤ length (drop (8 * i) input) → Consumes (Some (drop (8 * i) input)) a (take 8 (drop (8 * i) input)) → a ≡ Some (drop (8 * (i + 1)) input)
      dropped input None l p = absurd p
      dropped input (Some ys) l p =
          let left = drop (8 * i) input in
          let next : 8 * i + 8 ≡ 8 * (i + 1) = omega arith in
          ap Some (sym (drop_at (take 8 left) ys 8 (length-take-le 8 left l)) ∙ ap (drop 8) (sym p) ∙ drop-drop 8 (8 * i) input ∙ ap (λ (m : ℕ). drop m input) next)

      go : (a : Option (List ℕ)) → IfSome a (λ input. (8 * i ≤ length input) × (now ≡ Some (drop (8 * i) input))) → IfSome a (λ input. (8 * (i + 1) ≤ length input) × (after ≡ Some (drop (8 * (i + 1)) input)))
      go None r = tt
      go (Some input) r =
          let p = subst (λ (o : Option (List ℕ)). IfSome o (λ xs. Consumes o after (take 8 xs))) r.1 rest in
          let q = subst (λ (o : Option (List ℕ)). IfSome o (λ xs. IsTrue b ↔ (8 ≤ length xs))) r.1 test in
          let long : 8 ≤ length (drop (8 * i) input) = q.0 e in
          (omega (arith, length-drop (8 * i) input), dropped input after long p)

  -- where no whole pattern was left, all is printed
  pub all_printed : {b : Bool} → b ≡ false → IfSome now (λ input. IsTrue b ↔ (8 ≤ length input)) → IfSome first (λ input. length input < 18446744073709551616 → Appends held more (text input))
  all_printed {b} e test = go first t.rest one_more
    where
      go : (a : Option (List ℕ)) → IfSome a (λ input. (8 * i ≤ length input) × (now ≡ Some (drop (8 * i) input))) → IfSome a (λ input. Appends held more (lines (i + 1) input)) → IfSome a (λ input. length input < 18446744073709551616 → Appends held more (text input))
      go None r p = tt
      go (Some input) r p =
          let q = subst (λ (o : Option (List ℕ)). IfSome o (λ xs. IsTrue b ↔ (8 ≤ length xs))) r.1 test in
          let none : 8 ≤ length (drop (8 * i) input) → ⊥ = λ h. (let whole : b ≡ true = q.1 h in cc) in
          let turns : i ≡ length input / 8 = omega (arith, r.0, length-drop (8 * i) input, none) in
          λ short. subst (λ (k : ℕ). Appends held more (lines (k + 1) input)) turns p
