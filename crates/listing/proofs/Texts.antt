-- Texts in a slice: one text behind another, and the slice when all has been written.
use mathlib.Core.Path.{◌≡◌, refl, sym, ap, subst, ◌∙◌}
use mathlib.Core.Bool.{Bool}
use mathlib.Core.Option.{Option, some}
use mathlib.Core.List.{List, [], ◌++◌, append-nil, append_assoc}
use Prim.Native.Nat.{ℕ, ◌+◌, ◌≤◌, ◌<◌}
use native.Mathlib.Numerals.{add-one}
use native.Mathlib.Omega.{arith}
use borrow.Author.Tests.{le-leb, lt-leb}
use lib.Dec.{leb}
use lib.ListN.{length}
use Rattle.net_node.specs.declared.EstTime.{EstTime}
use Rattle.net_node.specs.Table.{Table, at}
use Rattle.net_node.specs.Left.{filled, nodes_in}
use Rattle.report.specs.declared.Report.{Report}
use Rattle.space.specs.Space.{zeros}
use Rattle.std.specs.Prelude.{Option as Place, Some, Result, Err}
use Rattle.listing.specs.declared.ListingError.{ListingError}
use Rattle.listing.specs.declared.ListingError.TheVariants.{Unfilled}
use Rattle.listing.specs.Listing.{line, lines, sheet_text, text_if, sheet_in, listed_as, bytes_left, TextListed}
use Rattle.listing.specs.declared.Text.{Text}
use Rattle.listing.specs.Written.{WrittenTo, Written, Puts, Finishes}

-- ---- one text behind another

pub nothing_put : (t : Text) → Puts t [] t
nothing_put t = record { same_slice = refl; sized = refl; behind = λ text w. subst (Written t) (sym (append-nil text)) w }

pub then_put : {a b c : Text} {s t : List ℕ} → Puts a s b → Puts b t c → Puts a (s ++ t) c
then_put {c = c} {s = s} {t = t} p q = record {
  same_slice = q.same_slice ∙ p.same_slice;
  sized = q.sized ∙ p.sized;
  behind = λ text w. subst (Written c) (append_assoc text s t) (q.behind (text ++ s) (p.behind text w));
}

pub put_as : {a b : Text} {s t : List ℕ} → Puts a s b → s ≡ t → Puts a t b
put_as {a} {b} p e = subst (λ (u : List ℕ). Puts a u b) e p

-- ---- a loop that puts the text s i before its turn i

pub record Turned (a : Text) (s : ℕ → List ℕ) (n : ℕ) (b : Text) (i : ℕ) : Type 0 where
  pub puts : Puts a (s i) b
  pub most : i ≤ n

pub turned_none : (a : Text) (s : ℕ → List ℕ) (n : ℕ) → s 0 ≡ [] → Turned a s n a 0
turned_none a s n e = record { puts = put_as (nothing_put a) (sym e); most = omega arith }

pub turned_more : {a b c : Text} {s : ℕ → List ℕ} {n i : ℕ} {t : List ℕ} → Turned a s n b i → i < n → Puts b t c → s i ++ t ≡ s (i + 1) → Turned a s n c (i + 1)
turned_more u l p e = record { puts = put_as (then_put u.puts p) e; most = omega (arith, l) }

pub turned_all : {a b : Text} {s : ℕ → List ℕ} {n i : ℕ} → Turned a s n b i → n ≤ i → Puts a (s n) b
turned_all {s = s} {n = n} {i = i} u l =
    let e : i ≡ n = omega (arith, u.most) in
    put_as u.puts (ap s e)

pub no_lines : (node : ℕ → EstTime) → lines node 0 ≡ []
unfolding lines
no_lines node = refl

pub line_one : (node : ℕ → EstTime) (i : ℕ) {n : EstTime} → n ≡ node i → lines node i ++ line i n ≡ lines node (i + 1)
unfolding lines
line_one node i e = ap (λ (n : EstTime). lines node i ++ line i n) e ∙ sym (ap (lines node) (add-one i))

-- ---- the slice when all has been written

-- a text that has been put at the start
module _ {a b : Text} {text : List ℕ} (s : a.at ≡ Some 0) (p : Puts a text b) where
  whole : Written b text
  whole = p.behind [] (record { to = subst (λ (q : Place ℕ). WrittenTo a.out.now q []) (sym s) (omega arith, refl) })

  pub text_listed : {end : List ℕ} {r : Result ℕ ListingError} → Finishes b end r → TextListed (some text) a.out.now end r
  text_listed {end} {r} f =
      let l = f.listed text whole in
      record {
        answer = subst (λ (n : ℕ). r ≡ listed_as (some text) n) p.sized l.answer;
        bytes = subst (λ (n : ℕ). end ≡ bytes_left (some text) n) p.sized l.bytes;
      }

-- the slice that a text was put into is the one that is lent
pub listed_in : {text : Option (List ℕ)} {out left end : List ℕ} {r : Result ℕ ListingError} → TextListed text out left r → end ≡ left → TextListed text out end r
listed_in {text} {out} {r = r} l e = subst (λ (x : List ℕ). TextListed text out x r) (sym e) l

-- ---- a table has so many nodes, and the report says n

module _ (report : Report) (t : Table) {k : ℕ} (e : k ≡ filled (length t.floats) (length t.numbers)) where
  text_is : {b : Bool} → leb report.nodes (nodes_in t) ≡ b → sheet_in report t ≡ text_if b (sheet_text report (at t))
  unfolding sheet_in
  text_is h = ap (λ (b : Bool). text_if b (sheet_text report (at t))) h

  pub unfilled_listed : k < report.nodes → {out end : List ℕ} → end ≡ zeros (length out) → TextListed (sheet_in report t) out end (Err Unfilled)
  unfolding nodes_in
  unfilled_listed h {out} g = record {
    answer = sym (ap (λ (x : Option (List ℕ)). listed_as x (length out)) (text_is (lt-leb report.nodes (filled (length t.floats) (length t.numbers)) (omega (arith, e)))));
    bytes = g ∙ sym (ap (λ (x : Option (List ℕ)). bytes_left x (length out)) (text_is (lt-leb report.nodes (filled (length t.floats) (length t.numbers)) (omega (arith, e)))));
  }

  pub filled_listed : report.nodes ≤ k → {out end : List ℕ} {r : Result ℕ ListingError} → TextListed (some (sheet_text report (at t))) out end r → TextListed (sheet_in report t) out end r
  unfolding nodes_in
  filled_listed h {out} {end} {r} l = subst (λ (x : Option (List ℕ)). TextListed x out end r) (sym (text_is (le-leb report.nodes (filled (length t.floats) (length t.numbers)) (omega (arith, e))))) l
