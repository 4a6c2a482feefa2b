-- From a network that has grown to its passes: what they ask for is there, and the job goes by their number.
use mathlib.Core.Path.{◌≡◌, refl, sym, ap, ◌∙◌, subst}
use mathlib.Core.Bool.{true, not}
use mathlib.Core.List.{List}
use Prim.Native.Nat.{ℕ, ◌*◌, ◌≤◌}
use native.Mathlib.Omega.{arith}
use lib.Dec.{T}
use lib.ListN.{length, take}
use lib.Seq.{length-take-le}
use lib.Ieee.{Float, binary64, nan_bits, of_bits}
use Rattle.laws.specs.Answer.{Answer, refused, given, and_then, number_of}
use Rattle.fields.specs.Fields.{u64_at}
use Rattle.floats.specs.Floats.{book_float}
use Rattle.space.specs.Space.{bytes_of}
use Rattle.book_format.specs.Format.{departure_bits}
use Rattle.book_format.proofs.Floats.{book_no_nan}
use Rattle.net_node.specs.declared.EstTime.{EstTime}
use Rattle.net_node.specs.Table.{node_at, Room, Table, at}
use Rattle.net_node.specs.Lent.{Sizes}
use Rattle.grow_rules.specs.Growth.{Grown, departure}
use Rattle.pass_rules.specs.Walks.{Linked, table_of}
use Rattle.pass_rules.specs.Passes.{passes}
use Rattle.pass_all.specs.Answers.{TimedAs}
use Rattle.report.specs.declared.Report.{Report}
use Rattle.std.specs.Prelude.{Result, Ok, Err}
use Rattle.refusals.specs.declared.Refusal.{Refusal}
use Rattle.refusals.specs.Refusals.{refusal_number, told}
use Rattle.refusals.proofs.Numbers.{refusal_some}
use Rattle.grow_book.specs.Answers.{WholeAs, GrownAs}
use Rattle.est_times.specs.Network.{network}
use Rattle.est_times.specs.Sheet.{Finished, finished_as, timed_from, job, report_of}
use Rattle.est_times.specs.Stages.{BuiltAs}
use Rattle.est_times.proofs.Accepts.{head_there, departure_float, enough_of}
use Rattle.est_times.proofs.Networks.{Sound, sound}

-- ---- the small functions

pub departure_number : (b : List ℕ) (k : ℕ) → book_float (departure_bits b) ≡ true → k ≡ u64_at b 8 → T (not (nan_bits binary64 k))
unfolding departure_bits
departure_number b k h e = subst (λ (x : ℕ). T (not (nan_bits binary64 x))) (sym e) (book_no_nan (departure_bits b) h)

pub departure_is : (b : List ℕ) (k : ℕ) → k ≡ u64_at b 8 → of_bits binary64 k ≡ departure b
unfolding departure_bits
departure_is b k e = ap (of_bits binary64) e

-- ---- the job by its stages

job_is : (b : List ℕ) (z : Sizes) → job b z ≡ and_then (network b z) (timed_from b)
unfolding job
job_is b z = refl

pub built_refused : (b : List ℕ) (z : Sizes) (fs : List Float) (us : List ℕ) (grown : Result Report Refusal) → GrownAs (network b z) fs us grown → (k : Refusal) → grown ≡ Err k
    → (t : Table) (r : Result Report Refusal) → r ≡ Err k → BuiltAs (job b z) t r
built_refused b z fs us grown g k e t r q =
    let h : network b z ≡ refused (refusal_number k) = subst (GrownAs (network b z) fs us) e g in
    subst (λ (j : Answer Finished). BuiltAs j t r) (sym (job_is b z ∙ ap (λ (a : Answer Grown). and_then a (timed_from b)) h)) (ap told q)

-- a network that is whole: what it is, with the counts of its report
abbrev pub WholeOf : Answer Grown → List Float → List ℕ → Report → Type 0
WholeOf a fs us r = WholeAs a fs us r.nodes r.added r.splits r.joined r.finished

pub whole_told : (b : List ℕ) (z : Sizes) (fs : List Float) (us : List ℕ) (grown : Result Report Refusal) → GrownAs (network b z) fs us grown → (r : Report) → grown ≡ Ok r → WholeOf (network b z) fs us r
whole_told b z fs us grown g r e = subst (GrownAs (network b z) fs us) e g

-- what the passes ask for, of slices of work space of these lengths
pub record Ripe (b : List ℕ) (r c m : ℕ) (fs : List Float) (us : List ℕ) (n : ℕ) : Type 0 where
  pub head : 16 ≤ length b
  pub float : book_float (departure_bits b) ≡ true
  pub linked : Linked (table_of fs us) n
  pub three : 3 ≤ n
  pub reals : n * 2 ≤ r
  pub cells : n * 2 ≤ c
  pub marks : n ≤ m

module _ (b : List ℕ) (f n r c m : ℕ) (fs : List Float) (us : List ℕ) (report : Report)
    (w : WholeOf (network b (record { floats = f; numbers = n; bytes = bytes_of r c m })) fs us report) where
  abbrev g : Grown
  g = w.network

  grown_sound : Sound b (record { floats = f; numbers = n; bytes = bytes_of r c m }) g
  grown_sound = sound b (record { floats = f; numbers = n; bytes = bytes_of r c m }) g w.is

  same_node : (i : ℕ) → node_at fs us i ≡ at g.table i
  unfolding at
  same_node i = ap (λ (xs : List Float). node_at xs us i) (sym w.floats) ∙ ap (λ (xs : List ℕ). node_at g.table.floats xs i) (sym w.numbers)

  pub ripe : Ripe b r c m fs us report.nodes
  ripe =
      let s = grown_sound in
      let e = enough_of b f n r c m s.passes in
      let d = w.nodes_are in
      let i = s.whole.inside in
      let o = s.whole.room in
      let t = s.whole.shape.some in
      let lf = ap (λ (xs : List Float). length xs) w.floats in
      let lu = ap (λ (xs : List ℕ). length xs) w.numbers in
      record {
        head = head_there s.passes;
        float = departure_float s.passes;
        linked = record {
          room = record { floats = omega (arith, o.floats); numbers = omega (arith, o.numbers); most = omega (arith, o.most) };
          inside = record {
            next = λ j h. let x = s.whole.linked.next j (omega arith) in let y = ap (λ (z : EstTime). z.idx_next) (same_node j) in omega arith;
            next_alt = λ j h. let x = s.whole.linked.next_alt j (omega arith) in let y = ap (λ (z : EstTime). z.idx_next_alt) (same_node j) in omega arith;
            prev = λ j h. let x = s.whole.linked.prev j (omega arith) in let y = ap (λ (z : EstTime). z.idx_prev) (same_node j) in omega arith;
            prev_alt = λ j h. let x = s.whole.linked.prev_alt j (omega arith) in let y = ap (λ (z : EstTime). z.idx_prev_alt) (same_node j) in omega arith;
          };
        };
        three = omega arith;
        reals = omega (arith, e.queue);
        cells = omega (arith, e.flags);
        marks = omega (arith, e.names);
      }

-- the cells that hold the flags of n nodes, when growth has left as many cells as there were
module _ (n c : ℕ) (cells : List ℕ) (h : n * 2 ≤ c) (e : length cells ≡ c) where
  pub flags_are : n * 2 ≡ length (take (n * 2) cells)
  flags_are = let l : n * 2 ≤ length cells = omega arith in sym (length-take-le (n * 2) cells l)

  pub flags_fit : (m : ℕ) → m ≡ length (take (n * 2) cells) → n * 2 ≤ m
  flags_fit m d = omega (arith, flags_are)

-- ---- what the passes answer

-- a report stands unless they refuse
abbrev pub passed : Report → Result (Unit {0}) Refusal → Result Report Refusal
passed report (Ok u) = Ok report
passed report (Err k) = Err k

timed_built : (g : Grown) (report : Report) (left : Table) (p : Result (Unit {0}) Refusal) (t : Answer Table) → TimedAs t (number_of (told p)) left → report ≡ report_of g
    → BuiltAs (and_then t (λ (x : Table). given (finished_as g x))) left (passed report p)
timed_built g report left (Ok u) (refused k) h q = absurd (h.1 (sym h.0))
timed_built g report left (Err x) (refused k) h q = ap refused h.0
timed_built g report left (Ok u) (given t) h q = (ap Ok q, h.1)
timed_built g report left (Err x) (given t) h q = absurd (refusal_some x h.0)

module _ (b : List ℕ) (z : Sizes) (fs : List Float) (us : List ℕ) (report : Report) (w : WholeOf (network b z) fs us report) (time : Float) (d : time ≡ departure b) where
  report_is : report ≡ report_of w.network
  report_is = λ i. record { nodes = sym w.nodes_are i; added = sym w.added_are i; splits = sym w.splits_are i; joined = sym w.joined_are i; finished = sym w.finished_are i }

  table_is : record { floats = fs; numbers = us } ≡ w.network.table
  table_is = λ i. record { floats = sym w.floats i; numbers = sym w.numbers i }

  passes_are : passes (record { floats = fs; numbers = us }) report.nodes time ≡ passes w.network.table w.network.nodes (departure b)
  passes_are =
      ap (λ (t : Table). passes t report.nodes time) table_is
      ∙ ap (λ (k : ℕ). passes w.network.table k time) (sym w.nodes_are)
      ∙ ap (passes w.network.table w.network.nodes) d

  pub built_whole : (p : Result (Unit {0}) Refusal) (left : Table) → TimedAs (passes (record { floats = fs; numbers = us }) report.nodes time) (number_of (told p)) left
      → (sheet : Result Report Refusal) → sheet ≡ passed report p → BuiltAs (job b z) left sheet
  built_whole p left h sheet q =
      let a = passes w.network.table w.network.nodes (departure b) in
      let built : BuiltAs (timed_from b w.network) left (passed report p) =
      timed_built w.network report left p a (subst (λ (t : Answer Table). TimedAs t (number_of (told p)) left) passes_are h) report_is in
      subst (λ (j : Answer Finished). BuiltAs j left sheet) (sym (job_is b z ∙ ap (λ (x : Answer Grown). and_then x (timed_from b)) w.is)) (subst (BuiltAs (timed_from b w.network) left) (sym q) built)
