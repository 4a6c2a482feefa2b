-- Demand 3 of the lent table: its nodes are the finished sheet's, so it has lost, doubled, added and re-timed no arc.
use mathlib.Core.Path.{◌≡◌, refl, sym, ap, ◌∙◌, subst}
use mathlib.Core.List.{List}
use Prim.Native.Nat.{ℕ, ◌≤◌, ◌<◌}
use native.Mathlib.Omega.{arith}
use lib.ListN.{length}
use Rattle.laws.specs.Answer.{Answer, refused, given}
use Rattle.net_node.specs.Table.{Table, at}
use Rattle.net_node.specs.Left.{floats_kept, numbers_kept}
use Rattle.net_node.specs.Lent.{Sizes, places_in}
use Rattle.net_node.proofs.Left.{kept_node}
use Rattle.grow_rules.specs.Growth.{Grown, departure}
use Rattle.arcs_growth.proofs.OneGrowth.{one_growth}
use Rattle.arcs_passes.proofs.Sheet.{SheetWell}
use Rattle.arcs_passes.proofs.Finished.{sheet_well, lent_arcs, lent_many, lent_ends, lent_taken, lent_of_runs}
use Rattle.std.specs.Prelude.{Result, Ok, Err}
use Rattle.report.specs.declared.Report.{Report}
use Rattle.refusals.specs.declared.Refusal.{Refusal}
use Rattle.refusals.specs.Refusals.{told}
use Rattle.est_times.specs.Network.{zero_table, network}
use Rattle.est_times.specs.Demand.{Noted, Demand}
use Rattle.est_times.specs.Sheet.{Finished, job, report_of, DemandOf}
use Rattle.est_times.specs.Stages.{BuiltAs, sheet_nodes}
use Rattle.est_times.proofs.Accepts.{places_fit}
use Rattle.est_times.proofs.Networks.{Sound, sound, zero_room}
use Rattle.est_times.proofs.Finished.{FinishedBy, job_finished}

-- the arcs that the growth rule notes, and its runs
noted_by_lem : (b : List ℕ) (z : Sizes) (g : Grown) → Sound b z g → Noted b g.noted g.runs
noted_by_lem b z g s = record {
  places = places_in z;
  table = zero_table z;
  room = zero_room b z;
  grown = g;
  grows = s.grows;
  is = refl;
  runs_are = refl;
  alone = λ others other h room e. let o = one_growth b (places_in z) others (zero_table z) other g h s.read (zero_room b z) room s.grows e in (o.noted, o.runs);
}

module _ (b : List ℕ) (z : Sizes) (f : Finished) (d : FinishedBy b (network b z) f) where
  whole : Sound b z f.grown
  whole = sound b z f.grown d.network_given

  sheet : SheetWell b (places_in z) f.grown f.timed
  sheet = sheet_well b (places_in z) (zero_table z) f.grown whole.read (zero_room b z) whole.grows (departure b) f.timed d.passes_given

  made : (t : Table) → ((i : ℕ) → i < f.grown.nodes → at t i ≡ at f.timed i) → Demand b t (report_of f.grown)
  made t ag = record {
    noted = f.grown.noted;
    runs = f.grown.runs;
    rule = noted_by_lem b z f.grown whole;
    arcs = lent_arcs b (places_in z) f.grown f.timed (at t) sheet ag;
    as_many = lent_many b (places_in z) f.grown f.timed (at t) sheet ag;
    ends = lent_ends b (places_in z) f.grown f.timed (at t) sheet ag;
    taken = lent_taken b (places_in z) f.grown f.timed (at t) sheet ag;
    of_runs = lent_of_runs b (places_in z) f.grown f.timed (at t) sheet ag;
    counted = sheet.counted;
    balanced = sheet.balanced;
    ended = sheet.ended;
  }

pub final_demand : (b : List ℕ) (z : Sizes) (built : Table) (r : Result Report Refusal) → BuiltAs (job b z) built r → length built.floats ≡ z.floats → length built.numbers ≡ z.numbers
    → (k : ℕ) → k ≡ sheet_nodes r → (t : Table) → t.floats ≡ floats_kept k built.floats (length built.floats) → t.numbers ≡ numbers_kept k built.numbers (length built.numbers) → DemandOf b t r
final_demand b z built r made_as lf lu k e t p q = go (job b z) refl made_as
  where
    go : (j : Answer Finished) → job b z ≡ j → BuiltAs j built r → DemandOf b t r
    go (refused x) d h = none r h
      where
        none : (y : Result Report Refusal) → told y ≡ refused x → DemandOf b t y
        none (Ok y) q = absurd (cc)
        none (Err y) q = tt
    go (given f) d h = subst (DemandOf b t) (sym h.0) (made b z f c t agree)
      where
        c : FinishedBy b (network b z) f
        c = job_finished b z f d

        nodes : k ≡ f.grown.nodes
        nodes = e ∙ ap sheet_nodes h.0

        inside : k ≤ places_in z
        inside = let i = (sound b z f.grown c.network_given).whole.inside in let m = nodes in omega arith

        agree : (i : ℕ) → i < f.grown.nodes → at t i ≡ at f.timed i
        agree i l =
            let fits = places_fit z.floats z.numbers in
            kept_node k built t p q (omega (arith, inside, fits.0)) (omega (arith, inside, fits.1)) i (omega (arith, nodes))
            ∙ ap (λ (x : Table). at x i) h.1
