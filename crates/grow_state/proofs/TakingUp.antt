-- Taking up the run that was saved last.
use mathlib.Core.Path.{◌≡◌, sym, ap, ◌∙◌, subst}
use mathlib.Core.Bool.{false}
use Rattle.std.specs.Prelude.{Some}
use mathlib.Core.List.{List, [], ◌∷◌}
use Prim.Native.Nat.{ℕ, ◌-◌, ◌≤◌, ◌<◌}
use native.Mathlib.Omega.{arith}
use lib.ListN.{length}
use lib.Ieee.{Float}
use Rattle.net_join_paths.specs.declared.EstJoinPath.{EstJoinPath}
use Rattle.net_join_paths.specs.Entries.{Valid}
use Rattle.net_insertion.specs.declared.Place.{Place}
use Rattle.grow_waiting.specs.declared.rooms.Rooms.{Rooms}
use Rattle.grow_waiting.specs.declared.Popped.{Popped}
use Rattle.grow_waiting.specs.Held.{Waiting, SavedIn, SomeWaits, PoppedAs}
use Rattle.grow_waiting.proofs.Kept.{saved_rest}
use Rattle.grow_rules.specs.Run.{Net, Run}
use Rattle.grow_state.specs.declared.Plan.{Plan}
use Rattle.grow_state.specs.declared.Rest.{Rest}
use Rattle.grow_state.specs.declared.State.{State}
use Rattle.grow_state.specs.Held.{AllSound, SameRuns, WaitIn, RunsIn, DriveIn, SomeDrive, idle, lists}

-- the state with a popped run at the front, which has `count` entries
abbrev pub taken_up : Rest → Popped → ℕ → State
taken_up g p count = record {
  rest = record { counts = g.counts; top = p.below; used = g.used - count };
  front = Some (record { mover = record { place = p.place; has_split = false }; leg = p.leg; depth = p.depth });
}

module _ {r : Rooms} {reals : List Float} {cells : List ℕ} (top used : ℕ) (some : 0 < top) where
  -- a run waits
  some_waits : (b : List ℕ) (n : ℕ) (ws : List Waiting) (rs : List Run) → SavedIn cells reals r top used ws
      → SameRuns b ws rs → AllSound b n rs → SomeWaits cells reals r top used
  some_waits b n [] rs h s v = absurd (omega (arith, h.0))
  some_waits b n (w ∷ ws) [] h s v = absurd s
  some_waits b n (w ∷ ws) (run ∷ rs) h s v = record {
    run = w;
    runs = ws;
    saved = h;
    few = subst (λ (es : List EstJoinPath). length es ≤ 1024) (sym s.0.joins) v.0.few;
  }

  -- its entries are among those that wait
  few_waits : SomeWaits cells reals r top used → (list : List EstJoinPath) (p : Popped)
      → ((w : Waiting) (ws : List Waiting) → SavedIn cells reals r top used (w ∷ ws) → PoppedAs w ws list p)
      → length list ≤ used
  few_waits s list p f = let a = f s.run s.runs s.saved in omega (arith, ap length a.entries, s.saved.1.0)

module _ {b : List ℕ} {p : Plan} {fs : List Float} {us : List ℕ} {reals : List Float} {cells : List ℕ}
    {joins : List EstJoinPath} {path : List ℕ} {g : Rest} {net : Net} {runs : List Run}
    (d : DriveIn b p (lists fs us reals cells joins) path (idle g) net runs) (some : 0 < g.top) where
  waits : WaitIn b p.r reals cells g.top g.used runs
  waits = d.waiting

  pub pops : SomeWaits cells reals p.r g.top g.used
  pops = some_waits g.top g.used some b g.counts.nodes waits.runs runs waits.kept waits.same d.sound

  module _ (list : List EstJoinPath) (count : ℕ) (n : count ≡ length list) (q : Popped)
      (f : (w : Waiting) (ws : List Waiting) → SavedIn cells reals p.r g.top g.used (w ∷ ws)
      → PoppedAs w ws list q) where
    up : (ws : List Waiting) (rs : List Run) → SavedIn cells reals p.r g.top g.used ws → SameRuns b ws rs
        → AllSound b g.counts.nodes rs → RunsIn (taken_up g q count).front b p.r reals cells list
        (taken_up g q count).rest rs
    up [] rs h s v = absurd (omega (arith, h.0))
    up (w ∷ ws) [] h s v = absurd s
    up (w ∷ ws) (run ∷ rs) h s v =
        let a = f w ws h in
        let e : run.joins ≡ list = sym (a.entries ∙ s.0.joins) in (
          record {
            moves = record {
              place = sym (a.place ∙ s.0.place);
              leg = sym (a.leg ∙ s.0.leg);
              has_split = s.0.has_split;
              joins = e;
              few = subst (λ (es : List EstJoinPath). length es ≤ 1024) e v.0.few;
              valid = subst (λ (es : List EstJoinPath). Valid es g.counts.nodes) e v.0.valid;
              stands = subst (λ (x : Place). x.idx_prev < g.counts.nodes) (sym (a.place ∙ s.0.place)) v.0.stands;
            };
            depth = a.depth ∙ s.0.depth;
          },
          record {
            runs = ws;
            kept = subst (λ (m : ℕ). SavedIn cells reals p.r q.below (g.used - m) ws) (sym n)
                (saved_rest cells reals p.r g.top g.used w ws list q a h);
            same = s.1;
          },
        )

    pub taken_up_lem : DriveIn b p (lists fs us reals cells list) path (taken_up g q count) net runs
    taken_up_lem = record {
      grown = d.grown;
      chained = d.chained;
      kept = d.kept;
      short = d.short;
      waiting = up waits.runs runs waits.kept waits.same d.sound;
      sound = d.sound;
      prefixes = d.prefixes;
      separate = d.separate;
    }

-- the same from what the function asks
module _ {p : Plan} {reals : List Float} {cells : List ℕ} {joins : List EstJoinPath} {g : Rest}
    (s : SomeDrive p reals cells joins (idle g)) (some : 0 < g.top) where
  pub drive_pops : SomeWaits cells reals p.r g.top g.used
  drive_pops = pops s.driving.holds some

  pub drive_few : (list : List EstJoinPath) (q : Popped)
      → ((w : Waiting) (ws : List Waiting) → SavedIn cells reals p.r g.top g.used (w ∷ ws) → PoppedAs w ws list q)
      → length list ≤ g.used
  drive_few = few_waits g.top g.used some drive_pops
