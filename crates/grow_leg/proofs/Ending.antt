-- The end of a leg: the run finishes or goes on, over one link or over both.
use mathlib.Core.Path.{◌≡◌, sym, ap, ◌∙◌, subst}
use mathlib.Core.Logic.{◌≢◌}
use mathlib.Core.Bool.{Bool, true, false, ◌&&◌}
use mathlib.Core.List.{List}
use Prim.Native.Nat.{ℕ, ◌-◌, ◌≤◌, ◌<◌}
use native.Mathlib.Omega.{arith}
use lib.Dec.{eqb, ltb}
use lib.ListN.{length}
use lib.Ieee.{Float}
use Rattle.laws.specs.Answer.{Answer, refused, and_then}
use Rattle.book_format.specs.declared.Leg.{Leg}
use Rattle.book_format.specs.Format.{links, legs, leg_at, leg_parent, link_next, link_next_alt}
use Rattle.book_format.specs.Rows.{row5}
use Rattle.book_format.proofs.Given.{leg_link_lem, leg_parent_lem, leg_named}
use Rattle.book_options.specs.Options.{in_set}
use Rattle.net_join_paths.specs.declared.EstJoinPath.{EstJoinPath}
use Rattle.grow_path.specs.Path.{link_of}
use Rattle.grow_rules.specs.Run.{Net, Run}
use Rattle.grow_rules.specs.Growth.{Growth, on_over, save_over, go_on, on_as, is_destination, finishes, finish_as}
use Rattle.grow_rules.specs.Growth.{bad_finish, leg_end_as}
use Rattle.grow_state.specs.declared.Plan.{Plan}
use Rattle.grow_state.specs.declared.Front.{Front}
use Rattle.grow_state.specs.declared.Rest.{Rest}
use Rattle.grow_state.specs.declared.State.{State}
use Rattle.std.specs.Prelude.{Result, Ok, Err}
use Rattle.refusals.specs.declared.Refusal.{Refusal}
use Rattle.refusals.specs.Refusals.{refusal_number}
use Rattle.grow_state.specs.Held.{PlanIn, TurnedAs, lists}
use Rattle.grow_leg.specs.declared.Ways.{Ways}
use Rattle.grow_leg.specs.declared.Ways.TheVariants.{One, Both}
use Rattle.grow_leg.specs.OneLeg.{AtEnd, Free, SavedOver, SavedAs, SomeLeg, ways_as}
use Rattle.grow_leg.proofs.GoingOn.{front_leg, front_some}
use Rattle.grow_leg.proofs.Choosing.{go_none, go_one, go_both, both_are}
use Rattle.book_legs.proofs.Found.{next_other}

-- ---- the link of a leg

pub link_named : (b : List ℕ) → row5 b ≡ false → (j : ℕ) → 0 < j → j ≤ legs b → link_of b j < links b
unfolding link_of
link_named b h j o l = leg_named b h (j - 1) (omega arith)

pub front_link : {b : List ℕ} {p : Plan} {fs : List Float} {us : List ℕ} {reals : List Float} {cells : List ℕ}
    {joins : List EstJoinPath} {g : Rest} {front : Front} {net : Net} {run : Run} {rest : List Run}
    → PlanIn b p (length reals) → AtEnd b p (lists fs us reals cells joins) g front net run rest → (link : ℕ)
    → link ≡ link_of b front.leg → link < links b
front_link {b} {front = front} plan a link e =
    subst (λ (l : ℕ). l < links b) (sym e) (link_named b plan.readable.indices front.leg (front_some plan a)
    (front_leg plan a))

-- ---- going on

module _ {b : List ℕ} {p : Plan} {fs : List Float} {us : List ℕ} {reals : List Float} {cells : List ℕ}
    {joins : List EstJoinPath} {g : Rest} {front : Front} {net : Net} {run : Run} {rest : List Run}
    (a : AtEnd b p (lists fs us reals cells joins) g front net run rest) (link : ℕ) (here : link ≡ link_of b front.leg)
    (w : Result Ways Refusal)
    (told : w ≡ ways_as (eqb (link_next b link) 0) (in_set b (link_next b link)) (in_set b (link_next_alt b link))
    (link_next b link) (link_next_alt b link)) where
  go_is : go_on b p.w.places net run rest ≡ on_as (eqb (link_next b link) 0) (in_set b (link_next b link))
      (in_set b (link_next_alt b link)) b p.w.places net run (link_next b link) (link_next_alt b link) rest
  unfolding go_on
  go_is =
      ap (λ (l : ℕ). on_as (eqb (link_next b l) 0) (in_set b (link_next b l))
      (in_set b (link_next_alt b l)) b p.w.places net run (link_next b l) (link_next_alt b l) rest)
      (ap (link_of b) a.front.moves.leg ∙ sym here)

  pub goes_nowhere : (r : Refusal) → w ≡ Err r → go_on b p.w.places net run rest ≡ refused (refusal_number r)
  goes_nowhere r e = go_is ∙ go_none b p.w.places net run rest (link_next b link) (link_next_alt b link)
      (eqb (link_next b link) 0) (in_set b (link_next b link)) (in_set b (link_next_alt b link)) r (sym e ∙ told)

  pub goes_on_lem : (x : ℕ) → w ≡ Ok (One x) → (reals' : List Float) (cells' : List ℕ) (r : Result State Refusal)
      → TurnedAs (on_over b net run x rest) b p (lists fs us reals' cells' joins) r
      → TurnedAs (go_on b p.w.places net run rest) b p (lists fs us reals' cells' joins) r
  goes_on_lem x e reals' cells' r t =
      subst (λ (y : Answer Growth). TurnedAs y b p (lists fs us reals' cells' joins) r)
      (sym (go_is ∙ go_one b p.w.places net run rest (link_next b link) (link_next_alt b link)
      (eqb (link_next b link) 0) (in_set b (link_next b link)) (in_set b (link_next_alt b link)) x (sym e ∙ told))) t

  -- over both
  module _ (x y : ℕ) (both : w ≡ Ok (Both x y)) where
    fork_is : go_on b p.w.places net run rest ≡ and_then (save_over b p.w.places run y rest) (on_over b net run x)
    fork_is = go_is ∙ go_both b p.w.places net run rest (link_next b link) (link_next_alt b link)
        (eqb (link_next b link) 0) (in_set b (link_next b link)) (in_set b (link_next_alt b link)) x y (sym both ∙ told)

    pub fork_apart : row5 b ≡ false → link < links b → x ≢ y
    fork_apart h l e =
        let f = both_are (eqb (link_next b link) 0) (in_set b (link_next b link)) (in_set b (link_next_alt b link))
        (link_next b link) (link_next_alt b link) x y (sym both ∙ told) in
        next_other b h link l f.some (sym f.first ∙ e ∙ f.second)

    module _ (reals' : List Float) (cells' : List ℕ) (s : Result Rest Refusal)
        (saved : SavedAs (save_over b p.w.places run y rest) b p
        (lists fs us reals' cells' joins) net run rest y front s) where
      pub fork_refused : (k : Refusal) → s ≡ Err k → go_on b p.w.places net run rest ≡ refused (refusal_number k)
      fork_refused k e = fork_is ∙ ap (λ (z : Answer (List Run)). and_then z (on_over b net run x))
          (subst (SavedAs (save_over b p.w.places run y rest) b p
          (lists fs us reals' cells' joins) net run rest y front) e saved)

      pub fork_saved : (h : Rest) → s ≡ Ok h → SavedOver (save_over b p.w.places run y rest) b p
          (lists fs us reals' cells' joins) h front net run rest y
      fork_saved h e = subst (SavedAs (save_over b p.w.places run y rest) b p
          (lists fs us reals' cells' joins) net run rest y front) e saved

      -- the first link is free still
      pub fork_free : row5 b ≡ false → link < links b → ((l : ℕ) → Free b run rest l) → (h : Rest) (e : s ≡ Ok h)
          → Free b run (fork_saved h e).more x
      fork_free k l f h e = (fork_saved h e).free x (fork_apart k l) (f x)

      pub fork_goes : (h : Rest) (e : s ≡ Ok h) (r : Result State Refusal)
          → TurnedAs (on_over b net run x (fork_saved h e).more) b p (lists fs us reals' cells' joins) r
          → TurnedAs (go_on b p.w.places net run rest) b p (lists fs us reals' cells' joins) r
      fork_goes h e r t =
          subst (λ (z : Answer Growth). TurnedAs z b p (lists fs us reals' cells' joins) r)
          (sym (fork_is ∙ ap (λ (z : Answer (List Run)). and_then z (on_over b net run x)) (fork_saved h e).is)) t

      pub fork_leg : PlanIn b p (length reals') → (h : Rest) → s ≡ Ok h → SomeLeg b cells' p h front
      fork_leg plan h e = let v = fork_saved h e in
          record {
            reals = reals';
            joins = joins;
            plan = plan;
            ends = record { fs = fs; us = us; ends = record { net = net; run = run; rest = v.more; ends = v.ends } };
          }

-- ---- the end

module _ {b : List ℕ} {p : Plan} {fs : List Float} {us : List ℕ} {reals : List Float} {cells : List ℕ}
    {joins : List EstJoinPath} {g : Rest} {front : Front} {net : Net} {run : Run} {rest : List Run}
    (a : AtEnd b p (lists fs us reals cells joins) g front net run rest) {b' : List ℕ} (same : b' ≡ b) (leg : Leg)
    (read : leg ≡ leg_at b' (front.leg - 1)) where
  is : leg ≡ leg_at b (front.leg - 1)
  is = read ∙ ap (λ (x : List ℕ). leg_at x (front.leg - 1)) same

  pub end_link : leg.link_idx ≡ link_of b front.leg
  unfolding link_of
  end_link = leg_link_lem b (front.leg - 1) leg is

  module _ (there : Bool) (sought : there ≡ is_destination b' leg.link_idx) where
    told : there ≡ is_destination b leg.link_idx
    told = sought ∙ ap (λ (x : List ℕ). is_destination x leg.link_idx) same

    finishes_is : (there && ltb 0 leg.parent) ≡ finishes b run.leg
    unfolding finishes
    finishes_is =
        ap (λ (t : Bool). t && ltb 0 leg.parent) (told ∙ ap (is_destination b) end_link)
        ∙ ap (λ (n : ℕ). is_destination b (link_of b front.leg) && ltb 0 n) (leg_parent_lem b (front.leg - 1) leg is)
        ∙ ap (λ (j : ℕ). is_destination b (link_of b j) && ltb 0 (leg_parent b (j - 1))) (sym a.front.moves.leg)

    module _ (reals' : List Float) (cells' : List ℕ) (r : Result State Refusal) where
      abbrev Ended : Bool → Type 0
      Ended t = TurnedAs (leg_end_as t b p.w.places (record { net = net; run = run }) rest) b p
          (lists fs us reals' cells' joins) r

      pub end_finishes : (there && ltb 0 leg.parent) ≡ true
          → TurnedAs (finish_as (bad_finish net run) net run rest) b p (lists fs us reals' cells' joins) r
          → Ended (finishes b run.leg)
      end_finishes e t = subst Ended (sym e ∙ finishes_is) t

      pub end_goes : (there && ltb 0 leg.parent) ≡ false
          → TurnedAs (go_on b p.w.places net run rest) b p (lists fs us reals' cells' joins) r
          → Ended (finishes b run.leg)
      end_goes e t = subst Ended (sym e ∙ finishes_is) t
