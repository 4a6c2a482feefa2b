-- Laws of the runs that wait: their entries on the stack, what a change elsewhere leaves of them, and what saving one
-- gives.
use mathlib.Core.Path.{◌≡◌, refl, sym, ap, ◌∙◌, subst}
use mathlib.Core.Logic.{◌≢◌}
use mathlib.Core.List.{List, [], ◌∷◌, ◌++◌}
use Prim.Native.Nat.{ℕ, zero, suc, ◌+◌, ◌-◌, ◌*◌, ◌≤◌, ◌<◌}
use native.Mathlib.Omega.{arith}
use lib.ListN.{length, get_or, set, take, length-set, length-append}
use lib.Seq.{get_or-set_same, get_or-set_other}
use Rattle.std.proofs.lemmas.List.{take_more, length-take-le}
use lib.Ieee.{Float, nan}
use Rattle.net_insertion.specs.declared.Place.{Place}
use Rattle.net_join_paths.specs.declared.EstJoinPath.{EstJoinPath}
use Rattle.grow_waiting.specs.declared.rooms.Rooms.{Rooms}
use Rattle.grow_waiting.specs.Held.{Waiting, EntriesFrom, RunKept, Untaken, top_of, SavedIn, waiting_of, SavedElsewhere}
use Rattle.grow_waiting.specs.Steps.{EntriesPushed}

-- ---- entries on the stack

-- cells that say the same of them
entries_same : (c c' : List ℕ) (w : Rooms) (k : ℕ) (xs : List EstJoinPath)
    → ((i t : ℕ) → k ≤ i → i < k + length xs → 3 ≤ t → t < 5
    → get_or c' (w.nodes_at + i * 8 + t) 0 ≡ get_or c (w.nodes_at + i * 8 + t) 0)
    → EntriesFrom c w k xs → EntriesFrom c' w k xs
entries_same c c' w k [] s h = tt
entries_same c c' w k (x ∷ xs) s h = (
  s k 3 (omega arith) (omega arith) (omega arith) (omega arith) ∙ h.0,
  (
    s k 4 (omega arith) (omega arith) (omega arith) (omega arith) ∙ h.1.0,
    entries_same c c' w (suc k) xs (λ i t a b p q. s i t (omega arith) (omega arith) p q) h.1.1,
  ),
)

-- one more behind them
entries_snoc : (c : List ℕ) (w : Rooms) (k : ℕ) (xs : List EstJoinPath) (x : EstJoinPath) (n : ℕ) → n ≡ k + length xs
    → EntriesFrom c w k xs
    → get_or c (w.nodes_at + n * 8 + 3) 0 ≡ x.link_idx_match → get_or c (w.nodes_at + n * 8 + 4) 0 ≡ x.est_idx_next
    → EntriesFrom c w k (xs ++ (x ∷ []))
entries_snoc c w k [] x n e h a b =
    let d : k ≡ n = omega arith in (
      ap (λ (i : ℕ). get_or c (w.nodes_at + i * 8 + 3) 0) d ∙ a,
      (ap (λ (i : ℕ). get_or c (w.nodes_at + i * 8 + 4) 0) d ∙ b, tt),
    )
entries_snoc c w k (y ∷ xs) x n e h a b = (h.0, (h.1.0, entries_snoc c w (suc k) xs x n (omega arith) h.1.1 a b))

module _ (c : List ℕ) (w : Rooms) (i : ℕ) (x : EstJoinPath) where
  abbrev half : List ℕ
  half = set c (w.nodes_at + i * 8 + 3) x.link_idx_match

  -- the cells with an entry at i
  abbrev pub atop : List ℕ
  atop = set half (w.nodes_at + i * 8 + 4) x.est_idx_next

  atop_other : (q : ℕ) → q ≢ w.nodes_at + i * 8 + 3 → q ≢ w.nodes_at + i * 8 + 4 → get_or atop q 0 ≡ get_or c q 0
  atop_other q a b = get_or-set_other half (w.nodes_at + i * 8 + 4) q x.est_idx_next 0 b
      ∙ get_or-set_other c (w.nodes_at + i * 8 + 3) q x.link_idx_match 0 a

  atop_match : w.nodes_at + i * 8 + 8 ≤ length c → get_or atop (w.nodes_at + i * 8 + 3) 0 ≡ x.link_idx_match
  atop_match l =
      get_or-set_other half (w.nodes_at + i * 8 + 4) (w.nodes_at + i * 8 + 3) x.est_idx_next 0
      (λ (d : w.nodes_at + i * 8 + 3 ≡ w.nodes_at + i * 8 + 4). omega arith)
      ∙ get_or-set_same c (w.nodes_at + i * 8 + 3) x.link_idx_match 0 (omega arith)

  atop_node : w.nodes_at + i * 8 + 8 ≤ length c → get_or atop (w.nodes_at + i * 8 + 4) 0 ≡ x.est_idx_next
  atop_node l = get_or-set_same half (w.nodes_at + i * 8 + 4) x.est_idx_next 0
      (omega (arith, length-set c (w.nodes_at + i * 8 + 3) x.link_idx_match))

-- the entry at k, put behind those before it
module _ {c c' : List ℕ} {w : Rooms} {used : ℕ} (xs : List EstJoinPath) (k : ℕ) where
  pub pushed_on : EntriesPushed c c' w used (take k xs) → k < length xs → used + length xs ≤ w.places
      → w.nodes_at + w.places * 8 ≤ length c' → (ys : List EstJoinPath) (d : EstJoinPath) → ys ≡ xs
      → EntriesPushed c (atop c' w (used + k) (get_or ys k d)) w used (take (k + 1) xs)
  pushed_on v h g l ys d e =
      let x : EstJoinPath = get_or ys k d in
      let n : length (take k xs) ≡ k = length-take-le k xs (omega arith) in
      let m : length (take (k + 1) xs) ≡ k + 1 = length-take-le (k + 1) xs (omega arith) in
      let s : EntriesFrom (atop c' w (used + k) x) w used (take k xs) =
      entries_same c' (atop c' w (used + k) x) w used (take k xs)
      (λ i t a b p q. atop_other c' w (used + k) x (w.nodes_at + i * 8 + t)
      (λ (d : w.nodes_at + i * 8 + t ≡ w.nodes_at + (used + k) * 8 + 3). omega arith)
      (λ (d : w.nodes_at + i * 8 + t ≡ w.nodes_at + (used + k) * 8 + 4). omega arith))
      v.there in
      record {
        there =
            subst (EntriesFrom (atop c' w (used + k) x) w used)
            (sym (take_more xs k d h ∙ ap (λ (zs : List EstJoinPath). take k xs ++ (get_or zs k d ∷ [])) (sym e)))
            (entries_snoc (atop c' w (used + k) x) w used (take k xs) x (used + k) (omega arith) s
            (atop_match c' w (used + k) x (omega arith)) (atop_node c' w (used + k) x (omega arith)));
        elsewhere = λ q h.
            atop_other c' w (used + k) x q (h (used + k) 3 (omega arith) (omega arith) (omega arith) (omega arith))
            (h (used + k) 4 (omega arith) (omega arith) (omega arith) (omega arith))
            ∙ v.elsewhere q (λ i t a b p r. h i t a (omega arith) p r);
      }

-- ---- entries as they are read

-- the entry at i of the stack
abbrev pub read_at : List ℕ → Rooms → ℕ → EstJoinPath
read_at c w i = record {
  link_idx_match = get_or c (w.nodes_at + i * 8 + 3) 0;
  est_idx_next = get_or c (w.nodes_at + i * 8 + 4) 0;
}

entry_there : (c : List ℕ) (w : Rooms) (k : ℕ) (xs : List EstJoinPath) (i : ℕ) (d : EstJoinPath) → i < length xs
    → EntriesFrom c w k xs → read_at c w (k + i) ≡ get_or xs i d
entry_there c w k [] i d h e = absurd (omega arith)
entry_there c w k (x ∷ xs) zero d h e =
    let a : get_or c (w.nodes_at + k * 8 + 3) 0 ≡ x.link_idx_match = e.0 in
    let b : get_or c (w.nodes_at + k * 8 + 4) 0 ≡ x.est_idx_next = e.1.0 in
    let z : k + 0 ≡ k = omega arith in
    ap (read_at c w) z ∙ (λ t. record { link_idx_match = a t; est_idx_next = b t })
entry_there c w k (x ∷ xs) (suc i) d h e =
    let z : k + suc i ≡ suc k + i = omega arith in
    ap (read_at c w) z ∙ entry_there c w (suc k) xs i d (omega arith) e.1.1

-- the entries from `from` on, copied into a list up to the one at k
pub record Copied (c : List ℕ) (w : Rooms) (from count k : ℕ) (list : List EstJoinPath) : Type 0 where
  pub many : from + length list ≡ k
  pub entries : (xs : List EstJoinPath) → EntriesFrom c w from xs → length xs ≡ count → list ≡ take (length list) xs

module _ {c : List ℕ} {w : Rooms} {from count k : ℕ} {list : List EstJoinPath} (v : Copied c w from count k list) where
  pub copied_on : k < from + count → (list' : List EstJoinPath) → list' ≡ list ++ (read_at c w k ∷ [])
      → Copied c w from count (k + 1) list'
  copied_on h list' z = subst (Copied c w from count (k + 1)) (sym z)
      (record { many = omega (arith, n, v.many); entries = λ xs e l. behind xs e l })
    where
      n : length (list ++ (read_at c w k ∷ [])) ≡ length list + 1
      n = length-append list (read_at c w k ∷ [])

      behind : (xs : List EstJoinPath) → EntriesFrom c w from xs → length xs ≡ count
          → list ++ (read_at c w k ∷ []) ≡ take (length (list ++ (read_at c w k ∷ []))) xs
      behind xs e l =
          let r : read_at c w (from + length list) ≡ get_or xs (length list) (read_at c w k) =
          entry_there c w from xs (length list) (read_at c w k) (omega (arith, v.many)) e in
          ap (λ (ys : List EstJoinPath). ys ++ (read_at c w k ∷ [])) (v.entries xs e l)
          ∙ ap (λ (x : EstJoinPath). take (length list) xs ++ (x ∷ [])) (ap (read_at c w) (sym v.many) ∙ r)
          ∙ sym (take_more xs (length list) (read_at c w k) (omega (arith, v.many)))
          ∙ ap (λ (i : ℕ). take i xs) (sym n)

-- ---- a change that leaves runs as they are

-- cells and reals that say the same of every leg but one, and of the first `used` entries
pub record Steady (c c' : List ℕ) (r r' : List Float) (w : Rooms) (leg used : ℕ) : Type 0 where
  pub fields : (j k : ℕ) → 0 < j → j ≤ w.legs → leg ≢ j → 4 ≤ k → k < 8
      → get_or c' (j * 8 + k) 0 ≡ get_or c (j * 8 + k) 0
  pub times : (j : ℕ) → 0 < j → j ≤ w.legs → leg ≢ j
      → get_or r' (w.pairs_at + j * 2) nan ≡ get_or r (w.pairs_at + j * 2) nan
  pub offsets : (j : ℕ) → 0 < j → j ≤ w.legs → leg ≢ j
      → get_or r' (w.pairs_at + j * 2 + 1) nan ≡ get_or r (w.pairs_at + j * 2 + 1) nan
  pub entries : (i k : ℕ) → i < used → 3 ≤ k → k < 5
      → get_or c' (w.nodes_at + i * 8 + k) 0 ≡ get_or c (w.nodes_at + i * 8 + k) 0

module _ {c c' : List ℕ} {r r' : List Float} {w : Rooms} {leg bound : ℕ} (s : Steady c c' r r' w leg bound) where
  kept_still : (below used : ℕ) (run : Waiting) → leg ≢ run.leg → used + length run.joins ≤ bound
      → RunKept c r w below used run → RunKept c' r' w below used run
  kept_still below used run a b v =
      let o = v.real in
      let l = v.inside in
      record {
        real = o;
        inside = l;
        place = s.fields run.leg 4 o l a (omega arith) (omega arith) ∙ v.place;
        depth = s.fields run.leg 5 o l a (omega arith) (omega arith) ∙ v.depth;
        count = s.fields run.leg 6 o l a (omega arith) (omega arith) ∙ v.count;
        next = s.fields run.leg 7 o l a (omega arith) (omega arith) ∙ v.next;
        time = s.times run.leg o l a ∙ v.time;
        offset = s.offsets run.leg o l a ∙ v.offset;
        entries = entries_same c c' w used run.joins (λ i t p q f g. s.entries i t (omega arith) f g) v.entries;
        fits = v.fits;
      }

  pub saved_still : (top used : ℕ) (runs : List Waiting) → used ≤ bound → Untaken leg runs → SavedIn c r w top used runs
      → SavedIn c' r' w top used runs
  saved_still top used [] b a h = h
  saved_still top used (run ∷ runs) b a h = (
    h.0,
    (
      h.1.0,
      (
        h.1.1.0,
        (
          kept_still (top_of runs) (used - length run.joins) run a.0 (omega (arith, h.1.0)) h.1.1.1.0,
          saved_still (top_of runs) (used - length run.joins) runs (omega arith) a.1 h.1.1.1.1,
        ),
      ),
    ),
  )

-- ---- a run is saved

top_is : (c : List ℕ) (r : List Float) (w : Rooms) (top used : ℕ) (runs : List Waiting) → SavedIn c r w top used runs
    → top ≡ top_of runs
top_is c r w top used [] h = h.0
top_is c r w top used (run ∷ runs) h = h.0

-- what saving a run asks for
pub record Saving (c : List ℕ) (r : List Float) (w : Rooms) (top used : ℕ) (place : Place) (leg depth : ℕ)
    (joins : List EstJoinPath) (count : ℕ) : Type 0 where
  pub counted : count ≡ length joins
  pub nodes_inside : w.nodes_at + w.places * 8 ≤ length c
  pub pairs_inside : w.pairs_at + w.legs * 2 + 2 ≤ length r
  pub inside : leg ≤ w.legs
  pub real : 0 < leg
  pub entries_inside : used + count ≤ w.places

module _ {c : List ℕ} {r : List Float} {w : Rooms} {top used : ℕ} {place : Place} {leg depth : ℕ}
    {joins : List EstJoinPath} {count : ℕ} (f : Saving c r w top used place leg depth joins count) where
  abbrev c1 : List ℕ
  c1 = set c (leg * 8 + 4) place.idx_prev

  abbrev c2 : List ℕ
  c2 = set c1 (leg * 8 + 5) depth

  abbrev c3 : List ℕ
  c3 = set c2 (leg * 8 + 6) count

  -- the cells with the run's four fields
  abbrev pub c4 : List ℕ
  c4 = set c3 (leg * 8 + 7) top

  abbrev r1 : List Float
  r1 = set r (w.pairs_at + leg * 2) place.time_to_next

  -- the reals with its pair
  abbrev pub r2 : List Float
  r2 = set r1 (w.pairs_at + leg * 2 + 1) place.dist_to_next

  n1 : length c1 ≡ length c
  n1 = length-set c (leg * 8 + 4) place.idx_prev

  n2 : length c2 ≡ length c
  n2 = length-set c1 (leg * 8 + 5) depth ∙ n1

  n3 : length c3 ≡ length c
  n3 = length-set c2 (leg * 8 + 6) count ∙ n2

  four_other : (q : ℕ) → ((k : ℕ) → 4 ≤ k → k < 8 → q ≢ leg * 8 + k) → get_or c4 q 0 ≡ get_or c q 0
  four_other q h =
      get_or-set_other c3 (leg * 8 + 7) q top 0 (h 7 (omega arith) (omega arith))
      ∙ get_or-set_other c2 (leg * 8 + 6) q count 0 (h 6 (omega arith) (omega arith))
      ∙ get_or-set_other c1 (leg * 8 + 5) q depth 0 (h 5 (omega arith) (omega arith))
      ∙ get_or-set_other c (leg * 8 + 4) q place.idx_prev 0 (h 4 (omega arith) (omega arith))

  two_other : (q : ℕ) → q ≢ w.pairs_at + leg * 2 → q ≢ w.pairs_at + leg * 2 + 1 → get_or r2 q nan ≡ get_or r q nan
  two_other q a b =
      get_or-set_other r1 (w.pairs_at + leg * 2 + 1) q place.dist_to_next nan b
      ∙ get_or-set_other r (w.pairs_at + leg * 2) q place.time_to_next nan a

  -- the four fields
  is_place : get_or c4 (leg * 8 + 4) 0 ≡ place.idx_prev
  is_place =
      get_or-set_other c3 (leg * 8 + 7) (leg * 8 + 4) top 0 (λ (d : leg * 8 + 4 ≡ leg * 8 + 7). omega arith)
      ∙ get_or-set_other c2 (leg * 8 + 6) (leg * 8 + 4) count 0 (λ (d : leg * 8 + 4 ≡ leg * 8 + 6). omega arith)
      ∙ get_or-set_other c1 (leg * 8 + 5) (leg * 8 + 4) depth 0 (λ (d : leg * 8 + 4 ≡ leg * 8 + 5). omega arith)
      ∙ get_or-set_same c (leg * 8 + 4) place.idx_prev 0 (omega (arith, f.nodes_inside, w.legs_before, f.inside))

  is_depth : get_or c4 (leg * 8 + 5) 0 ≡ depth
  is_depth =
      get_or-set_other c3 (leg * 8 + 7) (leg * 8 + 5) top 0 (λ (d : leg * 8 + 5 ≡ leg * 8 + 7). omega arith)
      ∙ get_or-set_other c2 (leg * 8 + 6) (leg * 8 + 5) count 0 (λ (d : leg * 8 + 5 ≡ leg * 8 + 6). omega arith)
      ∙ get_or-set_same c1 (leg * 8 + 5) depth 0 (omega (arith, n1, f.nodes_inside, w.legs_before, f.inside))

  is_count : get_or c4 (leg * 8 + 6) 0 ≡ count
  is_count =
      get_or-set_other c3 (leg * 8 + 7) (leg * 8 + 6) top 0 (λ (d : leg * 8 + 6 ≡ leg * 8 + 7). omega arith)
      ∙ get_or-set_same c2 (leg * 8 + 6) count 0 (omega (arith, n2, f.nodes_inside, w.legs_before, f.inside))

  is_next : get_or c4 (leg * 8 + 7) 0 ≡ top
  is_next = get_or-set_same c3 (leg * 8 + 7) top 0 (omega (arith, n3, f.nodes_inside, w.legs_before, f.inside))

  is_time : get_or r2 (w.pairs_at + leg * 2) nan ≡ place.time_to_next
  is_time =
      get_or-set_other r1 (w.pairs_at + leg * 2 + 1) (w.pairs_at + leg * 2) place.dist_to_next nan
      (λ (d : w.pairs_at + leg * 2 ≡ w.pairs_at + leg * 2 + 1). omega arith)
      ∙ get_or-set_same r (w.pairs_at + leg * 2) place.time_to_next nan (omega (arith, f.pairs_inside, f.inside))

  is_offset : get_or r2 (w.pairs_at + leg * 2 + 1) nan ≡ place.dist_to_next
  is_offset = get_or-set_same r1 (w.pairs_at + leg * 2 + 1) place.dist_to_next nan
      (omega (arith, length-set r (w.pairs_at + leg * 2) place.time_to_next, f.pairs_inside, f.inside))

  module _ {c' : List ℕ} (p : EntriesPushed c4 c' w used joins) where
    -- pushing leaves the legs' units
    leg_unit : (j k : ℕ) → j ≤ w.legs → k < 8 → get_or c' (j * 8 + k) 0 ≡ get_or c4 (j * 8 + k) 0
    leg_unit j k a b = p.elsewhere (j * 8 + k) (λ i t e g h d o. omega (arith, w.legs_before))

    pub save_elsewhere : SavedElsewhere c c' r r2 w
    save_elsewhere = record {
      cells = λ q a b.
          p.elsewhere q (λ i k h g d e. b i k (omega (arith, f.counted, f.entries_inside)) d e)
          ∙ four_other q (λ k h g. a leg k f.inside h g);
      reals = λ q a. two_other q (λ (d : q ≡ w.pairs_at + leg * 2). a leg 0 f.inside (omega arith) (omega arith))
          (a leg 1 f.inside (omega arith));
    }

    steady : Steady c c' r r2 w leg used
    steady = record {
      fields = λ j k o l a g h. leg_unit j k l h ∙ four_other (j * 8 + k) (λ t d e b. a (omega arith));
      times = λ j o l a.
          two_other (w.pairs_at + j * 2) (λ (d : w.pairs_at + j * 2 ≡ w.pairs_at + leg * 2). a (omega arith))
          (λ (d : w.pairs_at + j * 2 ≡ w.pairs_at + leg * 2 + 1). omega arith);
      offsets = λ j o l a.
          two_other (w.pairs_at + j * 2 + 1) (λ (d : w.pairs_at + j * 2 + 1 ≡ w.pairs_at + leg * 2). omega arith)
          (λ (d : w.pairs_at + j * 2 + 1 ≡ w.pairs_at + leg * 2 + 1). a (omega arith));
      entries = λ i k h g e.
          p.elsewhere (w.nodes_at + i * 8 + k) (λ l t a b d o q. omega arith)
          ∙ four_other (w.nodes_at + i * 8 + k) (λ t a b d. omega (arith, w.legs_before, f.inside));
    }

    kept_new : RunKept c' r2 w top used (waiting_of place leg depth joins)
    kept_new = record {
      real = f.real;
      inside = f.inside;
      place = leg_unit leg 4 f.inside (omega arith) ∙ is_place;
      depth = leg_unit leg 5 f.inside (omega arith) ∙ is_depth;
      count = leg_unit leg 6 f.inside (omega arith) ∙ is_count ∙ f.counted;
      next = leg_unit leg 7 f.inside (omega arith) ∙ is_next;
      time = is_time;
      offset = is_offset;
      entries = p.there;
      fits = omega (arith, f.counted, f.entries_inside);
    }

    pub save_saved : (runs : List Waiting) → SavedIn c r w top used runs → Untaken leg runs
        → SavedIn c' r2 w leg (used + length joins) (waiting_of place leg depth joins ∷ runs)
    save_saved runs h a =
        let u : used ≡ used + length joins - length joins = omega arith in
        let t : top ≡ top_of runs = top_is c r w top used runs h in (
          refl,
          (
            omega arith,
            (
              a,
              (
                subst (λ (i : ℕ). RunKept c' r2 w i (used + length joins - length joins)
                    (waiting_of place leg depth joins)) t
                    (subst (λ (i : ℕ). RunKept c' r2 w top i (waiting_of place leg depth joins)) u kept_new),
                subst (λ (i : ℕ). SavedIn c' r2 w i (used + length joins - length joins) runs) t
                    (subst (λ (i : ℕ). SavedIn c' r2 w top i runs) u
                    (saved_still steady top used runs (omega arith) a h)),
              ),
            ),
          ),
        )
