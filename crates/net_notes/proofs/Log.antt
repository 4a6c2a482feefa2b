-- The log of the nodes of which something is noted: noting keeps it true, and all that is noted can be taken back. What
-- a noted span says.
use mathlib.Core.Path.{◌≡◌, refl, sym, ap, ◌∙◌, subst}
use mathlib.Core.Logic.{◌≢◌, ◌⊎◌, inl, inr}
use mathlib.Core.Bool.{Bool, false, ◌||◌}
use mathlib.Core.List.{List}
use Prim.Native.Nat.{ℕ, zero, suc, ◌+◌, ◌*◌, ◌≤◌, ◌<◌}
use native.Mathlib.Omega.{arith}
use borrow.Author.Tests.{leb-false}
use lib.Dec.{leb}
use lib.ListN.{length, get_or, set, length-set}
use lib.Seq.{get_or-set_same, get_or-set_other, ext_get_or}
use Rattle.std.specs.Prelude.{Some}
use Rattle.laws.proofs.Truth.{equal_or_not, none_left, none_right}
use Rattle.net_event_map.specs.declared.Layout.{Layout}
use Rattle.net_event_map.specs.EventMap.{CellsApart}
use Rattle.net_notes.specs.declared.Span.{Span}
use Rattle.net_notes.specs.Log.{span_in, name_column, matched_column, strands_column, nexts_column, NoteColumn, cell_at}
use Rattle.net_notes.specs.Log.{note_in, span_number, span_begin, span_end, Says, logged, logged_at, LogIn, Touched}
use Rattle.net_notes.specs.Log.{log_full, NotedAs, Notes, Ungiven}

-- ---- the last three cells of a node

-- a cell is one of the last three of node i
record OfNode (w : Layout) (i q : ℕ) : Type 0 where
  column : ℕ
  note : NoteColumn column
  is : q ≡ cell_at w i column

-- a cell is none of the last three of node i
abbrev pub NotOf : Layout → ℕ → ℕ → Type 0
NotOf w i q = (c : ℕ) → NoteColumn c → q ≢ cell_at w i c

-- it is one of them or none
of_or_not : (w : Layout) (i q : ℕ) → OfNode w i q ⊎ NotOf w i q
of_or_not w i q =
    first (equal_or_not q (cell_at w i 5)) (equal_or_not q (cell_at w i 6)) (equal_or_not q (cell_at w i 7))
  where
    first : (q ≡ cell_at w i 5) ⊎ (q ≢ cell_at w i 5) → (q ≡ cell_at w i 6) ⊎ (q ≢ cell_at w i 6)
        → (q ≡ cell_at w i 7) ⊎ (q ≢ cell_at w i 7) → OfNode w i q ⊎ NotOf w i q
    first (inl e) f g = inl (record { column = 5; note = (omega arith, omega arith); is = e })
    first (inr d) (inl f) g = inl (record { column = 6; note = (omega arith, omega arith); is = f })
    first (inr d) (inr e) (inl g) = inl (record { column = 7; note = (omega arith, omega arith); is = g })
    first (inr d) (inr e) (inr f) = inr (λ c a h. omega (arith, a.0, a.1, h, d, e, f))

-- three numbers in the last three cells of node i
unfoldable pub noted : Layout → ℕ → ℕ → ℕ → ℕ → List ℕ → List ℕ
noted w i matched strands nexts cells =
    set (set (set cells (cell_at w i matched_column) matched) (cell_at w i strands_column) strands)
    (cell_at w i nexts_column) nexts

module _ (w : Layout) (i matched strands nexts : ℕ) (cells : List ℕ) where
  -- there are as many cells
  length_noted : length (noted w i matched strands nexts cells) ≡ length cells
  unfolding noted
  length_noted = length-set (set (set cells (cell_at w i 5) matched) (cell_at w i 6) strands) (cell_at w i 7) nexts
      ∙ length-set (set cells (cell_at w i 5) matched) (cell_at w i 6) strands
      ∙ length-set cells (cell_at w i 5) matched

  -- every other cell stands
  noted_else : (q : ℕ) → NotOf w i q → get_or (noted w i matched strands nexts cells) q 0 ≡ get_or cells q 0
  unfolding noted
  noted_else q n =
      get_or-set_other (set (set cells (cell_at w i 5) matched) (cell_at w i 6) strands) (cell_at w i 7) q nexts 0
      (n 7 (omega arith, omega arith)) ∙ get_or-set_other (set cells (cell_at w i 5) matched) (cell_at w i 6) q strands
      0 (n 6 (omega arith, omega arith)) ∙ get_or-set_other cells (cell_at w i 5) q matched 0
      (n 5 (omega arith, omega arith))

  module _ (inside : cell_at w i 7 < length cells) where
    -- what entries give that match already stands there
    noted_matched : note_in (noted w i matched strands nexts cells) w i matched_column ≡ matched
    unfolding noted
    noted_matched =
        get_or-set_other (set (set cells (cell_at w i 5) matched) (cell_at w i 6) strands) (cell_at w i 7)
        (cell_at w i 5) nexts 0 (λ (e : cell_at w i 5 ≡ cell_at w i 7). omega (arith, e))
        ∙ get_or-set_other (set cells (cell_at w i 5) matched) (cell_at w i 6) (cell_at w i 5) strands 0
        (λ (e : cell_at w i 5 ≡ cell_at w i 6). omega (arith, e))
        ∙ get_or-set_same cells (cell_at w i 5) matched 0 (omega (arith, inside))

    -- what strands from the node give does
    noted_strands : note_in (noted w i matched strands nexts cells) w i strands_column ≡ strands
    unfolding noted
    noted_strands =
        get_or-set_other (set (set cells (cell_at w i 5) matched) (cell_at w i 6) strands) (cell_at w i 7)
        (cell_at w i 6) nexts 0 (λ (e : cell_at w i 6 ≡ cell_at w i 7). omega (arith, e))
        ∙ get_or-set_same (set cells (cell_at w i 5) matched) (cell_at w i 6) strands 0
        (omega (arith, inside, length-set cells (cell_at w i 5) matched))

    -- how many nexts these read does
    noted_nexts : note_in (noted w i matched strands nexts cells) w i nexts_column ≡ nexts
    unfolding noted
    noted_nexts =
        get_or-set_same (set (set cells (cell_at w i 5) matched) (cell_at w i 6) strands) (cell_at w i 7) nexts 0
        (omega (
          arith,
          inside,
          length-set (set cells (cell_at w i 5) matched) (cell_at w i 6) strands,
          length-set cells (cell_at w i 5) matched,
        ))

-- three zeros are 0 in every column
noted_zero : (w : Layout) (i : ℕ) (cells : List ℕ) → cell_at w i 7 < length cells → (c : ℕ) → NoteColumn c
    → note_in (noted w i 0 0 0 cells) w i c ≡ 0
noted_zero w i cells l c a = go (equal_or_not c 5) (equal_or_not c 6)
  where
    there : ℕ → ℕ
    there k = note_in (noted w i 0 0 0 cells) w i k

    go : (c ≡ 5) ⊎ (c ≢ 5) → (c ≡ 6) ⊎ (c ≢ 6) → there c ≡ 0
    go (inl e) f = ap there e ∙ noted_matched w i 0 0 0 cells l
    go (inr d) (inl f) = ap there f ∙ noted_strands w i 0 0 0 cells l
    go (inr d) (inr e) = let f : c ≡ 7 = omega (arith, a.0, a.1, d, e) in ap there f ∙ noted_nexts w i 0 0 0 cells l

-- ---- a node noted and logged

-- the log is not full: a name more can be counted and has a place
pub not_full : (count places : ℕ) → (leb 65535 count || leb places (count + 1)) ≡ false
    → (count < 65535) × (count + 1 < places)
not_full count places e = (
  leb-false 65535 count (none_left (leb 65535 count) (leb places (count + 1)) e),
  leb-false places (count + 1) (none_right (leb 65535 count) (leb places (count + 1)) e),
)

-- where the log's length stands
head : (w : Layout) → w.nodes_at + 1 ≡ cell_at w 0 name_column
head w = omega arith

-- what stands there is how many names the log has
pub count_is : (w : Layout) (cells : List ℕ) → get_or cells (w.nodes_at + 1) 0 ≡ logged cells w
count_is w cells = ap (λ (p : ℕ). get_or cells p 0) (head w)

-- whether it is full
pub full_is : (w : Layout) (cells : List ℕ) (b : Bool)
    → (leb 65535 (get_or cells (w.nodes_at + 1) 0) || leb w.places (get_or cells (w.nodes_at + 1) 0 + 1)) ≡ b
    → log_full cells w ≡ b
full_is w cells b h = ap (λ (k : ℕ). leb 65535 k || leb w.places (k + 1)) (sym (count_is w cells)) ∙ h

-- node i behind so many names
unfoldable pub named : Layout → ℕ → ℕ → List ℕ → List ℕ
named w count i cells = set (set cells (cell_at w (count + 1) name_column) i) (w.nodes_at + 1) (count + 1)

-- a node's last three cells are no names
not_name : (w : Layout) (i k : ℕ) → NotOf w i (cell_at w k name_column)
not_name w i k = λ c a e. omega (arith, a.0, a.1, e)

module _ (w : Layout) (count i : ℕ) (cells : List ℕ) where
  -- there are as many cells
  length_named : length (named w count i cells) ≡ length cells
  unfolding named
  length_named = length-set (set cells (cell_at w (count + 1) 1) i) (w.nodes_at + 1) (count + 1)
      ∙ length-set cells (cell_at w (count + 1) 1) i

  -- every cell but the length and the new name stands
  named_else : (q : ℕ) → q ≢ cell_at w 0 name_column → q ≢ cell_at w (count + 1) name_column
      → get_or (named w count i cells) q 0 ≡ get_or cells q 0
  unfolding named
  named_else q d e =
      get_or-set_other (set cells (cell_at w (count + 1) 1) i) (w.nodes_at + 1) q (count + 1) 0
      (λ (f : q ≡ w.nodes_at + 1). d (f ∙ head w)) ∙ get_or-set_other cells (cell_at w (count + 1) 1) q i 0 e

  module _ (apart : CellsApart cells w) (fits : count + 1 < w.places) where
    -- one name more
    named_count : logged (named w count i cells) w ≡ count + 1
    unfolding named
    named_count = ap (λ (p : ℕ). get_or (named w count i cells) p 0) (sym (head w))
        ∙ get_or-set_same (set cells (cell_at w (count + 1) 1) i) (w.nodes_at + 1) (count + 1) 0
        (omega (arith, fits, apart.nodes_inside, length-set cells (cell_at w (count + 1) 1) i))

    -- which is i
    named_last : logged_at (named w count i cells) w (count + 1) ≡ i
    unfolding named
    named_last =
        get_or-set_other (set cells (cell_at w (count + 1) 1) i) (w.nodes_at + 1) (cell_at w (count + 1) 1) (count + 1)
        0 (λ (e : cell_at w (count + 1) 1 ≡ w.nodes_at + 1). omega (arith, e))
        ∙ get_or-set_same cells (cell_at w (count + 1) 1) i 0 (omega (arith, fits, apart.nodes_inside))

-- node i is named and three numbers are noted of it
module _ (w : Layout) (count i matched strands nexts : ℕ) (cells : List ℕ) (apart : CellsApart cells w)
    (inside : i < w.places) (counted : count ≡ logged cells w) (fits : count + 1 < w.places) where
  abbrev after : List ℕ
  after = noted w i matched strands nexts (named w count i cells)

  -- every cell stands but these five
  after_else : (q : ℕ) → NotOf w i q → q ≢ cell_at w 0 name_column → q ≢ cell_at w (count + 1) name_column
      → get_or after q 0 ≡ get_or cells q 0
  after_else q n d e = noted_else w i matched strands nexts (named w count i cells) q n
      ∙ named_else w count i cells q d e

  -- the names before it stand
  after_earlier : (k : ℕ) → 1 ≤ k → k ≤ count → logged_at after w k ≡ logged_at cells w k
  after_earlier k a l =
      after_else (cell_at w k 1) (not_name w i k) (λ (e : cell_at w k 1 ≡ cell_at w 0 1). omega (arith, a, e))
      (λ (e : cell_at w k 1 ≡ cell_at w (count + 1) 1). omega (arith, l, e))

  -- there is one more
  after_count : logged after w ≡ count + 1
  after_count = noted_else w i matched strands nexts (named w count i cells) (cell_at w 0 1) (not_name w i 0)
      ∙ named_count w count i cells apart fits

  -- which is i
  after_last : logged_at after w (count + 1) ≡ i
  after_last =
      noted_else w i matched strands nexts (named w count i cells) (cell_at w (count + 1) 1) (not_name w i (count + 1))
      ∙ named_last w count i cells apart fits

  -- all of them are places
  after_names : LogIn cells w → (k : ℕ) → 1 ≤ k → k ≤ logged after w → logged_at after w k < w.places
  after_names h k a l = go (equal_or_not k (count + 1))
    where
      go : (k ≡ count + 1) ⊎ (k ≢ count + 1) → logged_at after w k < w.places
      go (inl e) = let s : logged_at after w k ≡ i = ap (λ (j : ℕ). logged_at after w j) e ∙ after_last in
          omega (arith, s, inside)
      go (inr d) =
          let m : k ≤ count = omega (arith, l, after_count, d) in
          omega (arith, after_earlier k a m, h.names k a (omega (arith, m, counted)))

  -- no cell was touched but what the log covers then
  after_touched : (cells₀ : List ℕ) → Touched w cells₀ cells → Touched w cells₀ after
  after_touched cells₀ t = record {
    log = record { fits = omega (arith, after_count, fits); names = after_names t.log };
    elsewhere = λ q h g.
        after_else q (λ c a e. g (count + 1) c (omega arith) (omega (arith, after_count)) a
        (e ∙ ap (λ (j : ℕ). cell_at w j c) (sym after_last))) (h 0 (omega arith))
        (h (count + 1) (omega (arith, after_count)))
        ∙ t.elsewhere q (λ k l. h k (omega (arith, l, counted, after_count)))
        (λ k c a l x e. g k c a (omega (arith, l, counted, after_count)) x
        (e ∙ ap (λ (j : ℕ). cell_at w j c) (sym (after_earlier k a (omega (arith, l, counted))))));
  }

  -- so it is noted, where the log is not full
  pub notes_one : log_full cells w ≡ false → Notes w i matched strands nexts cells after
  notes_one full =
      let l : cell_at w i 7 < length (named w count i cells) =
      omega (arith, inside, apart.nodes_inside, length_named w count i cells) in record {
        own = subst (λ (b : Bool). NotedAs b w i matched strands nexts cells after) (sym full) (
          noted_matched w i matched strands nexts (named w count i cells) l,
          (
            noted_strands w i matched strands nexts (named w count i cells) l,
            noted_nexts w i matched strands nexts (named w count i cells) l,
          ),
        );
        others =
            λ j c d a. after_else (cell_at w j c) (λ k x e. omega (arith, d, a.0, a.1, x.0, x.1, e))
            (λ (e : cell_at w j c ≡ cell_at w 0 1). omega (arith, a.0, a.1, e))
            (λ (e : cell_at w j c ≡ cell_at w (count + 1) 1). omega (arith, a.0, a.1, e));
        touched = after_touched;
      }

-- ---- all taken back

-- a cell is none that is still to be made 0 while the names from k on are left
pub record Done (w : Layout) (entry : List ℕ) (count k q : ℕ) : Type 0 where
  pub head : q ≢ cell_at w 0 name_column
  pub names : (j : ℕ) → k ≤ j → j ≤ count → q ≢ cell_at w j name_column
  pub notes : (j : ℕ) → k ≤ j → j ≤ count → NotOf w (logged_at entry w j) q

-- the names before k and what is noted of their nodes are taken back; the names from k on stand
pub record Forgetting (w : Layout) (entry : List ℕ) (count : ℕ) (cells : List ℕ) (k : ℕ) : Type 0 where
  pub counted : count ≡ logged entry w
  pub many : length cells ≡ length entry
  pub first : 1 ≤ k
  pub names : (j : ℕ) → k ≤ j → logged_at cells w j ≡ logged_at entry w j
  pub back : (cells₀ : List ℕ) → Ungiven cells₀ w → Touched w cells₀ entry → (q : ℕ) → Done w entry count k q
      → get_or cells q 0 ≡ get_or cells₀ q 0

-- before the first name nothing is taken back
pub forgetting_start : (w : Layout) (cells : List ℕ) → Forgetting w cells (get_or cells (w.nodes_at + 1) 0) cells 1
forgetting_start w cells = record {
  counted = count_is w cells;
  many = refl;
  first = omega arith;
  names = λ j l. refl;
  back =
      λ cells₀ u t q d. t.elsewhere q (λ j l. name q d j (omega (arith, l, count_is w cells)))
      (λ j c a l. d.notes j a (omega (arith, l, count_is w cells)) c);
}
  where
    name : (q : ℕ) → Done w cells (get_or cells (w.nodes_at + 1) 0) 1 q → (j : ℕ) → j ≤ get_or cells (w.nodes_at + 1) 0
        → q ≢ cell_at w j name_column
    name q d zero l = d.head
    name q d (suc j) l = d.names (suc j) (omega arith) l

module _ {w : Layout} {entry cells : List ℕ} {count k : ℕ} (apart : CellsApart entry w) (log : LogIn entry w)
    (f : Forgetting w entry count cells k) where
  -- the length's cell is inside
  head_inside : w.nodes_at + 1 < length cells
  head_inside = omega (arith, log.fits, apart.nodes_inside, f.many)

  module _ (h : k ≤ count) where
    -- so is a name that is left
    name_inside : cell_at w k name_column < length cells
    name_inside = omega (arith, h, f.counted, log.fits, apart.nodes_inside, f.many)

    -- which is a place
    name_place : logged_at cells w k < w.places
    name_place = omega (arith, h, f.counted, f.names k (omega arith), log.names k f.first (omega (arith, h, f.counted)))

    -- whose cells are inside
    notes_inside : (logged_at cells w k + 1) * 8 + w.nodes_at ≤ length cells
    notes_inside = omega (arith, name_place, apart.nodes_inside, f.many)

    -- the name at k is taken back
    pub forgetting_on : Forgetting w entry count
        (noted w (logged_at cells w k) 0 0 0 (set cells (cell_at w k name_column) 0)) (k + 1)
    forgetting_on = record {
      counted = f.counted;
      many = length_noted w i 0 0 0 gone ∙ length-set cells (cell_at w k 1) 0 ∙ f.many;
      first = omega arith;
      names = λ j l. noted_else w i 0 0 0 gone (cell_at w j 1) (not_name w i j)
          ∙ get_or-set_other cells (cell_at w k 1) (cell_at w j 1) 0 0
          (λ (e : cell_at w j 1 ≡ cell_at w k 1). omega (arith, l, e)) ∙ f.names j (omega (arith, l));
      back = λ cells₀ u t q d. go cells₀ u t q d (equal_or_not q (cell_at w k 1)) (of_or_not w i q);
    }
      where
        i : ℕ
        i = logged_at cells w k

        gone : List ℕ
        gone = set cells (cell_at w k name_column) 0

        after : List ℕ
        after = noted w i 0 0 0 gone

        inside : cell_at w i 7 < length gone
        inside = omega (arith, notes_inside, length-set cells (cell_at w k 1) 0)

        go : (cells₀ : List ℕ) → Ungiven cells₀ w → Touched w cells₀ entry → (q : ℕ) → Done w entry count (k + 1) q
            → (q ≡ cell_at w k 1) ⊎ (q ≢ cell_at w k 1) → OfNode w i q ⊎ NotOf w i q
            → get_or after q 0 ≡ get_or cells₀ q 0
        go cells₀ u t q d (inl e) o =
            ap (λ (p : ℕ). get_or after p 0) e ∙ noted_else w i 0 0 0 gone (cell_at w k 1) (not_name w i k)
            ∙ get_or-set_same cells (cell_at w k 1) 0 0 name_inside
            ∙ sym (ap (λ (p : ℕ). get_or cells₀ p 0) e ∙ u.name k (omega (arith, h, f.counted, log.fits)))
        go cells₀ u t q d (inr n) (inl o) =
            ap (λ (p : ℕ). get_or after p 0) o.is ∙ noted_zero w i gone inside o.column o.note
            ∙ sym (ap (λ (p : ℕ). get_or cells₀ p 0) o.is ∙ u.cell i o.column name_place o.note)
        go cells₀ u t q d (inr n) (inr o) = noted_else w i 0 0 0 gone q o
            ∙ get_or-set_other cells (cell_at w k 1) q 0 0 n ∙ f.back cells₀ u t q before
          where
            name : (j : ℕ) → k ≤ j → j ≤ count → (k ≡ j) ⊎ (k ≢ j) → q ≢ cell_at w j name_column
            name j a l (inl e) = λ s. n (s ∙ ap (λ (p : ℕ). cell_at w p 1) (sym e))
            name j a l (inr v) = d.names j (omega (arith, a, v)) l

            notes : (j : ℕ) → k ≤ j → j ≤ count → (k ≡ j) ⊎ (k ≢ j) → NotOf w (logged_at entry w j) q
            notes j a l (inl e) =
                λ c x s. o c x (s ∙ ap (λ (p : ℕ). cell_at w p c)
                (ap (λ (p : ℕ). logged_at entry w p) (sym e) ∙ sym (f.names k (omega arith))))
            notes j a l (inr v) = d.notes j (omega (arith, a, v)) l

            before : Done w entry count k q
            before = record {
              head = d.head;
              names = λ j a l. name j a l (equal_or_not k j);
              notes = λ j a l. notes j a l (equal_or_not k j);
            }

  -- once no name is left and the length is 0, the cells are as they were when nothing was noted
  pub forgetting_all : count < k → (cells₀ : List ℕ) → length cells₀ ≡ length entry → Ungiven cells₀ w
      → Touched w cells₀ entry → set cells (w.nodes_at + 1) 0 ≡ cells₀
  forgetting_all h cells₀ l u t =
      ext_get_or 0 (set cells (w.nodes_at + 1) 0) cells₀ (length-set cells (w.nodes_at + 1) 0 ∙ f.many ∙ sym l)
      (λ q b. go q (equal_or_not q (w.nodes_at + 1)))
    where
      go : (q : ℕ) → (q ≡ w.nodes_at + 1) ⊎ (q ≢ w.nodes_at + 1)
          → get_or (set cells (w.nodes_at + 1) 0) q 0 ≡ get_or cells₀ q 0
      go q (inl e) =
          ap (λ (p : ℕ). get_or (set cells (w.nodes_at + 1) 0) p 0) e
          ∙ get_or-set_same cells (w.nodes_at + 1) 0 0 head_inside
          ∙ sym (ap (λ (p : ℕ). get_or cells₀ p 0) (e ∙ head w) ∙ u.name 0 (omega (arith, log.fits)))
      go q (inr n) = get_or-set_other cells (w.nodes_at + 1) q 0 0 n
          ∙ f.back cells₀ u t q
          (record {
            head = λ e. n (e ∙ sym (head w));
            names = λ j a b. absurd (omega (arith, h, a, b));
            notes = λ j a b.
                absurd (omega (arith, h, a, b));
          })

pub touched_none : {cells : List ℕ} {w : Layout} → 0 < w.places → Ungiven cells w → Touched w cells cells
touched_none {cells} {w} h u =
    let z : get_or cells (w.nodes_at + 0 * 8 + 1) 0 ≡ 0 = u.name 0 h in
    record {
      log = record { fits = omega (arith, z); names = λ k a b. absurd (omega (arith, z)) };
      elsewhere = λ q f g. refl;
    }

-- ---- what a cell says that is not 0

-- what a cell says holds of the span that it has
pub span_said : (Holds : ℕ → ℕ → Type 0) (cell : ℕ) (s : Span) → Some s ≡ span_in cell → Says Holds cell
    → Holds s.begin s.end
span_said Holds zero s e v = cc
span_said Holds (suc c) s e v =
    let d : s ≡ record { begin = span_begin (suc c); end = span_end (suc c) } = cc in
    subst (λ (z : Span). Holds z.begin z.end) (sym d) (v (λ (z : suc c ≡ 0). omega arith))

-- what holds of a span is said by a cell that has its number
pub says_span : (Holds : ℕ → ℕ → Type 0) (begin end : ℕ) → end ≤ 1024 → Holds begin end
    → Says Holds (span_number begin end)
says_span Holds begin end h v z =
    let b : begin ≡ span_begin (begin * 2048 + end + 1) = omega arith in
    let t : end ≡ span_end (begin * 2048 + end + 1) = omega arith in
    subst (λ (k : ℕ). Holds k (span_end (begin * 2048 + end + 1))) b (subst (Holds begin) t v)
