-- How a path grows in the work space, and what of it stays: the beginning of a path is kept when a link is put behind
-- it.
use mathlib.Core.Path.{◌≡◌, refl, sym, ap, ◌∙◌, subst}
use mathlib.Core.Logic.{◌⊎◌, inl, inr}
use mathlib.Core.List.{List, [], ◌∷◌, ◌++◌}
use Prim.Native.Nat.{ℕ, zero, suc, ◌+◌, ◌*◌, ◌≤◌, ◌<◌}
use native.Mathlib.Nat.{eq-or-lt_of_le, le_of_suc-le-suc}
use native.Mathlib.Omega.{arith}
use lib.ListN.{length, get_or, set, length-append}
use lib.Seq.{get_or-set_same, get_or-set_other}
use lib.Ieee.{Float, nan, binary64, add}
use Rattle.book_format.specs.Format.{link_length, float_of}
use Rattle.grow_path.specs.Path.{link_of, point_link, point_offset}
use Rattle.grow_path.specs.Kept.{PathIn}

-- ---- the points of a longer path

link_before : (b path more : List ℕ) (k : ℕ) → k < length path → point_link b (path ++ more) k ≡ point_link b path k
unfolding point_link
link_before b [] more k h = omega arith
link_before b (j ∷ path) more zero h = refl
link_before b (j ∷ path) more (suc k) h = link_before b path more k (omega arith)

link_behind : (b path : List ℕ) (j : ℕ) → point_link b (path ++ j ∷ []) (length path) ≡ link_of b j
unfolding point_link
link_behind b [] j = refl
link_behind b (i ∷ path) j = link_behind b path j

offset_before : (b path more : List ℕ) (k : ℕ) → k ≤ length path
    → point_offset b (path ++ more) k ≡ point_offset b path k
unfolding point_offset
offset_before b path more zero h = refl
offset_before b path more (suc k) h =
    ap (λ (x : Float). add binary64 x (float_of (link_length b (point_link b (path ++ more) k))))
    (offset_before b path more k (omega arith))
    ∙ ap (λ (l : ℕ). add binary64 (point_offset b path k) (float_of (link_length b l)))
    (link_before b path more k (omega arith))

-- ---- in the work space

-- the beginning of a path that is kept
pub path_begins : (b : List ℕ) (reals : List Float) (cells path more : List ℕ) → PathIn b reals cells (path ++ more)
    → PathIn b reals cells path
path_begins b reals cells path more p = record {
  offsets = λ k h. p.offsets k (omega (arith, length-append path more)) ∙ offset_before b path more k h;
  links = λ k h. p.links k (omega (arith, length-append path more)) ∙ link_before b path more k h;
}

-- a link behind it
module _ (b : List ℕ) (reals : List Float) (cells path : List ℕ) (j depth link : ℕ) (p : PathIn b reals cells path)
    (d : depth ≡ length path) (l : link ≡ link_of b j) where
  abbrev long : List ℕ
  long = path ++ j ∷ []

  abbrev value : Float
  value = add binary64 (get_or reals depth nan) (float_of (link_length b link))

  last_offset : value ≡ point_offset b long (suc (length path))
  unfolding point_offset
  last_offset =
      ap (λ (k : ℕ). add binary64 (get_or reals k nan) (float_of (link_length b link))) d
      ∙ ap (λ (x : Float). add binary64 x (float_of (link_length b link)))
      (p.offsets (length path) (omega arith) ∙ sym (offset_before b path (j ∷ []) (length path) (omega arith)))
      ∙ ap (λ (i : ℕ). add binary64 (point_offset b long (length path)) (float_of (link_length b i)))
      (l ∙ sym (link_behind b path j))

  offset_at : depth + 1 < length reals → (k : ℕ) → (k ≡ suc (length path)) ⊎ (k < suc (length path))
      → get_or (set reals (depth + 1) value) k nan ≡ point_offset b long k
  offset_at h k (inl e) =
      let f : k ≡ depth + 1 = omega arith in
      ap (λ (i : ℕ). get_or (set reals (depth + 1) value) i nan) f ∙ get_or-set_same reals (depth + 1) value nan h
      ∙ last_offset ∙ sym (ap (point_offset b long) e)
  offset_at h k (inr m) =
      get_or-set_other reals (depth + 1) k value nan (λ (e : k ≡ depth + 1). omega arith) ∙ p.offsets k (omega arith)
      ∙ sym (offset_before b path (j ∷ []) k (omega arith))

  name_at : depth * 8 + 3 < length cells → (k : ℕ) → (k ≡ length path) ⊎ (k < length path)
      → get_or (set cells (depth * 8 + 3) link) (k * 8 + 3) 0 ≡ point_link b long k
  name_at h k (inl e) =
      let f : k * 8 + 3 ≡ depth * 8 + 3 = omega arith in
      ap (λ (i : ℕ). get_or (set cells (depth * 8 + 3) link) i 0) f ∙ get_or-set_same cells (depth * 8 + 3) link 0 h ∙ l
      ∙ sym (link_behind b path j) ∙ sym (ap (point_link b long) e)
  name_at h k (inr m) =
      get_or-set_other cells (depth * 8 + 3) (k * 8 + 3) link 0 (λ (e : k * 8 + 3 ≡ depth * 8 + 3). omega arith)
      ∙ p.links k m ∙ sym (link_before b path (j ∷ []) k m)

  longer : length long ≡ suc (length path)
  longer = length-append path (j ∷ []) ∙ plus_one (length path)
    where
      plus_one : (n : ℕ) → n + 1 ≡ suc n
      plus_one n = omega arith

  pub path_extends : depth + 1 < length reals → depth * 8 + 3 < length cells
      → PathIn b (set reals (depth + 1) value) (set cells (depth * 8 + 3) link) long
  path_extends hr hc = record {
    offsets = λ k h. offset_at hr k (eq-or-lt_of_le (subst (λ (n : ℕ). k ≤ n) longer h));
    links = λ k h. name_at hc k (eq-or-lt_of_le (le_of_suc-le-suc (subst (λ (n : ℕ). k < n) longer h)));
  }
