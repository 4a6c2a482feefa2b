-- The loop along the alternatives: a turn by what it meets, what the loop keeps, and each way a turn can end.
use mathlib.Core.Path.{◌≡◌, refl, sym, ap, ◌∙◌, subst}
use mathlib.Core.Bool.{Bool, true, false}
use mathlib.Core.List.{List}
use mathlib.Core.Option.{Option, none, some}
use Prim.Native.Nat.{ℕ, suc, ◌+◌, ◌-◌, ◌≤◌, ◌<◌}
use native.Mathlib.Omega.{arith}
use borrow.Author.Tests.{eq-eqb, ne_eqb}
use lib.Dec.{eqb}
use Rattle.net_node.specs.declared.LinkEvent.{LinkEvent}
use Rattle.net_node.specs.declared.EstTime.{EstTime}
use Rattle.net_node.specs.Table.{same_event, Indexed}
use Rattle.net_join_paths.specs.declared.EstJoinPath.{EstJoinPath}
use Rattle.net_join_paths.specs.Entries.{entry, and_then, pushed_if}
use Rattle.net_strands.specs.Space.{onward, alternatives}

pub alternatives_turn : (k : ℕ) (node : ℕ → EstTime) (e : LinkEvent) (m i : ℕ) (es : List EstJoinPath) (b c : Bool)
    → same_event (node (node i).idx_next).link_event e ≡ b → eqb (node i).idx_next_alt 0 ≡ c
    → alternatives (suc k) node e m i es ≡ and_then (pushed_if b es (entry m (node i).idx_next))
    (onward c (alternatives k node e m (node i).idx_next_alt))
unfolding alternatives
alternatives_turn k node e m i es b c p q = rw (p, q)

-- At node i there are turns left for every later node, and they give the answer.
pub record Following (node : ℕ → EstTime) (nodes : ℕ) (e : LinkEvent) (m : ℕ) (goal : Option (List EstJoinPath))
    (list : List EstJoinPath) (i : ℕ) : Type 0 where
  pub left : ℕ
  pub answer : goal ≡ alternatives (suc left) node e m i list
  pub within : i < nodes
  pub enough : nodes ≤ suc left + i

pub following_start : (node : ℕ → EstTime) (nodes : ℕ) (e : LinkEvent) (m start : ℕ) (list : List EstJoinPath)
    → start < nodes
    → Following node nodes e m (alternatives nodes node e m start list) list start
following_start node nodes e m start list h =
    let s : nodes ≡ suc (nodes - 1) = omega arith in
    record {
      left = nodes - 1;
      answer = ap (λ (k : ℕ). alternatives k node e m start list) s;
      within = h;
      enough = omega arith;
    }

-- where node i was loaded as x
module _ {node : ℕ → EstTime} {nodes : ℕ} {e : LinkEvent} {m : ℕ} {goal : Option (List EstJoinPath)}
    {list : List EstJoinPath} {i : ℕ} (w : Indexed node nodes) (v : Following node nodes e m goal list i) (x : EstTime)
    (l : x ≡ node i) where
  pub next_within : x.idx_next < nodes
  next_within = subst (λ (z : EstTime). z.idx_next < nodes) (sym l) (w.next i v.within)

  pub alternative_later : (x.idx_next_alt ≡ 0 → ⊥) → i < x.idx_next_alt
  alternative_later h =
      let p : 0 < x.idx_next_alt = omega arith in
      subst (λ (z : EstTime). 0 < z.idx_next_alt → i < z.idx_next_alt) (sym l) (w.next_alt_rises i v.within) p

  alternative_within : x.idx_next_alt < nodes
  alternative_within = subst (λ (z : EstTime). z.idx_next_alt < nodes) (sym l) (w.next_alt i v.within)

  -- its next as y, which has the event or not; and what is pushed then
  module _ (y : EstTime) (f : y ≡ node x.idx_next) (b : Bool) (g : b ≡ same_event y.link_event e) where
    abbrev pub pushed : Option (List EstJoinPath)
    pushed = pushed_if b list (entry m x.idx_next)

    turn : (c : Bool) → eqb x.idx_next_alt 0 ≡ c
        → goal ≡ and_then pushed (onward c (alternatives v.left node e m x.idx_next_alt))
    turn c q =
        v.answer
        ∙ alternatives_turn v.left node e m i list b c
        (ap (λ (z : EstTime). same_event (node z.idx_next).link_event e) (sym l)
        ∙ ap (λ (z : EstTime). same_event z.link_event e) (sym f) ∙ sym g)
        (ap (λ (z : EstTime). eqb z.idx_next_alt 0) (sym l) ∙ q)
        ∙ ap (λ (z : EstTime). and_then (pushed_if b list (entry m z.idx_next))
        (onward c (alternatives v.left node e m z.idx_next_alt))) (sym l)

    pub following_over : pushed ≡ none → goal ≡ none
    following_over o =
        turn _ refl ∙ ap (λ (a : Option (List EstJoinPath)). and_then a
        (onward (eqb x.idx_next_alt 0) (alternatives v.left node e m x.idx_next_alt))) o

    module _ (list' : List EstJoinPath) (o : pushed ≡ some list') where
      went : (c : Bool) → eqb x.idx_next_alt 0 ≡ c → goal ≡ onward c (alternatives v.left node e m x.idx_next_alt) list'
      went c q =
          turn c q ∙ ap (λ (a : Option (List EstJoinPath)). and_then a
          (onward c (alternatives v.left node e m x.idx_next_alt))) o

      pub following_last : x.idx_next_alt ≡ 0 → goal ≡ some list'
      following_last h = went true (eq-eqb x.idx_next_alt 0 h)

      pub following_on : (x.idx_next_alt ≡ 0 → ⊥) → Following node nodes e m goal list' x.idx_next_alt
      following_on h =
          let s : v.left ≡ suc (v.left - 1) = omega (arith, v.enough, alternative_later h, alternative_within) in
          record {
            left = v.left - 1;
            answer = went false (ne_eqb x.idx_next_alt 0 h)
                ∙ ap (λ (k : ℕ). alternatives k node e m x.idx_next_alt list') s;
            within = alternative_within;
            enough = omega (arith, v.enough, alternative_later h);
          }
