-- What was given stays said while the list grows; what is noted of a node; entries that are followed by alternatives,
-- and entries that are not followed.
use mathlib.Core.Path.{◌≡◌, sym, ap, ◌∙◌, subst}
use mathlib.Core.Logic.{◌⊎◌, inl, inr}
use mathlib.Core.Bool.{Bool, true, false}
use mathlib.Core.List.{List}
use mathlib.Core.Option.{Option, none, some}
use Prim.{Unit, tt}
use Prim.Native.Nat.{ℕ, ◌-◌, ◌≤◌, ◌<◌}
use native.Mathlib.Omega.{arith}
use lib.ListN.{length}
use Rattle.std.specs.Prelude.{Result, Ok, Err, IsErr, IsErrAnd, Some}
use Rattle.refusals.specs.declared.Refusal.{Refusal}
use Rattle.refusals.specs.declared.Refusal.TheVariants.{NoPlace}
use Rattle.laws.proofs.Truth.{equal_or_not}
use Rattle.net_node.specs.declared.LinkEvent.{LinkEvent}
use Rattle.net_node.specs.declared.EstTime.{EstTime}
use Rattle.net_event_map.specs.declared.Layout.{Layout}
use Rattle.net_notes.specs.Log.{matched_column, strands_column, nexts_column, note_in, span_number, span_in, Says}
use Rattle.net_notes.specs.Log.{Touched, Ungiven, log_full, NotedAs, Notes}
use Rattle.net_notes.specs.declared.Span.{Span}
use Rattle.net_notes.proofs.Log.{says_span, span_said}
use Rattle.net_join_paths.specs.declared.EstJoinPath.{EstJoinPath}
use Rattle.net_join_paths.specs.Entries.{push, EntriesAs}
use Rattle.net_join_paths.specs.Spans.{pushed_all, nodes_in}
use Rattle.net_join_paths.proofs.Spans.{SameNodes, Appended, all_appended, one_appended, nodes_stay, nodes_behind}
use Rattle.net_join_paths.proofs.Spans.{nodes_kept}
use Rattle.net_strands.specs.Space.{alternatives}
use Rattle.net_strands.specs.Walks.{popped_to, walked, spend}
use Rattle.net_strands.specs.Given.{SpanGives, WalkGives, Given, GivenThen, Extends}
use Rattle.net_strands.proofs.Targets.{nexts_of, pushed_nexts}

-- ---- what was given stays said

module _ {list list' : List EstJoinPath} (s : SameNodes list list') where
  span_kept : (rule : ℕ → List EstJoinPath → Option (List EstJoinPath)) (begin end : ℕ) → SpanGives rule list begin end
      → SpanGives rule list' begin end
  span_kept rule begin end v = record {
    rises = v.rises;
    inside = omega (arith, v.inside, s.grows);
    gives =
        λ m es. v.gives m es ∙ ap (λ (is : List ℕ). pushed_all m is es)
        (nodes_kept s (end - begin) begin (omega (arith, v.rises, v.inside)));
  }

  walk_kept : {node : ℕ → EstTime} {e : LinkEvent} {i begin end nexts : ℕ} → WalkGives node e list i begin end nexts
      → WalkGives node e list' i begin end nexts
  walk_kept {node} {e} {i} {begin} {end} {nexts} v = record {
    rises = v.rises;
    inside = omega (arith, v.inside, s.grows);
    gives =
        λ k stack. v.gives k stack ∙ ap (λ (is : List ℕ). spend nexts is (λ j. popped_to stack (walked j node e)) k)
        (nodes_kept s (end - begin) begin (omega (arith, v.rises, v.inside)));
  }

  pub given_kept : {cells : List ℕ} {w : Layout} {node : ℕ → EstTime} {nodes : ℕ} {e : LinkEvent}
      → Given cells w node nodes e list → Given cells w node nodes e list'
  given_kept {cells} {w} {node} {nodes} {e} v = record {
    matched = λ i h z. span_kept (λ m es. alternatives nodes node e m i es) _ _ (v.matched i h z);
    strands = λ i h z. walk_kept (v.strands i h z);
  }

-- where nothing is noted nothing is given
pub given_none : {cells : List ℕ} {w : Layout} (node : ℕ → EstTime) (n : ℕ) (e : LinkEvent) (list : List EstJoinPath)
    → n ≤ w.places → Ungiven cells w → Given cells w node n e list
given_none {cells} {w} node n e list h u = record {
  matched = λ i l z. absurd (z (u.cell i 5 (omega arith) (omega arith, omega arith)));
  strands = λ i l z. absurd (z (u.cell i 6 (omega arith) (omega arith, omega arith)));
}

-- ---- what is noted of a node

-- what two cells say of the strands from node i, by what stands in them
abbrev pub Walks : (ℕ → EstTime) → LinkEvent → List EstJoinPath → (i strands nexts : ℕ) → Type 0
Walks node e list i strands nexts = Says (λ begin end. WalkGives node e list i begin end nexts) strands

pub walks_by : (node : ℕ → EstTime) (e : LinkEvent) (list : List EstJoinPath) (i : ℕ) {x x' y y' : ℕ} → x ≡ x' → y ≡ y'
    → Walks node e list i x' y' → Walks node e list i x y
walks_by node e list i {x} {x'} {y} {y'} f g t =
    subst (λ (k : ℕ). Walks node e list i k y) (sym f) (subst (Walks node e list i x') (sym g) t)

module _ {cells cells' : List ℕ} {list : List EstJoinPath} {w : Layout} {node : ℕ → EstTime} {nodes : ℕ} {e : LinkEvent}
    (v : Given cells w node nodes e list) {i a b c : ℕ} (s : Notes w i a b c cells cells')
    (p : Says (SpanGives (λ m es. alternatives nodes node e m i es) list) a) (q : Walks node e list i b c) where
  -- what a cell says of a node's entries that match already
  abbrev Matched : ℕ → ℕ → Type 0
  Matched j x = Says (SpanGives (λ m es. alternatives nodes node e m j es) list) x

  -- of the node itself
  own_matched : (full : Bool) → NotedAs full w i a b c cells cells' → Matched i (note_in cells w i matched_column)
      → Matched i (note_in cells' w i matched_column)
  own_matched true t o = subst (Matched i) (sym (t 5 (omega arith, omega arith))) o
  own_matched false t o = subst (Matched i) (sym t.0) p

  own_walks : (full : Bool) → NotedAs full w i a b c cells cells'
      → Walks node e list i (note_in cells w i strands_column) (note_in cells w i nexts_column)
      → Walks node e list i (note_in cells' w i strands_column) (note_in cells' w i nexts_column)
  own_walks true t o = walks_by node e list i (t 6 (omega arith, omega arith)) (t 7 (omega arith, omega arith)) o
  own_walks false t o = walks_by node e list i t.1.0 t.1.1 q

  -- the cells say it then, and what they said of others
  pub given_noted : Given cells' w node nodes e list
  given_noted = record {
    matched = λ j h. of_matched j h (equal_or_not j i);
    strands = λ j h. of_strands j h (equal_or_not j i);
  }
    where
      of_matched : (j : ℕ) → j < nodes → (j ≡ i) ⊎ (j ≡ i → ⊥) → Matched j (note_in cells' w j matched_column)
      of_matched j h (inr d) = subst (Matched j) (sym (s.others j 5 d (omega arith, omega arith))) (v.matched j h)
      of_matched j h (inl d) =
          subst (λ (k : ℕ). Matched k (note_in cells' w k matched_column)) (sym d)
          (own_matched (log_full cells w) s.own (subst (λ (k : ℕ). Matched k (note_in cells w k matched_column)) d
          (v.matched j h)))

      of_strands : (j : ℕ) → j < nodes → (j ≡ i) ⊎ (j ≡ i → ⊥)
          → Walks node e list j (note_in cells' w j strands_column) (note_in cells' w j nexts_column)
      of_strands j h (inr d) =
          walks_by node e list j (s.others j 6 d (omega arith, omega arith)) (s.others j 7 d (omega arith, omega arith))
          (v.strands j h)
      of_strands j h (inl d) =
          subst (λ (k : ℕ). Walks node e list k (note_in cells' w k strands_column) (note_in cells' w k nexts_column))
          (sym d)
          (own_walks (log_full cells w) s.own (subst
          (λ (k : ℕ). Walks node e list k (note_in cells w k strands_column) (note_in cells w k nexts_column)) d
          (v.strands j h)))

-- ---- an answer that is passed on by `?`

pub extends_over : {w : Layout} {node : ℕ → EstTime} {nodes : ℕ} {e : LinkEvent} {cells : List ℕ}
    {list : List EstJoinPath} {cells' : List ℕ} {rule : List EstJoinPath → Option (List EstJoinPath)} {x : Refusal}
    (list' : List EstJoinPath) (r : Result Unit Refusal) → IsErr r × IsErrAnd r (λ y. y ≡ x) → rule list ≡ none
    → x ≡ NoPlace → ((cells₀ : List ℕ) → Touched w cells₀ cells → Touched w cells₀ cells')
    → Extends rule w node nodes e cells list cells' list' r
extends_over list' (Ok u) g h n t = absurd g.1
extends_over list' (Err y) g h n t = record { answer = (h, g.1 ∙ n); given = tt; touched = t }

-- ---- an entry that matches already

module _ {cells : List ℕ} {list : List EstJoinPath} {w : Layout} {node : ℕ → EstTime} {nodes : ℕ} {e : LinkEvent}
    (v : Given cells w node nodes e list) (m i : ℕ) (inside : i < nodes) where
  -- its cell says what it gives
  module _ (s : Span) (k : Some s ≡ span_in (note_in cells w i matched_column)) where
    pub matched_said : SpanGives (λ m es. alternatives nodes node e m i es) list s.begin s.end
    matched_said =
        span_said (SpanGives (λ m es. alternatives nodes node e m i es) list) (note_in cells w i matched_column) s k
        (v.matched i inside)

    -- it is copied
    pub matched_copied : (list' : List EstJoinPath) (r : Result Unit Refusal)
        → EntriesAs (pushed_all m (nodes_in list s.begin (s.end - s.begin)) list) list' r
        → Extends (alternatives nodes node e m i) w node nodes e cells list cells list' r
    matched_copied list' r a = record {
      answer = subst (λ (b : Option (List EstJoinPath)). EntriesAs b list' r) (sym (matched_said.gives m list)) a;
      given = go r a;
      touched = λ cells₀ t. t;
    }
      where
        go : (r : Result Unit Refusal) → EntriesAs (pushed_all m (nodes_in list s.begin (s.end - s.begin)) list) list' r
            → GivenThen cells w node nodes e list' r
        go (Ok u) a = given_kept (nodes_stay (all_appended m _ list list' a)) v
        go (Err x) a = tt

  -- it is worked out
  module _ (list' : List EstJoinPath) (a : alternatives nodes node e m i list ≡ some list') where
    behind : Appended list (nexts_of nodes node e i) list'
    behind = all_appended m (nexts_of nodes node e i) list list' (sym (pushed_nexts node e m nodes i list) ∙ a)

    -- the list grows
    pub matched_grows : length list ≤ length list'
    matched_grows = (nodes_stay behind).grows

    -- it is not noted
    pub matched_left : Extends (alternatives nodes node e m i) w node nodes e cells list cells list' (Ok tt)
    matched_left = record { answer = a; given = given_kept (nodes_stay behind) v; touched = λ cells₀ t. t }

    matched_span : SpanGives (λ m es. alternatives nodes node e m i es) list' (length list) (length list')
    matched_span = record {
      rises = (nodes_stay behind).grows;
      inside = omega arith;
      gives = λ k es. pushed_nexts node e k nodes i es
          ∙ ap (λ (is : List ℕ). pushed_all k is es) (sym (nodes_behind behind));
    }

    pub matched_noted : (cells' : List ℕ) {span strands nexts : ℕ} → length list' ≤ 1024
        → span ≡ span_number (length list) (length list') → strands ≡ note_in cells w i strands_column
        → nexts ≡ note_in cells w i nexts_column → Notes w i span strands nexts cells cells'
        → Extends (alternatives nodes node e m i) w node nodes e cells list cells' list' (Ok tt)
    matched_noted cells' {span} {strands} {nexts} few f g h s =
        let k = given_kept (nodes_stay behind) v in
        record {
          answer = a;
          given =
              given_noted k s (subst (Says (SpanGives (λ m es. alternatives nodes node e m i es) list')) (sym f)
              (says_span (SpanGives (λ m es. alternatives nodes node e m i es) list') (length list) (length list') few
              matched_span))
              (walks_by node e list' i g h (k.strands i inside));
          touched = s.touched;
        }

-- ---- an entry that is not followed

module _ {cells : List ℕ} {list : List EstJoinPath} {w : Layout} {node : ℕ → EstTime} {nodes : ℕ} {e : LinkEvent}
    (v : Given cells w node nodes e list) (rule : List EstJoinPath → Option (List EstJoinPath)) where
  -- it gives nothing
  pub extends_none : rule list ≡ some list → Extends rule w node nodes e cells list cells list (Ok tt)
  extends_none h = record { answer = h; given = v; touched = λ cells₀ t. t }

  -- it is pushed itself
  pub extends_pushed : (x : EstJoinPath) → rule list ≡ push list x
      → (list' : List EstJoinPath) (r : Result Unit Refusal) → EntriesAs (push list x) list' r
      → Extends rule w node nodes e cells list cells list' r
  extends_pushed x h list' r a = record {
    answer = subst (λ (b : Option (List EstJoinPath)). EntriesAs b list' r) (sym h) a;
    given = go r a;
    touched = λ cells₀ t. t;
  }
    where
      go : (r : Result Unit Refusal) → EntriesAs (push list x) list' r → GivenThen cells w node nodes e list' r
      go (Ok u) a = given_kept (nodes_stay (one_appended x list list' a)) v
      go (Err y) a = tt

-- it is followed: by a rule that gives the same
pub extends_followed : {w : Layout} {node : ℕ → EstTime} {nodes : ℕ} {e : LinkEvent} {cells : List ℕ}
    {list : List EstJoinPath} {cells' : List ℕ} {list' : List EstJoinPath} {r : Result Unit Refusal}
    (rule rule' : List EstJoinPath → Option (List EstJoinPath)) → rule list ≡ rule' list
    → Extends rule' w node nodes e cells list cells' list' r → Extends rule w node nodes e cells list cells' list' r
extends_followed {list' = list'} {r = r} rule rule' h x = record {
  answer = subst (λ (b : Option (List EstJoinPath)). EntriesAs b list' r) (sym h) x.answer;
  given = x.given;
  touched = x.touched;
}

-- ---- the loop over the old list

-- the cells say what was given so far, and what was noted is logged
pub record Noting (cells₀ : List ℕ) (w : Layout) (node : ℕ → EstTime) (n : ℕ) (e : LinkEvent) (cells : List ℕ)
    (list : List EstJoinPath) : Type 0 where
  pub given : Given cells w node n e list
  pub touched : Touched w cells₀ cells

-- what follows an entry that matches already
pub ruleset matched_laws = (matched_copied, matched_noted, matched_grows, matched_left)

-- what an entry gives, by the rule that its meaning comes to
pub ruleset extends_laws = (extends_none, extends_pushed, extends_followed)
