-- What an entry of the old list gives, by what it meets; and the loop over the old list.
use mathlib.Core.Path.{◌≡◌, refl, sym, ap, ◌∙◌}
use mathlib.Core.Bool.{Bool, true, false, not, ◌||◌, true≢false}
use mathlib.Core.List.{List, [], ◌∷◌}
use mathlib.Core.Option.{Option, none, some}
use Prim.Native.Nat.{ℕ, suc, ◌+◌, ◌≤◌, ◌<◌}
use native.Mathlib.Numerals.{add-one}
use borrow.Author.Tests.{eq-eqb, ne_eqb, not-true, not-false}
use lib.Dec.{eqb}
use lib.ListN.{length, get_or, drop}
use Rattle.std.proofs.Common.{drop-cons, drop_of_length-le}
use Rattle.net_node.specs.declared.LinkEvent.{LinkEvent}
use Rattle.net_node.specs.declared.EstTime.{EstTime}
use Rattle.net_event_map.specs.declared.Layout.{Layout}
use Rattle.net_join_paths.specs.declared.EstJoinPath.{EstJoinPath}
use Rattle.net_join_paths.specs.Entries.{push, and_then}
use Rattle.net_join_paths.proofs.Entries.{over_as, valid_at}
use Rattle.net_stack.specs.Stack.{is_arrive}
use Rattle.net_stack.proofs.Arrives.{arrive_eq}
use Rattle.net_strands.specs.Space.{followed, extended_as, extended, extended_all}
use Rattle.net_strands.specs.Steps.{new_match}
use Rattle.net_strands.proofs.Given.{Noting}

-- whether an entry's link is cleared at an event
abbrev pub cleared : LinkEvent → EstJoinPath → Bool
cleared e x = eqb x.link_idx_match 0 || eqb x.link_idx_match e.link_idx

-- where the entry's node was loaded as y
module _ (node : ℕ → EstTime) (n : ℕ) (e : LinkEvent) (seen : Bool) (x : EstJoinPath) (es : List EstJoinPath)
    (y : EstTime) (l : y ≡ node x.est_idx_next) where
  extended_by : (a b c d : Bool) → eqb y.idx_next 0 ≡ a → is_arrive e.est_type ≡ b → cleared e x ≡ c → seen ≡ d
      → extended node n e seen x es ≡ extended_as a b c d node n e x es
  unfolding extended
  extended_by a b c d p q r s = rw (sym p, sym q, sym r, sym s, l)

  pub extended_dropped : y.idx_next ≡ 0 → extended node n e seen x es ≡ some es
  extended_dropped h = extended_by true _ _ _ (eq-eqb y.idx_next 0 h) refl refl refl

  -- it has a next, and the event is an Arrive or not
  module _ (h : y.idx_next ≡ 0 → ⊥) (arrive : Bool) (q : arrive ≡ is_arrive e.est_type) where
    pub extended_copied : not (arrive || cleared e x) ≡ true → extended node n e seen x es ≡ push es x
    extended_copied o = go arrive (cleared e x) (sym q) refl (not-true (arrive || cleared e x) o)
      where
        go : (b c : Bool) → is_arrive e.est_type ≡ b → cleared e x ≡ c → b || c ≡ false
            → extended node n e seen x es ≡ push es x
        go true c p r z = absurd (true≢false z)
        go false true p r z = absurd (true≢false z)
        go false false p r z = extended_by false false false _ (ne_eqb y.idx_next 0 h) p r refl

    module _ (o : not (arrive || cleared e x) ≡ false) where
      pub extended_unseen : not seen ≡ true → extended node n e seen x es ≡ some es
      extended_unseen s = go arrive (cleared e x) (sym q) refl (not-false (arrive || cleared e x) o)
        where
          go : (b c : Bool) → is_arrive e.est_type ≡ b → cleared e x ≡ c → b || c ≡ true
              → extended node n e seen x es ≡ some es
          go true c p r z = extended_by false true c false (ne_eqb y.idx_next 0 h) p r (not-true seen s)
          go false true p r z = extended_by false false true false (ne_eqb y.idx_next 0 h) p r (not-true seen s)
          go false false p r z = absurd (true≢false (sym z))

      module _ (s : not seen ≡ false) (m : ℕ) (f : m ≡ new_match (is_arrive e.est_type) x.link_idx_match) where
        pub extended_follows : extended node n e seen x es ≡ followed x.link_idx_match node n e m x.est_idx_next es
        extended_follows =
            go (is_arrive e.est_type) (cleared e x) refl refl
            (ap (λ (b : Bool). b || cleared e x) (sym q) ∙ not-false (arrive || cleared e x) o)
            ∙ ap (λ (k : ℕ). followed x.link_idx_match node n e k x.est_idx_next es) (sym f)
          where
            go : (b c : Bool) → is_arrive e.est_type ≡ b → cleared e x ≡ c → b || c ≡ true
                → extended node n e seen x es ≡ followed x.link_idx_match node n e (new_match b x.link_idx_match)
                x.est_idx_next es
            go true c p r z = extended_by false true c true (ne_eqb y.idx_next 0 h) p r (not-false seen s)
            go false true p r z = extended_by false false true true (ne_eqb y.idx_next 0 h) p r (not-false seen s)
            go false false p r z = absurd (true≢false (sym z))

-- ---- the loop over the old list

-- The entries of the old list from k on are still to be followed, behind the new one.
pub record Gathering (node : ℕ → EstTime) (n : ℕ) (e : LinkEvent) (seen : Bool) (old list : List EstJoinPath)
    (k : ℕ) : Type 0 where
  pub answer : extended_all node n e seen old [] ≡ extended_all node n e seen (drop k old) list

module _ {node : ℕ → EstTime} {n : ℕ} {e : LinkEvent} {seen : Bool} {old list : List EstJoinPath} {k : ℕ}
    (v : Gathering node n e seen old list k) where
  pub gathering_whole : length old ≤ k → extended_all node n e seen old [] ≡ some list
  unfolding extended_all
  gathering_whole h =
      v.answer ∙ ap (λ (xs : List EstJoinPath). extended_all node n e seen xs list) (drop_of_length-le old h)

  -- where the next entry is x
  module _ (h : k < length old) (d x : EstJoinPath) (l : x ≡ get_or old k d) where
    turn : extended_all node n e seen old []
        ≡ and_then (extended node n e seen x list) (extended_all node n e seen (drop (k + 1) old))
    unfolding extended_all
    turn =
        let a : drop k old ≡ x ∷ drop (k + 1) old = drop-cons old k d h
        ∙ ap (λ (y : EstJoinPath). y ∷ drop (suc k) old) (sym l)
        ∙ ap (λ (j : ℕ). x ∷ drop j old) (sym (add-one k)) in
        v.answer ∙ ap (λ (xs : List EstJoinPath). extended_all node n e seen xs list) a

    pub gathering_over : extended node n e seen x list ≡ none → extended_all node n e seen old [] ≡ none
    gathering_over o =
        turn ∙ ap (λ (a : Option (List EstJoinPath)). and_then a (extended_all node n e seen (drop (k + 1) old))) o

    pub gathering_on : (list' : List EstJoinPath) → extended node n e seen x list ≡ some list'
        → Gathering node n e seen old list' (k + 1)
    gathering_on list' o = record {
      answer =
          turn ∙ ap (λ (a : Option (List EstJoinPath)). and_then a (extended_all node n e seen (drop (k + 1) old))) o;
    }

-- the first k entries of the old list gave the new one, and what was noted meanwhile is said and logged
pub record Building (node : ℕ → EstTime) (nodes : ℕ) (e : LinkEvent) (seen : Bool) (old : List EstJoinPath) (w : Layout)
    (cells₀ cells : List ℕ) (list : List EstJoinPath) (k : ℕ) : Type 0 where
  pub same : length cells ≡ length cells₀
  pub gathered : Gathering node nodes e seen old list k
  pub noted : Noting cells₀ w node nodes e cells list

-- each way through one entry
pub ruleset entry_laws = (extended_dropped, extended_copied, extended_unseen, extended_follows, arrive_eq)

-- each way through the loop
pub ruleset gathering_laws = (valid_at, over_as, gathering_over, gathering_whole)
