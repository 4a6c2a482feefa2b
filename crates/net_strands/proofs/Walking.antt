-- The strand walk: what both loops keep, and each way a turn can end.
use mathlib.Core.Path.{◌≡◌, refl, sym, ap, ◌∙◌, subst}
use mathlib.Core.Logic.{◌≢◌}
use mathlib.Core.Bool.{Bool, true, false, true≢false, ◌||◌}
use mathlib.Core.List.{List, [], ◌∷◌, ◌++◌}
use mathlib.Core.Option.{Option, none, some}
use Prim.{Unit, tt}
use Prim.Native.Nat.{ℕ, ◌+◌, ◌-◌, ◌*◌, ◌≤◌, ◌<◌}
use native.Mathlib.Omega.{arith}
use lib.ListN.{length, length-append}
use Rattle.std.specs.Prelude.{reverse, Some}
use Rattle.net_node.specs.declared.LinkEvent.{LinkEvent}
use Rattle.net_node.specs.declared.EstTime.{EstTime}
use Rattle.net_node.specs.Table.{same_event, Indexed}
use Rattle.net_event_map.specs.declared.Layout.{Layout}
use Rattle.net_event_map.specs.EventMap.{head_of}
use Rattle.net_notes.specs.declared.Span.{Span}
use Rattle.net_notes.specs.Log.{strands_column, nexts_column, note_in, span_number, span_in}
use Rattle.net_notes.proofs.Log.{says_span, span_said}
use Rattle.net_join_paths.specs.declared.EstJoinPath.{EstJoinPath}
use Rattle.net_join_paths.specs.Entries.{entry, push, pushed_if}
use Rattle.net_join_paths.specs.Spans.{pushed_all, nodes_in}
use Rattle.net_join_paths.proofs.Entries.{and_then_some}
use Rattle.net_join_paths.proofs.Spans.{Pushed, pushed_start, pushed_more}
use Rattle.net_stack.specs.Stack.{alternative_stacked}
use Rattle.net_stack.specs.Openings.{stack_length, ends_strand, opening_of, opening_at, opening_left, opened_if}
use Rattle.net_stack.proofs.Stacks.{stack_push}
use Rattle.net_strands.specs.Space.{strand_from, strands}
use Rattle.net_strands.specs.Walks.{popped_to, walked, spend}
use Rattle.net_strands.specs.Given.{WalkGives, Given}
use Rattle.net_strands.proofs.Targets.{cons_if, pushed_each}
use Rattle.net_strands.proofs.Spending.{spend_short, walk_none, walk_met, walk_ends, walk_on}
use Rattle.net_strands.proofs.Given.{Walks, walks_by}
use Rattle.net_strands.proofs.Opened.{Item, Alternative, Open, numbers_of, stack_of, opened_on, stacked_on}
use Rattle.net_strands.proofs.Opened.{opened_numbers, stacked_numbers, Rest, Reads, Closes, closes_begun, Opened}
use Rattle.net_strands.proofs.Opened.{opened_on_lem, opened_more, opened_stacked, each_over, answer_is}

-- the next, if it is to be pushed, is a list of nodes
pushed_one : (m : ℕ) (b : Bool) (i : ℕ) (es : List EstJoinPath)
    → pushed_if b es (entry m i) ≡ pushed_all m (cons_if b i []) es
unfolding pushed_all
pushed_one m true i es = sym (and_then_some (push es (entry m i)))
pushed_one m false i es = refl

-- ---- numbers on top of a stack

abbrev tail_of : List ℕ → List ℕ
tail_of [] = []
tail_of (i ∷ is) = is

abbrev IsCons : List ℕ → Type 0
IsCons [] = ⊥
IsCons (i ∷ is) = Unit

-- the number on top, and what is below it
on_top : (s s' : List ℕ) (x i : ℕ) (is : List ℕ) → s ≡ s' ++ (x ∷ []) → reverse s ≡ i ∷ is → (x ≡ i) × (reverse s' ≡ is)
on_top s s' x i is p h = let g : x ∷ reverse s' ≡ i ∷ is = sym (stack_push s' s x p) ∙ h in (ap head_of g, ap tail_of g)

-- something is on top
not_none : {A : Type 0} (s s' : List ℕ) (x : ℕ) → s ≡ s' ++ (x ∷ []) → reverse s ≡ [] → A
not_none s s' x p h = let g : x ∷ reverse s' ≡ [] = sym (stack_push s' s x p) ∙ h in absurd (subst IsCons g tt)

-- nothing is
none_on : (s : List ℕ) (i : ℕ) (is : List ℕ) → s ≡ [] → reverse s ≡ i ∷ is → ⊥
none_on s i is z h = let g : [] ≡ i ∷ is = sym (ap reverse z) ∙ h in subst IsCons (sym g) tt

-- a stack is empty from which nothing can be popped
pub nothing_left : (s : List ℕ) → (0 < length s → false ≡ true) → s ≡ []
nothing_left [] h = refl
nothing_left (i ∷ s) h = absurd (true≢false (sym (h (omega arith))))

-- one number less
shorter : (s s' : List ℕ) (x : ℕ) → s ≡ s' ++ (x ∷ []) → length s ≡ length s' + 1
shorter s s' x h = ap length h ∙ length-append s' (x ∷ [])

-- the walk goes on by popping
abbrev pub pops : (ℕ → EstTime) → LinkEvent → Rest
pops node e k s = popped_to s (walked k node e)

module _ (node : ℕ → EstTime) (nodes : ℕ) (e : LinkEvent) where
  -- what a node gives that is closed
  closes_gives : {list : List EstJoinPath} {left i begin opened : ℕ}
      → Closes node nodes e list left i begin opened (pops node e)
      → WalkGives node e list i begin (length list) (opened - left)
  closes_gives v = record { rises = v.inside; inside = omega arith; gives = v.gives }

  -- as it is noted
  pub closes_says : {list : List EstJoinPath} {left i begin opened : ℕ}
      → Closes node nodes e list left i begin opened (pops node e) → (at : ℕ) → at ≡ length list → at ≤ 1024
      → Walks node e list i (span_number begin at) (opened - left)
  closes_says {list} {left} {i} {begin} {opened} v at f h =
      says_span (λ b t. WalkGives node e list i b t (opened - left)) begin at h
      (subst (λ (k : ℕ). WalkGives node e list i begin k (opened - left)) (sym f) (closes_gives v))

  -- what is noted of a node
  pub known_gives : {cells : List ℕ} {list : List EstJoinPath} {w : Layout} {here : ℕ} → Given cells w node nodes e list
      → here < nodes → (s : Span) → Some s ≡ span_in (note_in cells w here strands_column) → (nexts : ℕ)
      → nexts ≡ note_in cells w here nexts_column → WalkGives node e list here s.begin s.end nexts
  known_gives {cells} {list} {w} {here} v h s k nexts g =
      span_said (λ b t. WalkGives node e list here b t nexts) (note_in cells w here strands_column) s k
      (walks_by node e list here refl g (v.strands here h))

module _ (node : ℕ → EstTime) (nodes : ℕ) (e : LinkEvent) (start : ℕ) (list₀ : List EstJoinPath) where
  -- A strand is left, and the stack's next is to be walked or closed.
  pub record Popping (stack : List ℕ) (list : List EstJoinPath) (left : ℕ) : Type 0 where
    pub items : List Item
    pub holds : reverse stack ≡ numbers_of items
    pub opened : Opened node nodes e start (length list₀) list left items (pops node e)
    pub most : left ≤ 4096
    pub room : length stack + left ≤ stack_length

  -- The walk stands on a node.
  pub record Standing (stack : List ℕ) (list : List EstJoinPath) (left here : ℕ) : Type 0 where
    pub items : List Item
    pub holds : reverse stack ≡ numbers_of items
    pub opened : Opened node nodes e start (length list₀) list left items (λ k s. walked k node e here s)
    pub within : here < nodes
    pub most : left ≤ 4096
    pub room : length stack + left ≤ stack_length

  -- A node is to be closed: its opening was on top, and the node is below it.
  pub record Closing (stack : List ℕ) (list : List EstJoinPath) (left opening : ℕ) : Type 0 where
    pub below : stack ≢ []
    pub closes : (stack' : List ℕ) (i : ℕ) → stack ≡ stack' ++ (i ∷ [])
        → Closes node nodes e list left i (opening_at opening) (opening_left opening) (pops node e)
    pub popping : (stack' : List ℕ) (i : ℕ) → stack ≡ stack' ++ (i ∷ []) → Popping stack' list left

  pub popping_start : (stack : List ℕ) → stack ≡ start ∷ [] → start < nodes → Popping stack list₀ 4096
  popping_start stack s h = record {
    items = Alternative start ∷ [];
    holds = ap reverse s;
    opened = (h, closes_begun node nodes e list₀ 4096 start h (omega arith) (omega arith));
    most = omega arith;
    room = let l : length stack ≡ 1 = ap length s in omega arith;
  }

  module _ {stack : List ℕ} {list : List EstJoinPath} {left : ℕ} (v : Popping stack list left) where
    -- nothing is stacked: the walk has ended
    pub popping_last : (m : ℕ) → Pushed m list₀ list → stack ≡ []
        → strands 4096 node e m (strand_from start list₀) ≡ some list
    unfolding pushed_all
    popping_last m p z = go v.items v.holds v.opened
      where
        go : (xs : List Item) → reverse stack ≡ numbers_of xs
            → Opened node nodes e start (length list₀) list left xs (pops node e)
            → strands 4096 node e m (strand_from start list₀) ≡ some list
        go [] h o = answer_is node nodes e m start list₀ list left [] (pops node e) o p
        go (Alternative i ∷ xs) h o = absurd (none_on stack i (numbers_of xs) z h)
        go (Open i begin opened ∷ xs) h o = absurd (none_on stack (opening_of begin opened) (i ∷ numbers_of xs) z h)

    module _ (stack' : List ℕ) (top : ℕ) (p : stack ≡ stack' ++ (top ∷ [])) (most : nodes ≤ 65535) where
      -- an alternative is on top: it is walked
      pub popping_on : top < 65536 → Standing stack' list left top
      popping_on l = go v.items v.holds v.opened
        where
          go : (xs : List Item) → reverse stack ≡ numbers_of xs
              → Opened node nodes e start (length list₀) list left xs (pops node e) → Standing stack' list left top
          go [] h o = not_none stack stack' top p h
          go (Alternative i ∷ xs) h o =
              let a = on_top stack stack' top i (numbers_of xs) p h in record {
                items = xs;
                holds = a.1;
                opened =
                    subst (λ (j : ℕ). Opened node nodes e start (length list₀) list left xs
                    (λ k s. walked k node e j s)) (sym a.0) o.1;
                within = subst (λ (j : ℕ). j < nodes) (sym a.0) o.0;
                most = v.most;
                room = omega (arith, v.room, shorter stack stack' top p);
              }
          go (Open i begin opened ∷ xs) h o =
              let a : top ≡ 65535 + begin * 4096 + opened =
              (on_top stack stack' top (opening_of begin opened) (i ∷ numbers_of xs) p h).0 in
              absurd (omega (arith, o.0.least))

      -- an opening is on top
      pub popping_closes : 65536 ≤ top → Closing stack' list left top
      popping_closes l = go v.items v.holds v.opened
        where
          go : (xs : List Item) → reverse stack ≡ numbers_of xs
              → Opened node nodes e start (length list₀) list left xs (pops node e) → Closing stack' list left top
          go [] h o = not_none stack stack' top p h
          go (Alternative i ∷ xs) h o = let a = (on_top stack stack' top i (numbers_of xs) p h).0 in let b = o.0 in
              absurd (omega arith)
          go (Open i begin opened ∷ xs) h o =
              let a = on_top stack stack' top (opening_of begin opened) (i ∷ numbers_of xs) p h in
              let m : top ≡ 65535 + begin * 4096 + opened = a.0 in
              let f : begin ≡ opening_at top = omega (arith, o.0.least, o.0.most) in
              let g : opened ≡ opening_left top = omega (arith, o.0.least, o.0.most) in
              record {
                below = λ (z : stack' ≡ []). none_on stack' i (numbers_of xs) z a.1;
                closes = λ stack'' j q.
                    subst (λ (j : ℕ). Closes node nodes e list left j (opening_at top) (opening_left top) (pops node e))
                    (sym (on_top stack' stack'' j i (numbers_of xs) q a.1).0)
                    (subst (λ (j : ℕ). Closes node nodes e list left i j (opening_left top) (pops node e)) f
                    (subst (λ (j : ℕ). Closes node nodes e list left i begin j (pops node e)) g o.0));
                popping = λ stack'' j q. record {
                  items = xs;
                  holds = (on_top stack' stack'' j i (numbers_of xs) q a.1).1;
                  opened = o.1;
                  most = v.most;
                  room = omega (arith, v.room, shorter stack stack' top p, shorter stack' stack'' j q);
                };
              }

  -- A next was read: where the strand is left, and where it goes on.
  pub record Turned (m : ℕ) (list : List EstJoinPath) (left next : ℕ) (stack₂ : List ℕ) (y : EstTime) (met : Bool)
      (list' : List EstJoinPath) : Type 0 where
    pub pushed : Pushed m list list'
    pub leaves : (ends : Bool) → ends_strand y ≡ ends → (met || ends) ≡ true → Popping stack₂ list' (left - 1)
    pub goes : (ends : Bool) → ends_strand y ≡ ends → (met || ends) ≡ false → Standing stack₂ list' (left - 1) next

  -- ---- where the walk stands

  module _ {stack : List ℕ} {list : List EstJoinPath} {left here : ℕ} (v : Standing stack list left here) where
    -- no next may be read
    pub standing_over : (m : ℕ) → Pushed m list₀ list → left ≡ 0
        → strands 4096 node e m (strand_from start list₀) ≡ none
    standing_over m p z =
        answer_is node nodes e m start list₀ list left v.items (λ k s. walked k node e here s) v.opened p
        ∙ ap (λ (t : Option (List ℕ)). pushed_each m t list)
        (ap (λ (k : ℕ). walked k node e here (stack_of v.items [])) z ∙ walk_none node e here (stack_of v.items []))

    -- what strands from here give is noted
    module _ {begin end nexts : ℕ} (g : WalkGives node e list here begin end nexts) (m : ℕ) where
      rest : ℕ → Option (List ℕ)
      rest j = popped_to (stack_of v.items []) (walked j node e)

      known_is : Pushed m list₀ list → strands 4096 node e m (strand_from start list₀)
          ≡ pushed_each m (spend nexts (nodes_in list begin (end - begin)) rest left) list
      unfolding rest
      known_is p =
          answer_is node nodes e m start list₀ list left v.items (λ k s. walked k node e here s) v.opened p
          ∙ ap (λ (t : Option (List ℕ)). pushed_each m t list) (g.gives left (stack_of v.items []))

      -- fewer nexts are left than that was read for
      pub known_short : Pushed m list₀ list → left < nexts → strands 4096 node e m (strand_from start list₀) ≡ none
      known_short p h =
          known_is p ∙ ap (λ (t : Option (List ℕ)). pushed_each m t list)
          (spend_short nexts (nodes_in list begin (end - begin)) rest left h)

      -- it doesn't fit
      pub known_over : Pushed m list₀ list → pushed_all m (nodes_in list begin (end - begin)) list ≡ none
          → strands 4096 node e m (strand_from start list₀) ≡ none
      known_over p h = known_is p ∙ each_over m list (nodes_in list begin (end - begin)) h nexts rest left

      -- it is pushed
      pub known_pushed : (list' : List EstJoinPath) → pushed_all m (nodes_in list begin (end - begin)) list ≡ some list'
          → nexts ≤ left → Popping stack list' (left - nexts) × Pushed m list list'
      known_pushed list' h l =
          let p = pushed_more m (nodes_in list begin (end - begin)) list list' h in
          let q : Reads list left list' (left - nexts) nexts (nodes_in list begin (end - begin)) = record {
            same = p.1.same;
            behind = p.0;
            reads = omega arith;
          } in (
            record {
              items = v.items;
              holds = v.holds;
              opened =
                  opened_on_lem node nodes e start (length list₀) q v.items (λ k s. walked k node e here s)
                  (pops node e) g.gives v.opened;
              most = omega (arith, v.most);
              room = omega (arith, v.room);
            },
            p.1,
          )

    -- ---- a next is read: the node is loaded as x and opened or not, its alternative stacked, its next loaded as y

    module _ (ix : Indexed node nodes) (x : EstTime) (l : x ≡ node here) where
      pub next_within : x.idx_next < nodes
      next_within = subst (λ (z : EstTime). z.idx_next < nodes) (sym l) (ix.next here v.within)

      module _ (y : EstTime) (f : y ≡ node x.idx_next) where
        -- what is known of y is known of the node's next
        there : {A : Type 0} (P : EstTime → A) (a : A) → P y ≡ a → P (node (node here).idx_next) ≡ a
        there P a p = ap (λ (z : EstTime). P (node z.idx_next)) (sym l) ∙ ap P (sym f) ∙ p

        -- the walk from here, by what the next is
        gives-met : same_event y.link_event e ≡ true → (k : ℕ) (s : List ℕ)
            → walked k node e here s ≡ spend 1 (x.idx_next ∷ [])
            (λ j. pops node e j (alternative_stacked x.idx_next_alt s)) k
        gives-met p k s =
            subst (λ (z : EstTime). walked k node e here s
            ≡ spend 1 (z.idx_next ∷ []) (λ j. pops node e j (alternative_stacked z.idx_next_alt s)) k) (sym l)
            (walk_met node e here (there (λ z. same_event z.link_event e) true p) k s)

        gives-ends : same_event y.link_event e ≡ false → ends_strand y ≡ true → (k : ℕ) (s : List ℕ)
            → walked k node e here s ≡ spend 1 [] (λ j. pops node e j (alternative_stacked x.idx_next_alt s)) k
        gives-ends p q k s =
            subst (λ (z : EstTime). walked k node e here s
            ≡ spend 1 [] (λ j. pops node e j (alternative_stacked z.idx_next_alt s)) k) (sym l)
            (walk_ends node e here (there (λ z. same_event z.link_event e) false p) (there ends_strand true q) k s)

        gives-on : same_event y.link_event e ≡ false → ends_strand y ≡ false → (k : ℕ) (s : List ℕ)
            → walked k node e here s ≡ spend 1 [] (λ j. walked j node e x.idx_next
            (alternative_stacked x.idx_next_alt s)) k
        gives-on p q k s =
            subst (λ (z : EstTime). walked k node e here s
            ≡ spend 1 [] (λ j. walked j node e z.idx_next (alternative_stacked z.idx_next_alt s)) k) (sym l)
            (walk_on node e here (there (λ z. same_event z.link_event e) false p) (there ends_strand false q) k s)

        -- it has the event and doesn't fit
        pub standing_full : (m : ℕ) → Pushed m list₀ list → same_event y.link_event e ≡ true
            → push list (entry m x.idx_next) ≡ none → strands 4096 node e m (strand_from start list₀) ≡ none
        standing_full m w p h =
            answer_is node nodes e m start list₀ list left v.items (λ k s. walked k node e here s) v.opened w
            ∙ ap (λ (t : Option (List ℕ)). pushed_each m t list) (gives-met p left (stack_of v.items []))
            ∙ each_over m list (x.idx_next ∷ []) (sym (pushed_one m true x.idx_next list) ∙ h) 1
            (λ j. pops node e j (alternative_stacked x.idx_next_alt (stack_of v.items []))) left

        -- the node's own item, and its alternative's, are on the stack; the next is pushed if it has the event
        module _ (least : 0 < left) (b : Bool) (stack₂ : List ℕ)
            (h₂ : reverse stack₂ ≡ alternative_stacked x.idx_next_alt
            (opened_if b (opening_of (length list) left) here (reverse stack)))
            (r₂ : length stack₂ + left ≤ stack_length + 1)
            (m : ℕ) (met : Bool) (p : same_event y.link_event e ≡ met) (list' : List EstJoinPath)
            (a : pushed_if met list (entry m x.idx_next) ≡ some list') where
          -- the items, but for the alternative
          abbrev xs : List Item
          xs = opened_on b here (length list) left v.items

          stands : Opened node nodes e start (length list₀) list left xs (λ k s. walked k node e here s)
          stands =
              opened_more node nodes e start (length list₀) b list left here v.items v.within (omega arith) v.most
              v.opened

          holds₂ : reverse stack₂ ≡ numbers_of (stacked_on x.idx_next_alt xs)
          holds₂ =
              h₂
              ∙ ap (alternative_stacked x.idx_next_alt)
              (ap (opened_if b (opening_of (length list) left) here) v.holds
              ∙ opened_numbers b here (length list) left v.items)
              ∙ stacked_numbers x.idx_next_alt xs

          alt-within : x.idx_next_alt < nodes
          alt-within = subst (λ (z : EstTime). z.idx_next_alt < nodes) (sym l) (ix.next_alt here v.within)

          got : (nodes_in list' (length list) (length list' - length list) ≡ cons_if met x.idx_next [])
              × Pushed m list list'
          got = pushed_more m (cons_if met x.idx_next []) list list' (sym (pushed_one m met x.idx_next list) ∙ a)

          reads : Reads list left list' (left - 1) 1 (cons_if met x.idx_next [])
          reads = record { same = got.1.same; behind = got.0; reads = omega arith }

          -- all that is opened moves on
          moved : (rest : Rest) → ((k : ℕ) (s : List ℕ)
              → walked k node e here s ≡ spend 1 (cons_if met x.idx_next [])
              (λ j. rest j (alternative_stacked x.idx_next_alt s)) k)
              → Opened node nodes e start (length list₀) list' (left - 1) (stacked_on x.idx_next_alt xs) rest
          moved rest h =
              opened_stacked node nodes e start (length list₀) x.idx_next_alt list' (left - 1) xs rest alt-within
              (opened_on_lem node nodes e start (length list₀) reads xs (λ k s. walked k node e here s)
              (λ k s. rest k (alternative_stacked x.idx_next_alt s)) h stands)

          -- the strand is left
          turned-leaves : (ends : Bool) → ends_strand y ≡ ends → (met || ends) ≡ true → Popping stack₂ list' (left - 1)
          turned-leaves ends q t = record {
            items = stacked_on x.idx_next_alt xs;
            holds = holds₂;
            opened = moved (pops node e) (go met ends p q t);
            most = omega (arith, v.most);
            room = omega arith;
          }
            where
              go : (b c : Bool) → same_event y.link_event e ≡ b → ends_strand y ≡ c → (b || c) ≡ true
                  → (k : ℕ) (s : List ℕ) → walked k node e here s
                  ≡ spend 1 (cons_if b x.idx_next []) (λ j. pops node e j (alternative_stacked x.idx_next_alt s)) k
              go true c p q t = gives-met p
              go false true p q t = gives-ends p q
              go false false p q t = absurd (true≢false (sym t))

          -- it goes on at the next
          turned-goes : (ends : Bool) → ends_strand y ≡ ends → (met || ends) ≡ false
              → Standing stack₂ list' (left - 1) x.idx_next
          turned-goes ends q t = record {
            items = stacked_on x.idx_next_alt xs;
            holds = holds₂;
            opened = moved (λ k s. walked k node e x.idx_next s) (go met ends p q t);
            within = next_within;
            most = omega (arith, v.most);
            room = omega arith;
          }
            where
              go : (b c : Bool) → same_event y.link_event e ≡ b → ends_strand y ≡ c → (b || c) ≡ false
                  → (k : ℕ) (s : List ℕ) → walked k node e here s
                  ≡ spend 1 (cons_if b x.idx_next []) (λ j. walked j node e x.idx_next
                  (alternative_stacked x.idx_next_alt s)) k
              go true c p q t = absurd (true≢false t)
              go false true p q t = absurd (true≢false t)
              go false false p q t = gives-on p q

          pub standing-turned : Turned m list left x.idx_next stack₂ y met list'
          standing-turned = record { pushed = got.1; leaves = turned-leaves; goes = turned-goes }

-- where both loops begin
pub ruleset beginning_laws = (popping_start, popping_on, pushed_start)
