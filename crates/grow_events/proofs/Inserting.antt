-- One event inserted: the definition's answer by the code's, and that the lent slices hold the network and the run that
-- it gives.
use mathlib.Core.Path.{◌≡◌, refl, sym, ap, ◌∙◌, subst}
use mathlib.Core.Logic.{◌⊎◌, inl, inr, ◌≢◌}
use mathlib.Core.Bool.{Bool, true, false, true≢false}
use mathlib.Core.List.{List}
use Prim.Native.Nat.{ℕ, ◌+◌, ◌*◌, ◌≤◌, ◌<◌}
use native.Mathlib.Omega.{arith}
use lib.Dec.{ltb}
use lib.Ieee.{Float}
use lib.ListN.{length, get_or}
use Rattle.laws.proofs.Truth.{equal_or_not}
use Rattle.net_node.proofs.Tables.{RoomIn}
use Rattle.net_node.specs.declared.EstType.TheVariants.{Fake}
use Rattle.net_node.specs.declared.EstTime.{EstTime}
use Rattle.net_node.specs.declared.TimedEvent.{TimedEvent}
use Rattle.net_node.specs.Table.{node_at, Indexed, Table, at}
use Rattle.net_insertion.specs.declared.Place.{Place}
use Rattle.std.specs.Prelude.{Result, Ok, Err}
use Rattle.refusals.specs.declared.Refusal.{Refusal}
use Rattle.net_insertion.specs.declared.Insertion.{Insertion}
use Rattle.net_insertion.specs.declared.Insertion.TheVariants.{Added, Moved}
use Rattle.net_join_paths.specs.declared.EstJoinPath.{EstJoinPath}
use Rattle.net_insertion.specs.Insertion.{linked_to, event_node, split_fake, inserted, inserted_table, InsertedInto}
use Rattle.net_insertion.specs.Insertion.{flagged, table_of}
use Rattle.net_insertion.proofs.Kept.{inserted_same, more, Kept, inserted_room, call_kept}
use Rattle.net_event_map.specs.declared.Layout.{Layout}
use Rattle.net_event_map.specs.EventMap.{Mapped, MapOnly, MapsNode}
use Rattle.net_event_map.proofs.Kept.{apart_same, mapped_same, mapped_fake}
use Rattle.grow_rules.specs.Run.{Net, Run, arc_to, member_of, count_if, added_to, moved_to, insert_event, goes_on}
use Rattle.grow_rules.specs.Run.{inserted_run as answeredAs}
use Rattle.grow_events.specs.declared.Counts.{Counts}
use Rattle.grow_events.specs.declared.Mover.{Mover}
use Rattle.grow_events.specs.Held.{ends_at, NetIn, RunIn, GoesAs, InsertedAs, counts_added}
use Rattle.grow_events.proofs.Kept.{valid_more}
use Rattle.grow_ends.proofs.Kept.{ends_same, below_more}

-- ---- laws of what is held

pub count_more : (b : Bool) (n : ℕ) → b ≡ true → n + 1 ≡ count_if b n
count_more true n e = omega arith
count_more false n e = absurd (true≢false (sym e))

pub count_same : (b : Bool) (n : ℕ) → b ≡ false → n ≡ count_if b n
count_same false n e = refl
count_same true n e = absurd (true≢false e)

-- by how many nodes an addition adds
added_sum : (n i a s j : ℕ) (split : Bool) → n ≡ 2 + a + s + j → i + 1 ≡ n + more split
    → i + 1 ≡ 2 + (a + 1) + count_if split s + j
added_sum n i a s j true e k = omega arith
added_sum n i a s j false e k = omega arith

module _ {w : Layout} {start : List ℕ} {fs : List Float} {us cells : List ℕ} {c : Counts} {net : Net}
    (v : NetIn w start fs us cells c net) where
  pub net_indexed : Indexed (at (table_of fs us)) c.nodes
  unfolding at
  net_indexed = v.indexed

  pub net_mapped : Mapped cells w (at (table_of fs us)) c.nodes
  unfolding at
  net_mapped = v.mapped

  -- ---- a node that is added

  module _ (join : Float) (p : Place) (e : TimedEvent) (h : p.idx_prev < c.nodes) where
    abbrev ended : ℕ → Bool
    ended = flagged cells (ends_at w)

    abbrev answer : Result Insertion Refusal
    answer = inserted (table_of fs us) c.nodes w.places ended join p e

    abbrev KeptAs : Table → Result Insertion Refusal → Type 0
    KeptAs = Kept (table_of fs us) c.nodes w.places ended join p e

    kept_now : (fs' : List Float) (us' : List ℕ) (a : Result Insertion Refusal) → a ≡ answer
        → InsertedInto (table_of fs us) c.nodes join p e fs' us' a → KeptAs (table_of fs' us') a
    kept_now = call_kept (table_of fs us) c.nodes w.places ended join p e v.room net_indexed h

    -- node i is new
    pub record Fresh (i : ℕ) (split : Bool) : Type 0 where
      pub some : 0 < i
      pub below : i < w.places
      pub count : i + 1 ≡ c.nodes + more split
      pub grows : c.nodes ≤ i + 1

    -- it has the event, and the cells say what the nodes before it have
    record Ready (after : Table) (i : ℕ) (split : Bool) : Type 0 where
      fresh : Fresh i split
      event : (at after i).link_event ≡ e.link_event
      mapped : Mapped cells w (at after) i
      indexed : Indexed (at after) (i + 1)

    -- the nodes that were there have the same events
    still_mapped : (after : Table) (i : ℕ) → (at after i).link_event ≡ (at (table_of fs us) i).link_event
        → ((j : ℕ) → j < c.nodes → j ≢ i → at after j ≡ at (table_of fs us) j) → Mapped cells w (at after) c.nodes
    still_mapped after i x s = mapped_same (at (table_of fs us)) (at after) cells w c.nodes (omega arith)
        (λ j g. go j g (equal_or_not j i)) net_mapped
      where
        go : (j : ℕ) → j < c.nodes → (j ≡ i) ⊎ (j ≡ i → ⊥)
            → (at after j).link_event ≡ (at (table_of fs us) j).link_event
        go j g (inl d) = ap (λ (y : ℕ). (at after y).link_event) d ∙ x
            ∙ ap (λ (y : ℕ). (at (table_of fs us) y).link_event) (sym d)
        go j g (inr d) = ap (λ (y : EstTime). y.link_event) (s j g d)

    new_event : (after : Table) (i j prev : ℕ) → j ≡ i → at after j ≡ event_node e prev
        → (at after i).link_event ≡ e.link_event
    unfolding event_node
    new_event after i j prev d x = ap (λ (y : ℕ). (at after y).link_event) (sym d)
        ∙ ap (λ (y : EstTime). y.link_event) x

    ready_behind : (after : Table) (q : Place) → KeptAs after (Ok (Added q false)) → Ready after q.idx_prev false
    unfolding linked_to
    ready_behind after q k =
        let i : c.nodes ≡ q.idx_prev = omega (arith, k.grown.last) in
        record {
          fresh = record {
            some = omega (arith, k.grown.last, v.sum);
            below = omega (arith, k.grown.last, k.grown.room);
            count = k.grown.last;
            grows = omega (arith, k.grown.last);
          };
          event = new_event after q.idx_prev c.nodes k.node i k.added;
          mapped = subst (Mapped cells w (at after)) i (still_mapped after k.node
              (ap (λ (x : EstTime). x.link_event) k.found) (λ j g d. k.others j d (λ (o : j ≡ c.nodes). omega arith)));
          indexed = subst (Indexed (at after)) (sym k.grown.last) k.grown.indexed;
        }

    ready_split : (after : Table) (q : Place) → KeptAs after (Ok (Added q true)) → Ready after q.idx_prev true
    unfolding linked_to split_fake
    ready_split after q k =
        let i : c.nodes + 1 ≡ q.idx_prev = omega (arith, k.grown.last) in
        let fake : (at after c.nodes).link_event.est_type ≡ Fake = ap (λ (x : EstTime). x.link_event.est_type) k.fake in
        let others : (j : ℕ) → j < c.nodes → j ≢ k.node → at after j ≡ at (table_of fs us) j =
        λ j g d. k.others j d (λ (o : j ≡ c.nodes). omega arith) (λ (o : j ≡ c.nodes + 1). omega arith) in
        record {
          fresh = record {
            some = omega (arith, k.grown.last, v.sum);
            below = omega (arith, k.grown.last, k.grown.room);
            count = k.grown.last;
            grows = omega (arith, k.grown.last);
          };
          event = new_event after q.idx_prev (c.nodes + 1) c.nodes i k.added;
          mapped = subst (Mapped cells w (at after)) i (mapped_fake
              (still_mapped after k.node (ap (λ (x : EstTime). x.link_event) k.found) others)
              (omega (arith, k.grown.room)) fake);
          indexed = subst (Indexed (at after)) (sym k.grown.last) k.grown.indexed;
        }

    ready_as : (after : Table) (q : Place) (split : Bool) → KeptAs after (Ok (Added q split))
        → Ready after q.idx_prev split
    ready_as after q false k = ready_behind after q k
    ready_as after q true k = ready_split after q k

    -- by the contract of `insert_est_time`
    added_ready : (fs' : List Float) (us' : List ℕ) (a : Result Insertion Refusal) → a ≡ answer
        → InsertedInto (table_of fs us) c.nodes join p e fs' us' a → (q : Place) (split : Bool) → a ≡ Ok (Added q split)
        → Ready (table_of fs' us') q.idx_prev split
    added_ready fs' us' a f l q split g = ready_as (table_of fs' us') q split
        (subst (KeptAs (table_of fs' us')) g (kept_now fs' us' a f l))

    pub added_fresh : (fs' : List Float) (us' : List ℕ) (a : Result Insertion Refusal) → a ≡ answer
        → InsertedInto (table_of fs us) c.nodes join p e fs' us' a → (q : Place) (split : Bool) → a ≡ Ok (Added q split)
        → Fresh q.idx_prev split
    added_fresh fs' us' a f l q split g = (added_ready fs' us' a f l q split g).fresh

-- ---- the network and the run then

module _ {w : Layout} {start : List ℕ} {fs : List Float} {us cells : List ℕ} {c : Counts} {net : Net}
    (v : NetIn w start fs us cells c net) {leg : ℕ} {joins : List EstJoinPath} {m : Mover} {run : Run}
    (u : RunIn c.nodes leg joins m run)
    (join : Float) (e : TimedEvent) where
  abbrev table_then : Table
  table_then = inserted_table (table_of fs us) c.nodes join m.place e

  event_is : insert_event w.places join net run e ≡ answeredAs net run e table_then (answer v join m.place e u.stands)
  unfolding insert_event
  event_is =
      ap (λ (x : Table). answeredAs net run e (inserted_table x net.nodes join run.place e)
      (inserted x net.nodes w.places (member_of net.ends) join run.place e)) v.table
      ∙ ap (λ (n : ℕ). answeredAs net run e (inserted_table (table_of fs us) n join run.place e)
      (inserted (table_of fs us) n w.places (member_of net.ends) join run.place e)) v.nodes
      ∙ ap (λ (p : Place). answeredAs net run e (inserted_table (table_of fs us) c.nodes join p e)
      (inserted (table_of fs us) c.nodes w.places (member_of net.ends) join p e)) u.place
      ∙ ap (answeredAs net run e table_then) (inserted_same (table_of fs us) c.nodes w.places (member_of net.ends)
      (flagged cells (ends_at w)) join m.place e (net_indexed v) u.stands
      (λ i h. sym (v.ended i (omega (arith, v.within)))))

  -- what the code got from `insert_est_time`
  module _ (fs' : List Float) (us' : List ℕ) (a : Result Insertion Refusal) (f : a ≡ answer v join m.place e u.stands)
      (l : InsertedInto (table_of fs us) c.nodes join m.place e fs' us' a) where
    answers : (x : Result Insertion Refusal) → a ≡ x
        → goes_on (insert_event w.places join net run e) ≡ goes_on (answeredAs net run e table_then x)
    answers x h = ap goes_on (event_is ∙ ap (answeredAs net run e table_then) (sym f ∙ h))

    pub insert_refused : (r : Refusal) → a ≡ Err r → (x : Result (Counts × Mover) Refusal) → x ≡ Err r
        → InsertedAs (insert_event w.places join net run e) w start leg fs' us' cells joins x
    insert_refused r h x g = subst (InsertedAs (insert_event w.places join net run e) w start leg fs' us' cells joins)
        (sym g) (event_is ∙ ap (answeredAs net run e table_then) (sym f ∙ h))

    pub insert_moved : (q : Place) → a ≡ Ok (Moved q)
        → GoesAs (goes_on (insert_event w.places join net run e)) w start leg fs' us' cells joins c
        (record { place = q; has_split = m.has_split })
    unfolding moved_to
    insert_moved q h =
        let k : KeptAs v join m.place e u.stands (table_of fs' us') (Ok (Moved q)) =
        subst (KeptAs v join m.place e u.stands (table_of fs' us')) h
        (kept_now v join m.place e u.stands fs' us' a f l) in
        record {
          after = record { net = net; run = moved_to run q run.has_split };
          is = answers (Ok (Moved q)) h;
          net = subst (λ (x : Table). NetIn w start x.floats x.numbers cells c net) (sym k.table) v;
          run = record {
            place = refl;
            leg = u.leg;
            has_split = u.has_split;
            joins = u.joins;
            few = u.few;
            valid = u.valid;
            stands = k.within;
          };
        }

    -- and from `net_event_map::insert`
    module _ (q : Place) (split : Bool) (h : a ≡ Ok (Added q split)) (cells' : List ℕ)
        (long : length cells' ≡ length cells)
        (mapped : MapsNode cells cells' w q.idx_prev e.link_event) (only : MapOnly cells cells' w) where
      ready : Ready v join m.place e u.stands (table_of fs' us') q.idx_prev split
      ready = added_ready v join m.place e u.stands fs' us' a f l q split h

      abbrev counts : Counts
      counts = counts_added c q.idx_prev split

      -- an end's cell is none of the map's
      end_stays : (i : ℕ) → i < w.places → get_or cells' (ends_at w + i * 8) 0 ≡ get_or cells (ends_at w + i * 8) 0
      end_stays i g = only.stays (ends_at w + i * 8) (λ l k a b d. omega (arith, v.apart.apart)) (λ j a d. omega arith)

      same : ◌≡◌ {A = Table} table_then (table_of fs' us')
      same = let z = subst (InsertedInto (table_of fs us) c.nodes join m.place e fs' us') h l in
          λ k. record { floats = sym z.0 k; numbers = sym z.1 k }

      added_net : NetIn w start fs' us' cells' counts (added_to net table_then q split (arc_to run.place q.idx_prev e))
      unfolding added_to at flagged
      added_net = record {
        table = same;
        nodes = omega arith;
        added = omega (arith, v.added);
        splits = ap (count_if split) v.splits;
        joined = v.joined;
        sum = added_sum c.nodes q.idx_prev c.added c.splits c.joined split v.sum ready.fresh.count;
        room = subst (λ (x : Table). RoomIn x w.places) same
            (inserted_room (table_of fs us) c.nodes w.places (flagged cells (ends_at w)) join m.place e v.room);
        within = omega (arith, ready.fresh.below);
        indexed = ready.indexed;
        apart = apart_same long v.apart;
        mapped = mapped (node_at fs' us') ready.event ready.mapped;
        ends = ends_same cells (ends_at w) cells' c.last_end c.nodes net.ends v.ends_below
            (λ i g. end_stays i (omega (arith, v.within))) v.ends;
        ends_below = below_more c.nodes (q.idx_prev + 1) net.ends ready.fresh.grows v.ends_below;
        ended = λ i g. ap (ltb 0) (end_stays i g) ∙ v.ended i g;
        elsewhere = λ x g f. only.stays x (λ j k a b d. omega arith)
            (λ i a (d : x ≡ w.nodes_at + i * 8). f i 0 a (omega arith) (omega arith)) ∙ v.elsewhere x g f;
      }

      pub insert_added : (d : Counts) → d ≡ counts → GoesAs
          (goes_on (insert_event w.places join net run e)) w start leg fs' us' cells' joins d
          (record { place = q; has_split = true })
      unfolding moved_to
      insert_added d z = subst (λ (d : Counts). GoesAs
          (goes_on (insert_event w.places join net run e)) w start leg fs' us' cells' joins d
          (record { place = q; has_split = true })) (sym z) (record {
            after = record {
              net = added_to net table_then q split (arc_to run.place q.idx_prev e);
              run = moved_to run q true;
            };
            is = answers (Ok (Added q split)) h;
            net = added_net;
            run = record {
              place = refl;
              leg = u.leg;
              has_split = refl;
              joins = u.joins;
              few = u.few;
              valid = valid_more ready.fresh.grows u.valid;
              stands = omega arith;
            };
          })
