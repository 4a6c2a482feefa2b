-- The whole of growth: nodes 0 and 1 in cells of zeros, the origins, all runs, the ends.
use mathlib.Core.Path.{◌≡◌, refl, sym, ap, ◌∙◌, subst}
use mathlib.Core.Bool.{Bool}
use mathlib.Core.List.{List, []}
use Prim.{tt}
use Prim.Native.Nat.{ℕ, zero, suc, ◌+◌, ◌*◌, ◌≤◌, ◌<◌}
use native.Mathlib.Omega.{arith}
use borrow.Author.Tests.{lt-ltb, le-ltb}
use lib.Dec.{ltb}
use lib.ListN.{length, get_or}
use lib.Ieee.{Float, binary64, of_bits, nan}
use Rattle.net_join_paths.specs.declared.EstJoinPath.{EstJoinPath}
use Rattle.net_node.specs.Left.{places_of}
use Rattle.laws.specs.Answer.{Answer, refused, and_then}
use Rattle.book_format.specs.Format.{links, legs}
use Rattle.book_options.specs.Options.{kept_origins}
use Rattle.book_reader.specs.Reader.{Ready}
use Rattle.net_node.specs.declared.EstTime.{EstTime}
use Rattle.net_node.specs.Table.{Room, node_at, Table, put, at, float_width, number_width}
use Rattle.net_event_map.proofs.Kept.{mapped_start}
use Rattle.grow_ends.proofs.Kept.{ends_none, flag_none, first_room, first_indexed, node_one, zero_fake, one_fake}
use Rattle.grow_path.specs.Path.{point_offset}
use Rattle.grow_path.specs.Kept.{PathIn}
use Rattle.grow_waiting.proofs.Kept.{saved_none}
use Rattle.grow_rules.specs.Run.{Net, Run}
use Rattle.grow_rules.specs.Growth.{Growth, fake_node, first_nodes, grow_origins, drive, start_as, grow}
use Rattle.grow_rules.specs.Growth.{Grown}
use Rattle.grow_events.specs.Held.{NetIn, ends_at}
use Rattle.grow_state.specs.declared.Plan.{Plan}
use Rattle.grow_events.specs.declared.Counts.{Counts}
use Rattle.grow_state.specs.declared.Rest.{Rest}
use Rattle.std.specs.Prelude.{Result, Ok, Err}
use Rattle.refusals.specs.declared.Refusal.{Refusal}
use Rattle.refusals.specs.Refusals.{refusal_number}
use Rattle.report.specs.declared.Report.{Report}
use Rattle.arcs_growth.proofs.Books.{read_rows_lem}
use Rattle.grow_state.specs.Held.{PlanIn, DriveIn, idle, lists}
use Rattle.grow_origins.specs.Origins.{start_state, OriginsIn, SomeOrigins, OnlyStart, OriginsGiven, OriginsAs}
use Rattle.grow_origins.specs.Origins.{GrowsOrigins}
use Rattle.net_insertion.specs.Insertion.{table_of}
use Rattle.grow_book.specs.Answers.{DrivenAs, DriveAs, closing, grown_from, Closing, SomeClosing, GrownAs, AtStart}
use Rattle.grow_book.specs.Answers.{FromOrigins}

-- ---- from the origins on

driven_from : List ℕ → ℕ → Growth → Answer Grown
driven_from b places g = and_then (drive (legs b) b places g.net g.saved) (closing places)

from_is : (b : List ℕ) (places : ℕ) (net : Net)
    → grown_from b places net ≡ and_then (grow_origins b places (kept_origins b) (record { net = net; saved = [] }))
    (driven_from b places)
unfolding grown_from driven_from
from_is b places net = refl

driven_is : (b : List ℕ) (places : ℕ) (g : Growth)
    → driven_from b places g ≡ and_then (drive (legs b) b places g.net g.saved) (closing places)
unfolding driven_from
driven_is b places g = refl

-- reals of the same length fit the plan
pub all_start : (fs : List Float) (us : List ℕ) (g : Rest) → g ≡ start_state → OnlyStart (node_at fs us) 2
    → OnlyStart (node_at fs us) g.counts.nodes
unfolding start_state
all_start fs us g first s = subst (λ (x : Rest). OnlyStart (node_at fs us) x.counts.nodes) (sym first) s

module _ (b : List ℕ) (p : Plan) (fs : List Float) (us : List ℕ) (reals : List Float) (cells : List ℕ)
    (joins : List EstJoinPath) (g : Rest) (first : g ≡ start_state) where
  pub all_some : AtStart b p (lists fs us reals cells joins)
      → SomeOrigins b p (lists fs us reals cells joins) (kept_origins b) g
  all_some s = subst (SomeOrigins b p (lists fs us reals cells joins) (kept_origins b)) (sym first)
      (record { net = first_nodes b s.table; runs = []; origins = s.origins })

  module _ (fs' : List Float) (us' : List ℕ) (reals' : List Float) (cells' : List ℕ) (joins' : List EstJoinPath)
      (t : Result Rest Refusal)
      (told : GrowsOrigins b p g (lists fs us reals cells joins) (lists fs' us' reals' cells' joins') t) where
    with_origins_lem : GrowsOrigins b p start_state (lists fs us reals cells joins)
        (lists fs' us' reals' cells' joins') t
    with_origins_lem net runs o = told net runs (subst
        (λ (x : Rest). OriginsIn b p (lists fs us reals cells joins) (kept_origins b) x net runs) (sym first) o)

    pub all_stopped : (k : Refusal) → t ≡ Err k → (net : Net)
        → OriginsIn b p (lists fs us reals cells joins) (kept_origins b) start_state net []
        → grown_from b p.w.places net ≡ refused (refusal_number k)
    all_stopped k e net o = from_is b p.w.places net
        ∙ ap (λ (a : Answer Growth). and_then a (driven_from b p.w.places))
        (subst (OriginsAs (grow_origins b p.w.places (kept_origins b) (record { net = net; saved = [] })) b p
        (lists fs' us' reals' cells' joins') []) e (with_origins_lem net [] o))

    module _ (s : Rest) (e : t ≡ Ok s) where
      as_origins : (net : Net) (runs : List Run) → OriginsIn b p (lists fs us reals cells joins)
          (kept_origins b) start_state net runs → OriginsGiven
          (grow_origins b p.w.places (kept_origins b) (record { net = net; saved = runs })) b p
          (lists fs' us' reals' cells' joins') [] s
      as_origins net runs o = subst (OriginsAs (grow_origins b p.w.places (kept_origins b)
          (record { net = net; saved = runs })) b p (lists fs' us' reals' cells' joins') []) e
          (with_origins_lem net runs o)

      pub all_from : AtStart b p (lists fs us reals cells joins)
          → FromOrigins b p (lists fs' us' reals' cells' joins') s
      all_from q =
          let x = as_origins (first_nodes b q.table) [] q.origins in
          record {
            read = q.read;
            table = q.table;
            room = q.room;
            more = q.more;
            growth = x.growth;
            grown = x.is;
            path = [];
            holds = x.origins.holds;
          }

      module _ (fs'' : List Float) (us'' cells'' : List ℕ) (d : Result Counts Refusal)
          (drove : (path : List ℕ) (net : Net) (runs : List Run)
          → DriveIn b p (lists fs' us' reals' cells' joins') path (idle s) net runs
          → DriveAs (drive (legs b) b p.w.places net runs) p fs'' us'' cells'' d) where
        from-driven : (net : Net) (runs : List Run) (x : OriginsGiven
            (grow_origins b p.w.places (kept_origins b) (record { net = net; saved = [] })) b p
            (lists fs' us' reals' cells' joins') [] s)
            → grown_from b p.w.places net ≡ and_then (drive (legs b) b p.w.places x.growth.net x.growth.saved)
            (closing p.w.places)
        from-driven net runs x = from_is b p.w.places net
            ∙ ap (λ (a : Answer Growth). and_then a (driven_from b p.w.places)) x.is ∙ driven_is b p.w.places x.growth

        pub all-refused : (k : Refusal) → d ≡ Err k → (net : Net)
            → OriginsIn b p (lists fs us reals cells joins) (kept_origins b) start_state net []
            → grown_from b p.w.places net ≡ refused (refusal_number k)
        all-refused k q net o =
            let x = as_origins net [] o in
            from-driven net [] x ∙ ap (λ (a : Answer Net). and_then a (closing p.w.places))
            (subst (DriveAs (drive (legs b) b p.w.places x.growth.net x.growth.saved) p fs'' us'' cells'') q
            (drove [] x.growth.net x.growth.saved x.origins.holds))

        module _ (z : Counts) (q : d ≡ Ok z) where
          as-driven : (net : Net) (runs : List Run) → DriveIn b p (lists fs' us' reals' cells' joins') []
              (idle s) net runs → DrivenAs (drive (legs b) b p.w.places net runs) p fs'' us'' cells'' z
          as-driven net runs h = subst (DriveAs (drive (legs b) b p.w.places net runs) p fs'' us'' cells'') q
              (drove [] net runs h)

          pub all-closing : AtStart b p (lists fs us reals cells joins) → SomeClosing p.w fs'' us'' cells'' z
          all-closing o =
              let x = as_origins (first_nodes b o.table) [] o.origins in
              let y = as-driven x.growth.net x.growth.saved x.origins.holds in
              record { net = y.net; closes = record { start = cells''; holds = y.holds } }

          pub all_grown : (fs''' : List Float) (us''' : List ℕ) (r : Result Report Refusal)
              → ((net : Net) → Closing p.w fs'' us'' cells'' z net → GrownAs (closing p.w.places net) fs''' us''' r)
              → (net : Net) → OriginsIn b p (lists fs us reals cells joins) (kept_origins b) start_state net []
              → GrownAs (grown_from b p.w.places net) fs''' us''' r
          all_grown fs''' us''' r f net o =
              let x = as_origins net [] o in
              let y = as-driven x.growth.net x.growth.saved x.origins.holds in
              subst (λ (a : Answer Grown). GrownAs a fs''' us''' r)
              (sym (from-driven net [] x ∙ ap (λ (a : Answer Net). and_then a (closing p.w.places)) y.is))
              (f y.net (record { start = cells''; holds = y.holds }))

-- ---- from nodes 0 and 1 on

from_start : List ℕ → ℕ → Growth → Answer Grown
from_start b places s = and_then (grow_origins b places (kept_origins b) s) (driven_from b places)

grow_is : (b : List ℕ) (places : ℕ) (t : Table)
    → grow b places t ≡ and_then (start_as (ltb 1 places) (first_nodes b t)) (from_start b places)
unfolding grow from_start driven_from closing
grow_is b places t = refl

pub grow_small : (b : List ℕ) (places : ℕ) (t : Table) → places < 2 → grow b places t ≡ refused 12
grow_small b places t h = grow_is b places t ∙ ap
    (λ (x : Bool). and_then (start_as x (first_nodes b t)) (from_start b places)) (le-ltb 1 places (omega arith))

pub grow_from : (b : List ℕ) (places : ℕ) (t : Table) → 1 < places
    → grow b places t ≡ grown_from b places (first_nodes b t)
unfolding from_start
grow_from b places t h = grow_is b places t ∙ ap
    (λ (x : Bool). and_then (start_as x (first_nodes b t)) (from_start b places)) (lt-ltb 1 places h)
    ∙ sym (from_is b places (first_nodes b t))

-- ---- room for the table

pub record Fits (floats numbers places : ℕ) : Type 0 where
  pub floats_fit : places * float_width ≤ floats
  pub numbers_fit : places * number_width ≤ numbers
  pub most : places ≤ 65535

pub places_fit : {floats numbers places : ℕ} → places ≡ places_of floats numbers → Fits floats numbers places
unfolding places_of
places_fit e = record { floats_fit = omega (arith, e); numbers_fit = omega (arith, e); most = omega (arith, e) }

-- nodes 0 and 1 fit
pub first_fit : {floats numbers places : ℕ} → places ≡ places_of floats numbers → 2 ≤ places
    → (2 * float_width ≤ floats) × (2 * number_width ≤ numbers)
first_fit e h = let f = places_fit e in (omega (arith, f.floats_fit), omega (arith, f.numbers_fit))

pub book_small : {places : ℕ} (floats numbers : ℕ) → places ≡ places_of floats numbers → places < 2
    → (b : List ℕ) (t : Table) → grow b (places_of floats numbers) t ≡ refused 12
book_small floats numbers e h b t = grow_small b (places_of floats numbers) t (omega (arith, e))

-- ---- the work space at the start

path_start : (b : List ℕ) (reals : List Float) (cells : List ℕ) → get_or reals 0 nan ≡ of_bits binary64 0
    → PathIn b reals cells []
unfolding point_offset
path_start b reals cells z = record { offsets = first; links = λ k l. absurd (omega arith) }
  where
    first : (k : ℕ) → k ≤ 0 → get_or reals k nan ≡ point_offset b [] k
    first zero l = z
    first (suc k) l = absurd (omega arith)

-- nodes 0 and 1 are there, no run is
abbrev first_table : Table → Float → Table
first_table t time = put (put t 0 (fake_node 1 0 0 (of_bits binary64 0))) 1 (fake_node 0 0 0 time)

-- nothing is behind node 1
pub book_start : (fs : List Float) (us : List ℕ) (places : ℕ) → places ≡ places_of (length fs) (length us) → 2 ≤ places
    → (time : Float) (fs' : List Float) (us' : List ℕ) → fs' ≡ (first_table (table_of fs us) time).floats
    → us' ≡ (first_table (table_of fs us) time).numbers → OnlyStart (node_at fs' us') 2
unfolding fake_node at
book_start fs us places e h time fs' us' df du =
    let f = places_fit e in
    let one : node_at fs' us' 1 ≡ fake_node 0 0 0 time =
    ap (λ (x : List Float). node_at x us' 1) df ∙ ap
    (λ (x : List ℕ). node_at (first_table (table_of fs us) time).floats x 1) du
    ∙ node_one (table_of fs us) time places (record { floats = f.floats_fit; numbers = f.numbers_fit; most = f.most })
    (omega arith) in
    record {
      two = refl;
      no_next = ap (λ (x : EstTime). x.idx_next) one;
      no_alt = ap (λ (x : EstTime). x.idx_next_alt) one;
    }

module _ {b : List ℕ} {kept : ℕ} {cells marks : List ℕ} (ready : Ready b kept cells marks) (p : Plan)
    (reals : List Float) (plan : PlanIn b p (length reals)) (at_zero : get_or reals 0 nan ≡ of_bits binary64 0)
    (fs : List Float) (us : List ℕ) (room : Room fs us p.w.places) (some : 1 < p.w.places)
    (behind : p.w.links_at ≡ (legs b + 1) * 8 + p.w.places * 8)
    (long : (legs b + 1 + p.w.places + links b) * 8 ≤ length cells) where
  t : Table
  t = record { floats = fs; numbers = us }

  first_net : NetIn p.w cells (first_table t p.departure).floats
      (first_table t p.departure).numbers cells start_state.counts (first_nodes b t)
  unfolding start_state first_nodes at t
  first_net = record {
    table = ap (λ (x : Float). first_table t x) (sym plan.departs);
    nodes = refl;
    added = refl;
    splits = refl;
    joined = refl;
    sum = refl;
    room = first_room t p.departure p.w.places room some;
    within = some;
    indexed = first_indexed t p.departure p.w.places room some;
    apart = record {
      links_inside = omega (arith, behind, plan.all_links);
      nodes_inside = omega (arith, plan.nodes_at);
      apart = omega (arith, behind, plan.nodes_at);
    };
    mapped =
        mapped_start cells p.w (at (first_table t p.departure)) (λ q h g. ready.rest q (omega (arith, behind)))
        (λ q h g. ready.rest q (omega (arith, plan.nodes_at))) (zero_fake t p.departure p.w.places room some)
        (one_fake t p.departure p.w.places room some) some;
    ends = ends_none cells (ends_at p.w);
    ends_below = tt;
    ended = λ i h. flag_none cells (ends_at p.w) i (ready.rest (ends_at p.w + i * 8) (omega (arith, plan.nodes_at)));
    elsewhere = λ q h f. refl;
  }

  start_origins : (joins : List EstJoinPath) → OriginsIn b p
      (lists (first_table t p.departure).floats (first_table t p.departure).numbers reals cells joins)
      (kept_origins b) start_state (first_nodes b t) []
  unfolding start_state
  start_origins joins = record {
    holds = record {
      grown = first_net;
      chained = ready.chained;
      kept = path_start b reals cells at_zero;
      short = omega arith;
      waiting = record { runs = []; kept = saved_none cells reals p.r; same = tt };
      sound = tt;
      prefixes = tt;
      separate = tt;
    };
    firsts = tt;
  }

  first_origins : (fs' : List Float) (us' : List ℕ) → fs' ≡ (first_table (table_of fs us) p.departure).floats
      → us' ≡ (first_table (table_of fs us) p.departure).numbers → (joins : List EstJoinPath)
      → OriginsIn b p (lists fs' us' reals cells joins) (kept_origins b) start_state (first_nodes b (table_of fs us)) []
  unfolding t
  first_origins fs' us' df du joins =
      subst (λ (x : List Float). OriginsIn b p (lists x us' reals cells joins) (kept_origins b) start_state
      (first_nodes b (table_of fs us)) []) (sym df)
      (subst (λ (x : List ℕ). OriginsIn b p (lists (first_table (table_of fs us) p.departure).floats x reals cells
      joins) (kept_origins b) start_state (first_nodes b (table_of fs us)) []) (sym du) (start_origins joins))

-- the same by what `grow_book` asks and its parts tell
module _ {b : List ℕ} {kept : ℕ} {cells marks : List ℕ} (ready : Ready b kept cells marks) (p : Plan)
    (reals : List Float) (plan : PlanIn b p (length reals)) (at_zero : get_or reals 0 nan ≡ of_bits binary64 0)
    (fs : List Float) (us : List ℕ) (places : ℕ) (are : places ≡ places_of (length fs) (length us))
    (planned : p.w.places ≡ places) (some : 2 ≤ places) (behind : p.w.links_at ≡ (legs b + 1) * 8 + places * 8)
    (long : (legs b + 1 + places_of (length fs) (length us) + links b) * 8 ≤ length cells) (fs' : List Float)
    (us' : List ℕ) (df : fs' ≡ (first_table (table_of fs us) p.departure).floats)
    (du : us' ≡ (first_table (table_of fs us) p.departure).numbers) (joins : List EstJoinPath) where
  book_origins : OriginsIn b p (lists fs' us' reals cells joins) (kept_origins b) start_state
      (first_nodes b (table_of fs us)) []
  book_origins =
      first_origins ready p reals plan at_zero fs us (let f = places_fit (planned ∙ are) in
      record { floats = f.floats_fit; numbers = f.numbers_fit; most = f.most }) (omega (arith, planned))
      (omega (arith, behind, planned)) (omega (arith, long, planned, are)) fs' us' df du joins

  pub book_at_start : AtStart b p (lists fs' us' reals cells joins)
  book_at_start =
      let f = places_fit (planned ∙ are) in
      record {
        read = read_rows_lem b ready.readable.indices ready.readable.single ready.row8;
        table = table_of fs us;
        room = record { floats = f.floats_fit; numbers = f.numbers_fit; most = f.most };
        more = omega (arith, planned);
        origins = book_origins;
      }

  pub book_grown : (fs'' : List Float) (us'' : List ℕ) (r : Result Report Refusal)
      → ((net : Net) → OriginsIn b p (lists fs' us' reals cells joins) (kept_origins b) start_state net []
      → GrownAs (grown_from b p.w.places net) fs'' us'' r)
      → GrownAs (grow b (places_of (length fs) (length us)) (table_of fs us)) fs'' us'' r
  book_grown fs'' us'' r f =
      subst (λ (a : Answer Grown). GrownAs a fs'' us'' r)
      (sym (grow_from b (places_of (length fs) (length us)) (table_of fs us) (omega (arith, are))))
      (subst (λ (n : ℕ). GrownAs (grown_from b n (first_nodes b (table_of fs us))) fs'' us'' r) (planned ∙ are)
      (f (first_nodes b (table_of fs us)) book_origins))
