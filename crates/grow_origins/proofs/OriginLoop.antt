-- One origin after the other: each one's events, then its leg. Origins that are kept lie on different links, so their
-- runs take different legs.
use mathlib.Core.Path.{◌≡◌, refl, sym, ap, ◌∙◌, subst}
use mathlib.Core.Logic.{◌≢◌}
use mathlib.Core.List.{List, [], ◌∷◌}
use Prim.{tt}
use Prim.Native.Nat.{ℕ, zero, suc, ◌+◌, ◌-◌, ◌*◌, ◌≤◌, ◌<◌}
use native.Mathlib.Omega.{arith}
use lib.ListN.{length, get_or, drop}
use lib.Seq.{drop-cons, drop-length}
use lib.Ieee.{Float}
use Rattle.net_node.proofs.Tables.{RoomIn}
use Rattle.laws.specs.Answer.{Answer, refused, given, and_then}
use Rattle.book_format.specs.declared.Origin.{Origin}
use Rattle.book_format.specs.Format.{links, origins, destinations, leg_link, origin_at, origin_link}
use Rattle.book_format.proofs.Given.{limits, origin_link_lem}
use Rattle.book_format.specs.Chains.{Readable}
use Rattle.net_join_paths.specs.declared.EstJoinPath.{EstJoinPath}
use Rattle.book_options.specs.Options.{OptionsIn, kept_origins, search_room}
use Rattle.book_options.proofs.Kept.{kept_named, kept_most}
use Rattle.book_options.proofs.Apart.{Other, kept_apart, Apart as AllOther}
use Rattle.grow_rules.specs.Run.{Net, Run}
use Rattle.grow_rules.specs.Growth.{Growth, grow_origin, grow_origins}
use Rattle.grow_events.specs.declared.Counts.{Counts}
use Rattle.grow_events.specs.declared.Mover.{Mover}
use Rattle.std.specs.Prelude.{Result, Ok, Err, IfOk, IsErrAnd}
use Rattle.refusals.specs.declared.Refusal.{Refusal}
use Rattle.refusals.specs.Refusals.{refusal_number}
use Rattle.grow_rules.specs.Run.{goes_on}
use Rattle.grow_events.specs.Held.{NetIn, GoesAs, InsertedAs}
use Rattle.grow_state.specs.declared.Plan.{Plan}
use Rattle.grow_state.specs.declared.Rest.{Rest}
use Rattle.grow_state.specs.Held.{PlanIn, Lists, lists}
use Rattle.net_node.specs.Table.{Indexed, node_at, Table, at}
use Rattle.net_insertion.specs.Insertion.{table_of}
use Rattle.grow_origins.specs.Origins.{origin_answer, LeadsFrom, OnlyStart, OtherLinks, AllFirst, NotOver, OriginsIn}
use Rattle.grow_origins.specs.Origins.{SomeOrigin, SomeOrigins, OriginsGiven, OriginsAs, saved_origin, OriginInserted}
use Rattle.grow_origins.specs.Origins.{SomeOriginInserted, GrowsOrigin, GrowsOrigins}
use Rattle.grow_origins.proofs.OriginEvents.{fewer_as, origin_joins, origin_given, origin_refused}
use Rattle.grow_origins.proofs.Starting.{AtLast, at_start, comes_first, leads_from}
use Rattle.grow_origins.proofs.Following.{last_origin}
use Rattle.grow_origins.proofs.Saving.{drive_grown}

-- ---- links of origins to come

idxs_behind : (b : List ℕ) (idx : ℕ) (idxs : List ℕ) (runs : List Run) → AllFirst b (idx ∷ idxs) runs
    → AllFirst b idxs runs
idxs_behind b idx idxs [] f = tt
idxs_behind b idx idxs (r ∷ rs) f = (f.0, (f.1.0.1, idxs_behind b idx idxs rs f.1.1))

idx_alone : (b : List ℕ) (idx : ℕ) (idxs : List ℕ) (runs : List Run) → AllFirst b (idx ∷ idxs) runs
    → AllFirst b (idx ∷ []) runs
idx_alone b idx idxs [] f = tt
idx_alone b idx idxs (r ∷ rs) f = (f.0, ((f.1.0.0, tt), idx_alone b idx idxs rs f.1.1))

not_over : (b : List ℕ) (idx : ℕ) (idxs : List ℕ) (link : ℕ) (runs : List Run) → link ≡ origin_link b idx
    → AllFirst b (idx ∷ idxs) runs → NotOver b link runs
not_over b idx idxs link [] e f = tt
not_over b idx idxs link (r ∷ rs) e f = (
  λ (q : leg_link b (r.leg - 1) ≡ link). f.1.0.0 (q ∙ e),
  not_over b idx idxs link rs e f.1.1,
)

-- ---- an origin's events are inserted

-- the link of an origin's row, as a reader of the book has it
pub row_link : (b : List ℕ) {b' : List ℕ} (i : ℕ) {o : Origin} → o ≡ origin_at b' i → b' ≡ b
    → o.link_idx ≡ origin_link b i
row_link b i e same = origin_link_lem b i (e ∙ ap (λ (x : List ℕ). origin_at x i) same)

pub leads_as : (t : Table) (n last link link' : ℕ) → link ≡ link' → LeadsFrom t n last link' → LeadsFrom t n last link
leads_as t n last link link' e l = subst (LeadsFrom t n last) (sym e) l

module _ (b : List ℕ) (p : Plan) (fs : List Float) (us : List ℕ) (reals : List Float) (cells : List ℕ)
    (joins : List EstJoinPath) (g : Rest) (idx link : ℕ) (named : link ≡ origin_link b idx)
    (plan : PlanIn b p (length reals))
    (fs' : List Float) (us' cells' : List ℕ) (long : length cells' ≡ length cells) (r : Result (Counts × Mover) Refusal)
    (more : IfOk r (λ x. g.counts.nodes ≤ x.0.nodes))
    (t : (b : List ℕ) (reals : ℕ) (start : List ℕ) (net : Net) → PlanIn b p reals
    → NetIn p.w start fs us cells g.counts net → InsertedAs
    (origin_answer b p.w.places link net) p.w start 0 fs' us' cells' [] r) where
  module _ (idxs : List ℕ) (net : Net) (runs : List Run)
      (o : OriginsIn b p (lists fs us reals cells joins) (idx ∷ idxs) g net runs) where
    told : InsertedAs (origin_answer b p.w.places link net) p.w cells 0 fs' us' cells' [] r
    told = t b (length reals) cells net plan o.holds.grown

    -- its run is at a place
    inserted_origin : OtherLinks b (origin_link b idx) idxs → (c : Counts) (m : Mover) → r ≡ Ok (c, m)
        → (x : GoesAs (goes_on (origin_answer b p.w.places link net)) p.w cells 0 fs' us' cells' [] c m)
        → OriginInserted b p (lists fs' us' reals cells' joins) idxs
        (record { counts = c; top = g.top; used = g.used }) m.place link x.after.net x.after.run runs
    inserted_origin d c m e x = record {
      origins = record {
        holds = drive_grown plan o.holds x.net (fewer_as g.counts c m r e more) long;
        firsts = idxs_behind b idx idxs runs o.firsts;
      };
      stands = x.run.place;
      within = x.run.stands;
      no_joins = origin_joins b p.w.places link net x.after x.is;
      others = not_over b idx idxs link runs named o.firsts;
      apart = subst (λ (l : ℕ). OtherLinks b l idxs) (sym named) d;
    }

    -- what saving it gives
    pub origin_on : OtherLinks b (origin_link b idx) idxs → (c : Counts) (m : Mover) → r ≡ Ok (c, m)
        → (reals' : List Float) (cells'' : List ℕ) (k : Result Rest Refusal)
        → ((fs : List Float) (us idxs : List ℕ) (net : Net) (run : Run) (runs : List Run)
        → OriginInserted b p (lists fs us reals cells' joins) idxs
        (record { counts = c; top = g.top; used = g.used }) m.place link net run runs
        → OriginsAs (saved_origin b link net run runs) b p (lists fs us reals' cells'' joins) idxs k)
        → OriginsAs (grow_origin b p.w.places (origin_link b idx) (record { net = net; saved = runs })) b p
        (lists fs' us' reals' cells'' joins) idxs k
    origin_on d c m e reals' cells'' k f =
        let x : GoesAs (goes_on (origin_answer b p.w.places link net)) p.w cells 0 fs' us' cells' [] c m =
        subst (InsertedAs (origin_answer b p.w.places link net) p.w cells 0 fs' us' cells' []) e told in
        subst (λ (l : ℕ). OriginsAs (grow_origin b p.w.places l (record { net = net; saved = runs })) b p
        (lists fs' us' reals' cells'' joins) idxs k) named
        (subst (λ (a : Answer Growth). OriginsAs a b p (lists fs' us' reals' cells'' joins) idxs k)
        (sym (origin_given b p.w.places link net runs x.after x.is))
        (f fs' us' idxs x.after.net x.after.run runs (inserted_origin d c m e x)))

    pub origin_not : (k : Refusal) → r ≡ Err k → grow_origin b p.w.places (origin_link b idx)
        (record { net = net; saved = runs }) ≡ refused (refusal_number k)
    origin_not k e =
        subst (λ (l : ℕ). grow_origin b p.w.places l (record { net = net; saved = runs }) ≡ refused (refusal_number k))
        named
        (origin_refused b p.w.places link net runs (refusal_number k)
        (subst (InsertedAs (origin_answer b p.w.places link net) p.w cells 0 fs' us' cells' []) e told))

  -- what saving asks
  pub some_inserted : SomeOrigin b p (lists fs us reals cells joins) idx g → (c : Counts) (m : Mover) → r ≡ Ok (c, m)
      → SomeOriginInserted b p reals cells' joins (record { counts = c; top = g.top; used = g.used }) m.place link
  some_inserted s c m e =
      let o : OriginsIn b p (lists fs us reals cells joins) (idx ∷ []) g s.net s.runs =
      record { holds = s.origins.holds; firsts = idx_alone b idx s.idxs s.runs s.origins.firsts } in
      let x : GoesAs (goes_on (origin_answer b p.w.places link s.net)) p.w cells 0 fs' us' cells' [] c m =
      subst (InsertedAs (origin_answer b p.w.places link s.net) p.w cells 0 fs' us' cells' []) e
      (told [] s.net s.runs o) in
      record {
        fs = fs';
        us = us';
        idxs = [];
        net = x.after.net;
        run = x.after.run;
        runs = s.runs;
        inserted_origin = inserted_origin [] s.net s.runs o tt c m e x;
      }

-- ---- a refusal that is handed on

pub origins_refused : (answer : Answer Growth) (b : List ℕ) (p : Plan) (s : Lists) (idxs : List ℕ)
    (r : Result Rest Refusal) (k : Refusal) → IsErrAnd r (λ (x : Refusal). x ≡ k) → answer ≡ refused (refusal_number k)
    → OriginsAs answer b p s idxs r
origins_refused answer b p s idxs (Ok g) k h q = absurd h
origins_refused answer b p s idxs (Err x) k h q = q ∙ ap (λ (y : Refusal). refused (refusal_number y)) (sym h)

-- ---- the loop over the kept origins

-- what the origins so far have made, those from k on being still to come
pub record SoFar (b : List ℕ) (p : Plan) (fs : List Float) (us : List ℕ) (reals : List Float) (cells : List ℕ)
    (joins : List EstJoinPath) (g : Rest) (last k : ℕ) (answer : Answer Growth) : Type 0 where
  pub net : Net
  pub runs : List Run
  pub origins : OriginsIn b p (lists fs us reals cells joins) (drop k (kept_origins b)) g net runs
  pub same : answer ≡ grow_origins b p.w.places (drop k (kept_origins b)) (record { net = net; saved = runs })
  pub starts : AtLast b (drop k (kept_origins b)) net.table net.nodes last

pub record OriginLoop (b : List ℕ) (p : Plan) (joins : List EstJoinPath) (fs₀ : List Float) (us₀ : List ℕ)
    (reals₀ : List Float) (cells₀ : List ℕ) (g₀ : Rest) (fs : List Float) (us : List ℕ) (reals : List Float)
    (cells : List ℕ) (g : Rest) (last k : ℕ) : Type 0 where
  pub within : k ≤ length (kept_origins b)
  pub floats : length fs ≡ length fs₀
  pub numbers : length us ≡ length us₀
  pub reals_long : length reals ≡ length reals₀
  pub cells_long : length cells ≡ length cells₀
  pub so_far : (net : Net) (runs : List Run) → OriginsIn b p (lists fs₀ us₀ reals₀ cells₀ joins)
      (kept_origins b) g₀ net runs → SoFar b p fs us reals cells joins g last k
      (grow_origins b p.w.places (kept_origins b) (record { net = net; saved = runs }))

-- the network's table and nodes, as the slices hold them
module _ {b : List ℕ} {p : Plan} {fs : List Float} {us : List ℕ} {reals : List Float} {cells : List ℕ}
    {joins : List EstJoinPath} {idxs : List ℕ} {g : Rest} {net : Net} {runs : List Run}
    (o : OriginsIn b p (lists fs us reals cells joins) idxs g net runs) where
  net_start : OnlyStart (node_at fs us) g.counts.nodes → OnlyStart (at net.table) net.nodes
  unfolding at
  net_start s = subst (OnlyStart (at net.table)) (sym o.holds.grown.nodes)
      (subst (λ (t : Table). OnlyStart (at t) g.counts.nodes) (sym o.holds.grown.table) s)

  net_room : RoomIn net.table p.w.places
  net_room = subst (λ (t : Table). RoomIn t p.w.places) (sym o.holds.grown.table) o.holds.grown.room

  net_indexed : Indexed (at net.table) net.nodes
  unfolding at
  net_indexed = subst (Indexed (at net.table)) (sym o.holds.grown.nodes)
      (subst (λ (t : Table). Indexed (at t) g.counts.nodes) (sym o.holds.grown.table) o.holds.grown.indexed)

  net_leads : (last link : ℕ) → LeadsFrom net.table net.nodes last link
      → LeadsFrom (table_of fs us) g.counts.nodes last link
  net_leads last link l = subst (λ (t : Table). LeadsFrom t g.counts.nodes last link) o.holds.grown.table
      (subst (λ (n : ℕ). LeadsFrom net.table n last link) o.holds.grown.nodes l)

-- no run is at the front, so nothing is said of the join entries
pub any_joins : {b : List ℕ} {p : Plan} {fs : List Float} {us : List ℕ} {reals : List Float} {cells : List ℕ}
    {joins joins' : List EstJoinPath} {idxs : List ℕ} {g : Rest} {net : Net} {runs : List Run}
    → OriginsIn b p (lists fs us reals cells joins) idxs g net runs
    → OriginsIn b p (lists fs us reals cells joins') idxs g net runs
any_joins o =
    let d = o.holds in
    record {
      holds = record {
        grown = d.grown;
        chained = d.chained;
        kept = d.kept;
        short = d.short;
        waiting = d.waiting;
        sound = d.sound;
        prefixes = d.prefixes;
        separate = d.separate;
      };
      firsts = o.firsts;
    }

pub some_joins : {b : List ℕ} {p : Plan} {fs : List Float} {us : List ℕ} {reals : List Float} {cells : List ℕ}
    {joins joins' : List EstJoinPath} {idxs : List ℕ} {g : Rest}
    → SomeOrigins b p (lists fs us reals cells joins) idxs g → SomeOrigins b p (lists fs us reals cells joins') idxs g
some_joins s = record { net = s.net; runs = s.runs; origins = any_joins s.origins }

answer_joins : (answer : Answer Growth) (b : List ℕ) (p : Plan) (fs : List Float) (us : List ℕ) (reals : List Float)
    (cells : List ℕ) (joins joins' : List EstJoinPath) (idxs : List ℕ) (r : Result Rest Refusal)
    → OriginsAs answer b p (lists fs us reals cells joins) idxs r
    → OriginsAs answer b p (lists fs us reals cells joins') idxs r
answer_joins answer b p fs us reals cells joins joins' idxs (Ok g) x =
    record { growth = x.growth; is = x.is; origins = any_joins x.origins }
answer_joins answer b p fs us reals cells joins joins' idxs (Err k) x = x

pub grows_joins : (b : List ℕ) (p : Plan) (g : Rest) (fs : List Float) (us : List ℕ) (reals : List Float)
    (cells : List ℕ) (joins : List EstJoinPath) (fs' : List Float) (us' : List ℕ) (reals' : List Float)
    (cells' : List ℕ) (r : Result Rest Refusal)
    → GrowsOrigins b p g (lists fs us reals cells joins) (lists fs' us' reals' cells' joins) r
    → (joins' : List EstJoinPath)
    → GrowsOrigins b p g (lists fs us reals cells joins') (lists fs' us' reals' cells' joins') r
grows_joins b p g fs us reals cells joins fs' us' reals' cells' r h joins' net runs o = answer_joins
    (grow_origins b p.w.places (kept_origins b) (record { net = net; saved = runs })) b p fs' us' reals' cells' joins
    joins' [] r (h net runs (any_joins o))

pub loop_start : (b : List ℕ) (p : Plan) (joins : List EstJoinPath) (fs : List Float) (us : List ℕ) (reals : List Float)
    (cells : List ℕ) (g : Rest) → OnlyStart (node_at fs us) g.counts.nodes
    → OriginLoop b p joins fs us reals cells g fs us reals cells g 1 0
loop_start b p joins fs us reals cells g s = record {
  within = omega arith;
  floats = refl;
  numbers = refl;
  reals_long = refl;
  cells_long = refl;
  so_far = λ net runs o. record {
    net = net;
    runs = runs;
    origins = o;
    same = refl;
    starts = at_start b (kept_origins b) net.table net.nodes (net_start o s);
  };
}

pub idx_left : (b : List ℕ) (kept k : ℕ) → kept ≡ length (kept_origins b) → k < kept → k < length (kept_origins b)
idx_left b kept k e h = omega (arith, e)

-- the row at k, by the counts that the code has
pub idx_at : (b marks : List ℕ) (l d k : ℕ) → l ≡ links b → d ≡ destinations b → OptionsIn b marks
    → k < length (kept_origins b) → get_or marks (2 * l + d + k) 0 ≡ get_or (kept_origins b) k 0
idx_at b marks l d k e f m h =
    let q : 2 * l + d + k ≡ 2 * links b + destinations b + k = omega (arith, e, f) in
    ap (λ (i : ℕ). get_or marks i 0) q ∙ m.kept k h

-- where the rows stand
module _ (b : List ℕ) (r : Readable b) where
  pub links_fit : links b ≤ 65535
  links_fit = (limits b r.counted.counts).links_most

  pub destinations_fit : destinations b ≤ 1000
  destinations_fit = (limits b r.counted.counts).destinations_most

  pub idxs_fit : length (kept_origins b) ≤ 1000
  idxs_fit = omega (arith, kept_most b, (limits b r.counted.counts).origins_most)

  pub idxs_inside : (k : ℕ) (marks : List ℕ) → search_room b ≤ length marks → k < length (kept_origins b)
      → 2 * links b + destinations b + k < length marks
  idxs_inside k marks h g = omega (arith, kept_most b)

-- an origin's links are others than those behind it
other_links : (b : List ℕ) (idx : ℕ) (idxs : List ℕ) → Other b idx idxs → OtherLinks b (origin_link b idx) idxs
other_links b idx [] o = tt
other_links b idx (x ∷ idxs) o = (o.0, other_links b idx idxs o.1)

behind_other : (b : List ℕ) (k : ℕ) (idxs : List ℕ) → AllOther b idxs → AllOther b (drop k idxs)
behind_other b zero idxs a = a
behind_other b (suc k) [] a = a
behind_other b (suc k) (idx ∷ idxs) a = behind_other b k idxs a.1

origin_first : (b : List ℕ) (places idx : ℕ) (idxs : List ℕ) (g : Growth)
    → grow_origins b places (idx ∷ idxs) g ≡ and_then (grow_origin b places (origin_link b idx) g)
    (grow_origins b places idxs)
unfolding grow_origins
origin_first b places idx idxs g = refl

origin_last : (b : List ℕ) (places : ℕ) (g : Growth) → grow_origins b places [] g ≡ given g
unfolding grow_origins
origin_last b places g = refl

module _ (b : List ℕ) (p : Plan) (joins : List EstJoinPath) (fs₀ : List Float) (us₀ : List ℕ) (reals₀ : List Float)
    (cells₀ : List ℕ) (g₀ : Rest) (fs : List Float) (us : List ℕ) (reals : List Float) (cells : List ℕ) (g : Rest)
    (last k : ℕ)
    (v : OriginLoop b p joins fs₀ us₀ reals₀ cells₀ g₀ fs us reals cells g last k) where
  pub loop_small : SomeOrigins b p (lists fs₀ us₀ reals₀ cells₀ joins) (kept_origins b) g₀ → g.counts.nodes ≤ 65535
  loop_small s = let x = v.so_far s.net s.runs s.origins in
      omega (arith, x.origins.holds.grown.within, x.origins.holds.grown.room.most)

  module _ (idx : ℕ) (is : idx ≡ get_or (kept_origins b) k 0) (h : k < length (kept_origins b)) where
    idxs_are : drop k (kept_origins b) ≡ idx ∷ drop (k + 1) (kept_origins b)
    idxs_are =
        let e : suc k ≡ k + 1 = omega arith in
        drop-cons (kept_origins b) k 0 h ∙ ap (λ (x : ℕ). x ∷ drop (suc k) (kept_origins b)) (sym is)
        ∙ ap (λ (n : ℕ). idx ∷ drop n (kept_origins b)) e

    pub idx_named : idx < origins b
    idx_named = subst (λ (x : ℕ). x < origins b) (sym is) (kept_named b k h)

    pub loop_some : SomeOrigins b p (lists fs₀ us₀ reals₀ cells₀ joins) (kept_origins b) g₀
        → SomeOrigin b p (lists fs us reals cells joins) idx g
    loop_some s =
        let x = v.so_far s.net s.runs s.origins in
        record {
          idxs = drop (k + 1) (kept_origins b);
          net = x.net;
          runs = x.runs;
          origins = subst (λ (idxs : List ℕ). OriginsIn b p (lists fs us reals cells joins) idxs g x.net x.runs)
              idxs_are x.origins;
        }

    starts_there : {answer : Answer Growth} → (x : SoFar b p fs us reals cells joins g last k answer)
        → AtLast b (idx ∷ drop (k + 1) (kept_origins b)) x.net.table x.net.nodes last
    starts_there x = subst (λ (idxs : List ℕ). AtLast b idxs x.net.table x.net.nodes last) idxs_are x.starts

    pub loop_leads : SomeOrigins b p (lists fs₀ us₀ reals₀ cells₀ joins) (kept_origins b) g₀
        → LeadsFrom (table_of fs us) g.counts.nodes last (origin_link b idx)
    loop_leads s =
        let x = v.so_far s.net s.runs s.origins in
        net_leads x.origins last (origin_link b idx) (leads_from b
        (idx ∷ drop (k + 1) (kept_origins b)) x.net.table x.net.nodes last (origin_link b idx) (starts_there x)
        (comes_first b idx (drop (k + 1) (kept_origins b)) (origin_link b idx) refl))

    apart : OtherLinks b (origin_link b idx) (drop (k + 1) (kept_origins b))
    apart = other_links b idx (drop (k + 1) (kept_origins b))
        (subst (AllOther b) idxs_are (behind_other b k (kept_origins b) (kept_apart b))).0

    -- what the code is told of the next origin
    module _ (fs' : List Float) (us' : List ℕ) (reals' : List Float) (cells' : List ℕ) (t : Result Rest Refusal)
        (told : GrowsOrigin b p g idx (lists fs us reals cells joins) (lists fs' us' reals' cells' joins) t) where
      next : {answer : Answer Growth} → (x : SoFar b p fs us reals cells joins g last k answer)
          → OriginsAs (grow_origin b p.w.places (origin_link b idx) (record { net = x.net; saved = x.runs })) b p
          (lists fs' us' reals' cells' joins) (drop (k + 1) (kept_origins b)) t
      next x = told (drop (k + 1) (kept_origins b)) x.net x.runs
          (subst (λ (idxs : List ℕ). OriginsIn b p (lists fs us reals cells joins) idxs g x.net x.runs) idxs_are
          x.origins) apart

      unfolds : {answer : Answer Growth} → (x : SoFar b p fs us reals cells joins g last k answer)
          → answer ≡ and_then (grow_origin b p.w.places (origin_link b idx) (record { net = x.net; saved = x.runs }))
          (grow_origins b p.w.places (drop (k + 1) (kept_origins b)))
      unfolds x =
          x.same ∙ ap (λ (idxs : List ℕ). grow_origins b p.w.places idxs (record { net = x.net; saved = x.runs }))
          idxs_are ∙ origin_first b p.w.places idx (drop (k + 1) (kept_origins b))
          (record { net = x.net; saved = x.runs })

      pub loop_stop : (n : Refusal) → t ≡ Err n → (r : Result Rest Refusal) → r ≡ Err n
          → GrowsOrigins b p g₀ (lists fs₀ us₀ reals₀ cells₀ joins) (lists fs' us' reals' cells' joins) r
      loop_stop n e r d net runs o =
          let x = v.so_far net runs o in
          let q = subst (OriginsAs (grow_origin b p.w.places (origin_link b idx)
          (record { net = x.net; saved = x.runs })) b p (lists fs' us' reals' cells' joins)
          (drop (k + 1) (kept_origins b))) e (next x) in
          subst (OriginsAs (grow_origins b p.w.places (kept_origins b) (record { net = net; saved = runs })) b p
          (lists fs' us' reals' cells' joins) []) (sym d)
          (unfolds x ∙ ap (λ (a : Answer Growth). and_then a
          (grow_origins b p.w.places (drop (k + 1) (kept_origins b)))) q)

      pub loop_on : (g' : Rest) → t ≡ Ok g' → (last' : ℕ) → (g.counts.nodes ≡ 2 → last' ≡ 1)
          → (g.counts.nodes ≢ 2 → last' ≡ g.counts.nodes) → length fs' ≡ length fs → length us' ≡ length us
          → length reals' ≡ length reals → length cells' ≡ length cells
          → OriginLoop b p joins fs₀ us₀ reals₀ cells₀ g₀ fs' us' reals' cells' g' last' (k + 1)
      loop_on g' e last' one more lf lu lr lc = record {
        within = omega arith;
        floats = lf ∙ v.floats;
        numbers = lu ∙ v.numbers;
        reals_long = lr ∙ v.reals_long;
        cells_long = lc ∙ v.cells_long;
        so_far = λ net runs o.
            let x = v.so_far net runs o in
            let q : OriginsGiven (grow_origin b p.w.places (origin_link b idx) (record { net = x.net; saved = x.runs }))
            b p (lists fs' us' reals' cells' joins) (drop (k + 1) (kept_origins b)) g' =
            subst (OriginsAs (grow_origin b p.w.places (origin_link b idx) (record { net = x.net; saved = x.runs }))
            b p (lists fs' us' reals' cells' joins) (drop (k + 1) (kept_origins b))) e (next x) in
            let n : x.net.nodes ≡ g.counts.nodes = x.origins.holds.grown.nodes in
            record {
              net = q.growth.net;
              runs = q.growth.saved;
              origins = q.origins;
              same = unfolds x ∙ ap (λ (a : Answer Growth). and_then a
                  (grow_origins b p.w.places (drop (k + 1) (kept_origins b)))) q.is;
              starts =
                  last_origin b p.w.places idx (drop (k + 1) (kept_origins b)) x.net x.runs last q.growth
                  (starts_there x) (net_room x.origins) (net_indexed x.origins) apart q.is last'
                  (λ (h : x.net.nodes ≡ 2). one (sym n ∙ h)) (λ (h : x.net.nodes ≢ 2). more
                  (λ (o : g.counts.nodes ≡ 2). h (n ∙ o)) ∙ sym n);
            };
      }

  -- none is left
  pub loop_end : length (kept_origins b) ≤ k → GrowsOrigins b p g₀ (lists fs₀ us₀ reals₀ cells₀ joins)
      (lists fs us reals cells joins) (Ok g)
  loop_end h net runs o =
      let x = v.so_far net runs o in
      let n : k ≡ length (kept_origins b) = omega (arith, v.within) in
      let e : drop k (kept_origins b) ≡ [] = ap (λ (i : ℕ). drop i (kept_origins b)) n ∙ drop-length (kept_origins b) in
      record {
        growth = record { net = x.net; saved = x.runs };
        is = x.same ∙ ap (λ (idxs : List ℕ). grow_origins b p.w.places idxs (record { net = x.net; saved = x.runs })) e
            ∙ origin_last b p.w.places (record { net = x.net; saved = x.runs });
        origins = subst (λ (idxs : List ℕ). OriginsIn b p (lists fs us reals cells joins) idxs g x.net x.runs) e
            x.origins;
      }
