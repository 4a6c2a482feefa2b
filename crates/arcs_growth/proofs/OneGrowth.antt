-- The growth belongs to the book alone: wherever it is grown, if it is not refused, it has the same nodes, counts and
-- noted arcs. Only row 12 looks at the places, and it only refuses.
use mathlib.Core.Path.{◌≡◌, refl, sym, ap, subst}
use mathlib.Core.Bool.{Bool, true, false}
use mathlib.Core.List.{List, [], ◌∷◌}
use Prim.Native.Nat.{ℕ, suc, ◌-◌, ◌<◌}
use native.Mathlib.Omega.{arith}
use borrow.Author.Tests.{ltb-true}
use lib.Dec.{ltb}
use lib.Ieee.{binary64, of_bits}
use Rattle.net_node.proofs.Tables.{RoomIn, put_room}
use Rattle.laws.proofs.Answers.{Both, both_then, both_with, both_refused, both_given}
use Rattle.laws.specs.Answer.{Answer, given, and_then}
use Rattle.book_format.specs.Format.{legs}
use Rattle.book_options.specs.Options.{kept_origins}
use Rattle.net_node.specs.declared.EstTime.{EstTime}
use Rattle.net_node.specs.Table.{Room, Table, put, at}
use Rattle.grow_rules.specs.Run.{Net, member_of}
use Rattle.grow_rules.specs.Growth.{Growth, departure, fake_node, first_nodes, grow_origins, drive, leads_to_end}
use Rattle.grow_rules.specs.Growth.{room_for, end_fakes, last_node, Grown, start_as, grown_with, grow}
use Rattle.net_node.specs.Left.{Network}
use Rattle.arcs_growth.specs.Read.{Read}
use Rattle.arcs_growth.specs.Grown.{SameGrowth}
use Rattle.laws.proofs.Members.{All, all_so}
use Rattle.book_options.proofs.Apart.{kept_apart}
use Rattle.arcs_growth.proofs.AtEvents.{Driven}
use Rattle.arcs_growth.proofs.Driving.{drives}
use Rattle.arcs_growth.proofs.Origins.{Ready, first_rooted, none_used, member_all, origins_ready}
use Rattle.arcs_growth.proofs.Agreeing.{Agree}
use Rattle.arcs_growth.proofs.Alike.{with_table, Alike}
use Rattle.arcs_growth.proofs.AlikeDrives.{AlikeGrowth, growth_is, drive_alike, origins_alike}
use Rattle.arcs_growth.proofs.Writes.{put_agree, put_more}

-- ---- the ends

pub record AlikeTail (places others : ℕ) (t other : Network) : Type 0 where
  pub nodes : other.nodes ≡ t.nodes
  pub agree : Agree t.nodes (at t.table) (at other.table)
  pub room : RoomIn t.table places
  pub room_other : RoomIn other.table others

module _ (places others : ℕ) where
  ends_alike : (is : List ℕ) (alt : ℕ) (t : Network) (u : Table) → All (λ (i : ℕ). i < t.nodes) is
      → Agree t.nodes (at t.table) (at u) → RoomIn t.table places → RoomIn u others
      → Both (AlikeTail places others) (end_fakes places is alt t)
      (end_fakes others is alt (record { table = u; nodes = t.nodes }))
  unfolding end_fakes
  ends_alike [] alt t u h ag r q = record { nodes = refl; agree = ag; room = r; room_other = q }
  ends_alike (i ∷ is) alt t u h ag r q =
      go (ltb n places) (ltb n others) refl refl
      (λ x y a b c. ends_alike is n x y a b c)
    where
      n : ℕ
      n = t.nodes

      fake : EstTime
      fake = fake_node (suc n) i alt (of_bits binary64 0)

      t1 : Table
      t1 = put t.table n fake

      u1 : Table
      u1 = put u n fake

      t2 : Table
      t2 = put t1 i (leads_to_end (at t1 i) n)

      u2 : Table
      u2 = put u1 i (leads_to_end (at u1 i) n)

      go : (x y : Bool) → ltb n places ≡ x → ltb n others ≡ y
          → ((s : Network) (w : Table) → All (λ (j : ℕ). j < s.nodes) is → Agree s.nodes (at s.table) (at w)
          → RoomIn s.table places → RoomIn w others
          → Both (AlikeTail places others) (end_fakes places is n s)
          (end_fakes others is n (record { table = w; nodes = s.nodes })))
          → Both (AlikeTail places others) (and_then (room_for x (record { table = t2; nodes = suc n }))
          (end_fakes places is n)) (and_then (room_for y (record { table = u2; nodes = suc n }))
          (end_fakes others is n))
      go false y e f ih = tt
      go true false e f ih = both_refused (AlikeTail places others)
          (end_fakes places is n (record { table = t2; nodes = suc n })) 12
      go true true e f ih =
          let k = ltb-true n places e in
          let l = ltb-true n others f in
          let m = h.0 in
          let r1 : RoomIn t1 places = put_room t.table n fake places r in
          let q1 : RoomIn u1 others = put_room u n fake others q in
          let a1 : Agree (suc n) (at t1) (at u1) = put_more t.table u places others r q n fake fake ag k l refl in
          ih (record { table = t2; nodes = suc n }) u2 (all_so (λ (j : ℕ). j < n) (λ (j : ℕ). j < suc n)
          (λ j p. omega arith) is h.1)
          (put_agree t1 u1 places others r1 q1 (suc n) i (leads_to_end (at t1 i) n) (leads_to_end (at u1 i) n) a1
          (omega arith) (omega arith) (ap (λ (z : EstTime). leads_to_end z n) (a1 i (omega arith))))
          (put_room t1 i (leads_to_end (at t1 i) n) places r1) (put_room u1 i (leads_to_end (at u1 i) n) others q1)

  last_alike : (t other : Network) → AlikeTail places others t other
      → Both (AlikeTail places others) (last_node places t) (last_node others other)
  unfolding last_node
  last_alike t other d =
      subst (λ (m : ℕ). Both (AlikeTail places others)
      (room_for (ltb n places) (record { table = put t.table n (node n); nodes = suc n }))
      (room_for (ltb m others) (record { table = put other.table m (node m); nodes = suc m }))) (sym d.nodes)
      (go (ltb n places) (ltb n others) refl refl)
    where
      n : ℕ
      n = t.nodes

      node : ℕ → EstTime
      node m = fake_node 0 (m - 1) 0 (of_bits binary64 0)

      go : (x y : Bool) → ltb n places ≡ x → ltb n others ≡ y
          → Both (AlikeTail places others) (room_for x (record { table = put t.table n (node n); nodes = suc n }))
          (room_for y (record { table = put other.table n (node n); nodes = suc n }))
      go false y e f = tt
      go true false e f = tt
      go true true e f = record {
        nodes = refl;
        agree = put_more t.table other.table places others d.room d.room_other n (node n) (node n) d.agree
            (ltb-true n places e) (ltb-true n others f) refl;
        room = put_room t.table n (node n) places d.room;
        room_other = put_room other.table n (node n) others d.room_other;
      }

-- ---- the whole

all_ends : (is : List ℕ) (n : ℕ) → ((i : ℕ) → member_of is i ≡ true → i < n) → All (λ (i : ℕ). i < n) is
all_ends is n f = all_so (λ (i : ℕ). member_of is i ≡ true) (λ (i : ℕ). i < n) f is (member_all is)

-- from the network that the driver leaves
tail_alike : {b : List ℕ} {places others : ℕ} (net other : Net) → Driven b places net [] → Alike others net other
    → Both SameGrowth
    (and_then (end_fakes places net.ends 0 (record { table = net.table; nodes = net.nodes }))
    (λ (u : Network). and_then (last_node places u) (λ (v : Network). given (grown_with net v))))
    (and_then (end_fakes others other.ends 0 (record { table = other.table; nodes = other.nodes }))
    (λ (u : Network). and_then (last_node others u) (λ (v : Network). given (grown_with other v))))
unfolding grown_with
tail_alike {b} {places} {others} net other d l =
    subst (λ (m : Net). Both SameGrowth
    (and_then (end_fakes places net.ends 0 (record { table = net.table; nodes = net.nodes }))
    (λ (u : Network). and_then (last_node places u) (λ (v : Network). given (grown_with net v))))
    (and_then (end_fakes others m.ends 0 (record { table = m.table; nodes = m.nodes }))
    (λ (u : Network). and_then (last_node others u) (λ (v : Network). given (grown_with m v))))) (sym l.is)
    (both_then (AlikeTail places others) SameGrowth
    (end_fakes places net.ends 0 (record { table = net.table; nodes = net.nodes }))
    (end_fakes others net.ends 0 (record { table = l.table; nodes = net.nodes }))
    (λ (u : Network). and_then (last_node places u) (λ (v : Network). given (grown_with net v)))
    (λ (u : Network). and_then (last_node others u) (λ (v : Network). given (grown_with (with_table net l.table) v)))
    (ends_alike places others net.ends 0 (record { table = net.table; nodes = net.nodes }) l.table
    (all_ends net.ends net.nodes (λ i m. (d.grows.body.ended i m).within)) l.agree d.grows.body.room l.room)
    (λ u w e. both_then (AlikeTail places others) SameGrowth (last_node places u) (last_node others w)
    (λ (v : Network). given (grown_with net v)) (λ (v : Network). given (grown_with (with_table net l.table) v))
    (last_alike places others u w e)
    (λ v x f. record {
      nodes = f.nodes;
      added = refl;
      splits = refl;
      joined = refl;
      finished = refl;
      noted = refl;
      runs = refl;
      table = f.agree;
    })))

module _ (b : List ℕ) (places others : ℕ) (t u : Table) (r : Read b) (room : RoomIn t places)
    (room_other : RoomIn u others) where
  -- what follows the first nodes
  rest : ℕ → Growth → Answer Grown
  rest p s = and_then (grow_origins b p (kept_origins b) s)
      (λ (g : Growth). and_then (drive (legs b) b p g.net g.saved)
      (λ (net : Net). and_then (end_fakes p net.ends 0 (record { table = net.table; nodes = net.nodes }))
      (λ (v : Network). and_then (last_node p v) (λ (w : Network). given (grown_with net w)))))

  onward : ℕ → Growth → Answer Grown
  onward p g = and_then (drive (legs b) b p g.net g.saved)
      (λ (net : Net). and_then (end_fakes p net.ends 0 (record { table = net.table; nodes = net.nodes }))
      (λ (v : Network). and_then (last_node p v) (λ (w : Network). given (grown_with net w))))

  onward_alike : (g other : Growth) → Ready b places g → AlikeGrowth others g other
      → Both SameGrowth (onward places g) (onward others other)
  unfolding onward
  onward_alike g other d l =
      growth_is g other l (λ (z : Growth). Both SameGrowth (onward places g) (onward others z))
      (λ v ag q. both_then (λ (m w : Net). Driven b places m [] × Alike others m w) SameGrowth
      (drive (legs b) b places g.net g.saved) (drive (legs b) b others (with_table g.net v) g.saved)
      (λ (net : Net). and_then (end_fakes places net.ends 0 (record { table = net.table; nodes = net.nodes }))
      (λ (x : Network). and_then (last_node places x) (λ (w : Network). given (grown_with net w))))
      (λ (net : Net). and_then (end_fakes others net.ends 0 (record { table = net.table; nodes = net.nodes }))
      (λ (x : Network). and_then (last_node others x) (λ (w : Network). given (grown_with net w))))
      (both_with (λ (m : Net). Driven b places m []) (Alike others) (drive (legs b) b places g.net g.saved)
      (drive (legs b) b others (with_table g.net v) g.saved)
      (drives r (legs b) g.net g.saved d.driven d.legs_in d.light)
      (drive_alike r others (legs b) g.net g.saved d.driven d.legs_in v ag q))
      (λ m w f. tail_alike m w f.0 f.1))

  zeroth : EstTime
  zeroth = fake_node 1 0 0 (of_bits binary64 0)

  first : EstTime
  first = fake_node 0 0 0 (departure b)

  rest_alike : 1 < places → 1 < others → Both SameGrowth (rest places (record { net = first_nodes b t; saved = [] }))
      (rest others (record { net = first_nodes b u; saved = [] }))
  unfolding rest onward first_nodes zeroth first
  rest_alike p q =
      let agree : Agree 2 (at (put (put t 0 zeroth) 1 first)) (at (put (put u 0 zeroth) 1 first)) =
      put_more (put t 0 zeroth) (put u 0 zeroth) places others (put_room t 0 zeroth places room)
      (put_room u 0 zeroth others room_other) 1 first first
      (put_more t u places others room room_other 0 zeroth zeroth (λ j h. absurd (omega arith)) (omega arith)
      (omega arith) refl) p q refl in
      both_then (λ (x y : Growth). Ready b places x × AlikeGrowth others x y) SameGrowth
      (grow_origins b places (kept_origins b) (record { net = first_nodes b t; saved = [] }))
      (grow_origins b others (kept_origins b) (record { net = first_nodes b u; saved = [] })) (onward places)
      (onward others)
      (both_with (Ready b places) (AlikeGrowth others)
      (grow_origins b places (kept_origins b) (record { net = first_nodes b t; saved = [] }))
      (grow_origins b others (kept_origins b) (record { net = first_nodes b u; saved = [] }))
      (origins_ready r places t room p)
      (origins_alike r places others (kept_origins b) (record { net = first_nodes b t; saved = [] })
      (record { rooted = first_rooted b places t room p; unused = none_used b (kept_origins b) }) (kept_apart b)
      (member_all (kept_origins b))
      (put (put u 0 zeroth) 1 first) agree (put_room (put u 0 zeroth) 1 first others
      (put_room u 0 zeroth others room_other))))
      (λ x y f. onward_alike x y f.0 f.1)

  pub grows_alike : Both SameGrowth (grow b places t) (grow b others u)
  unfolding grow rest
  grows_alike = go (ltb 1 places) (ltb 1 others) refl refl
    where
      go : (x y : Bool) → ltb 1 places ≡ x → ltb 1 others ≡ y
          → Both SameGrowth (and_then (start_as x (first_nodes b t)) (rest places))
          (and_then (start_as y (first_nodes b u)) (rest others))
      go false y p q = tt
      go true false p q = both_refused SameGrowth (rest places (record { net = first_nodes b t; saved = [] })) 12
      go true true p q = rest_alike (ltb-true 1 places p) (ltb-true 1 others q)

-- two growths of one book, each on a table of its own, are the same
pub one_growth : (b : List ℕ) (places others : ℕ) (t u : Table) (g other : Grown) → Read b
    → Room t.floats t.numbers places → Room u.floats u.numbers others
    → grow b places t ≡ given g → grow b others u ≡ given other → SameGrowth g other
one_growth b places others t u g other r room room_other p q =
    both_given SameGrowth (grow b places t) (grow b others u) g other
    (grows_alike b places others t u r room room_other) p q
