-- The ends: an end Fake for each run that has finished, then the last node.
use mathlib.Core.Path.{◌≡◌, refl, sym, ap, ◌∙◌, subst}
use mathlib.Core.List.{List}
use Prim.Native.Nat.{ℕ, ◌+◌, ◌-◌, ◌*◌, ◌≤◌, ◌<◌}
use native.Mathlib.Omega.{arith}
use lib.ListN.{length}
use lib.Ieee.{Float}
use Rattle.laws.specs.Answer.{Answer, refused, given, and_then}
use Rattle.net_node.specs.Table.{Room, Table}
use Rattle.net_event_map.specs.declared.Layout.{Layout}
use Rattle.std.specs.Prelude.{Result, Ok, Err, IsErrAnd}
use Rattle.refusals.specs.declared.Refusal.{Refusal}
use Rattle.refusals.specs.Refusals.{refusal_number}
use Rattle.report.specs.declared.Report.{Report}
use Rattle.grow_ends.specs.Ends.{EndsIn, SomeEnds, TailAs}
use Rattle.grow_ends.proofs.Kept.{fakes_counted}
use Rattle.grow_rules.specs.Run.{Net}
use Rattle.grow_rules.specs.Growth.{end_fakes, last_node, grown_with}
use Rattle.net_node.specs.Left.{Network}
use Rattle.grow_rules.specs.Growth.{Grown}
use Rattle.grow_events.specs.declared.Counts.{Counts}
use Rattle.grow_events.specs.Held.{ends_at}
use Rattle.net_insertion.specs.Insertion.{table_of}
use Rattle.grow_book.specs.Answers.{Closing, SomeClosing, closing, WholeAs, GrownAs}

abbrev lastly : ℕ → Net → Network → Answer Grown
lastly places net u = and_then (last_node places u) (λ (v : Network). given (grown_with net v))

closing_is : (places : ℕ) (net : Net) → closing places net ≡ and_then
    (end_fakes places net.ends 0 (record { table = net.table; nodes = net.nodes })) (lastly places net)
unfolding closing
closing_is places net = refl

module _ (w : Layout) (fs : List Float) (us cells : List ℕ) (c : Counts) where
  -- what the end Fakes ask
  pub fakes_ask : SomeClosing w fs us cells c → Room fs us w.places
      × ((c.nodes ≤ w.places) × ((ends_at w + c.nodes * 8 ≤ length cells + 7)
      × SomeEnds cells (ends_at w) c.last_end c.nodes))
  fakes_ask s =
      let v = s.closes.holds in (
        v.room,
        (
          v.within,
          (
            omega (arith, v.apart.nodes_inside, v.within),
            record { ends = s.net.ends; chained = v.ends; below = v.ends_below },
          ),
        ),
      )

  module _ (fs' : List Float) (us' : List ℕ) (r : Result ℕ Refusal) (t : (ends : List ℕ)
      → EndsIn cells (ends_at w) c.last_end ends → TailAs
      (end_fakes w.places ends 0 (record { table = record { floats = fs; numbers = us }; nodes = c.nodes })) fs' us' r)
    where
      module _ (net : Net) (k : Closing w fs us cells c net) where
        tail_is : closing w.places net ≡ and_then (end_fakes w.places net.ends 0
            (record { table = record { floats = fs; numbers = us }; nodes = c.nodes })) (lastly w.places net)
        tail_is =
            closing_is w.places net ∙ ap (λ (x : Table). and_then
            (end_fakes w.places net.ends 0 (record { table = x; nodes = net.nodes })) (lastly w.places net))
            k.holds.table
            ∙ ap (λ (n : ℕ). and_then (end_fakes w.places net.ends 0
            (record { table = record { floats = fs; numbers = us }; nodes = n })) (lastly w.places net)) k.holds.nodes

        pub fakes_full : (x : Refusal) → r ≡ Err x → closing w.places net ≡ refused (refusal_number x)
        fakes_full x e = tail_is ∙ ap (λ (a : Answer Network). and_then a (lastly w.places net))
            (subst (TailAs (end_fakes w.places net.ends 0
            (record { table = record { floats = fs; numbers = us }; nodes = c.nodes })) fs' us') e
            (t net.ends k.holds.ends))

        module _ (n : ℕ) (e : r ≡ Ok n) where
          pushed : TailAs (end_fakes w.places net.ends 0
              (record { table = record { floats = fs; numbers = us }; nodes = c.nodes })) fs' us' (Ok n)
          pushed = subst (TailAs (end_fakes w.places net.ends 0
              (record { table = record { floats = fs; numbers = us }; nodes = c.nodes })) fs' us') e
              (t net.ends k.holds.ends)

          counted : (n ≡ c.nodes + length net.ends) × (n ≤ w.places)
          counted = fakes_counted w.places c.nodes n net.ends (table_of fs us) fs' us' k.holds.within pushed

          then-last : closing w.places net ≡ lastly w.places net
              (record { table = record { floats = fs'; numbers = us' }; nodes = n })
          then-last = tail_is ∙ ap (λ (a : Answer Network). and_then a (lastly w.places net)) pushed

          module _ (fs'' : List Float) (us'' : List ℕ) (q : Result ℕ Refusal)
              (l : TailAs (last_node w.places
              (record { table = record { floats = fs'; numbers = us' }; nodes = n })) fs'' us'' q) where
            pub last_full : (x : Refusal) → q ≡ Err x → closing w.places net ≡ refused (refusal_number x)
            last_full x d = then-last ∙ ap (λ (a : Answer Network). and_then a
                (λ (v : Network). given (grown_with net v))) (subst
                (TailAs (last_node w.places (record { table = record { floats = fs'; numbers = us' }; nodes = n })) fs''
                us'') d l)

            pub closed-whole : (m : ℕ) → q ≡ Ok m → WholeAs (closing w.places net) fs'' us'' m c.added c.splits c.joined
                (n - c.nodes)
            unfolding grown_with
            closed-whole m d =
                record {
                  network = grown_with net (record { table = record { floats = fs''; numbers = us'' }; nodes = m });
                  is = then-last ∙ ap (λ (a : Answer Network). and_then a (λ (v : Network). given (grown_with net v)))
                      (subst (TailAs (last_node w.places (record {
                        table = record { floats = fs'; numbers = us' };
                        nodes = n;
                      })) fs'' us'') d l);
                  floats = refl;
                  numbers = refl;
                  nodes_are = refl;
                  added_are = k.holds.added;
                  splits_are = k.holds.splits;
                  joined_are = k.holds.joined;
                  finished_are = omega (arith, counted.0);
                }

      -- what the last node asks, and that no Fake is lost
      pub last_asks : SomeClosing w fs us cells c → (n : ℕ) → r ≡ Ok n → length fs' ≡ length fs → length us' ≡ length us
          → Room fs' us' w.places × (0 < n)
      last_asks s n e lf lu =
          let v = s.closes.holds in (
            record {
              floats = omega (arith, v.room.floats);
              numbers = omega (arith, v.room.numbers);
              most = v.room.most;
            },
            omega (arith, v.sum, (counted s.net s.closes n e).0),
          )

      pub not_fewer : SomeClosing w fs us cells c → (n : ℕ) → r ≡ Ok n → c.nodes ≤ n
      not_fewer s n e = omega (arith, (counted s.net s.closes n e).0)

-- ---- a refusal that is handed on

pub grown_refused : (answer : Answer Grown) (fs : List Float) (us : List ℕ) (r : Result Report Refusal) (k : Refusal)
    → IsErrAnd r (λ (x : Refusal). x ≡ k) → answer ≡ refused (refusal_number k) → GrownAs answer fs us r
grown_refused answer fs us (Ok g) k h q = absurd h
grown_refused answer fs us (Err x) k h q = q ∙ ap (λ (y : Refusal). refused (refusal_number y)) (sym h)
