-- The network with its noted arcs: laid, so many bases, and every weighing of arcs gives the noted list and the bases
-- one total. One law for each sort of new node.
use mathlib.Core.Path.{◌≡◌, refl, sym, ap, ◌∙◌, subst}
use mathlib.Core.Logic.{◌⊎◌, inl, inr}
use mathlib.Core.Bool.{true, false}
use mathlib.Core.List.{List, ◌∷◌}
use Prim.Native.Nat.{ℕ, suc, ◌+◌, ◌<◌}
use native.Mathlib.Omega.{arith}
use Rattle.laws.proofs.Truth.{equal_or_not}
use Rattle.net_node.specs.Table.{is_fake}
use Rattle.net_node.specs.declared.EstTime.{EstTime}
use Rattle.laws.specs.Below.{sum_below}
use Rattle.grow_rules.specs.Run.{Arc, member_of}
use Rattle.arcs_growth.specs.Arcs.{one}
use Rattle.arcs_growth.proofs.Sums.{sum_same, sum_suc, total, total_more}
use Rattle.arcs_growth.proofs.Labels.{Role, event, split, join, stop, base_role, lands, Labels, Extends, labelled}
use Rattle.arcs_growth.proofs.Labels.{labelled_old, new_role}
use Rattle.arcs_growth.proofs.Laid.{Laid}
use Rattle.arcs_growth.proofs.NewNodes.{Attached, Alternated, NewPrevAlt, NoStops, event_laid, join_laid, stop_laid}
use Rattle.arcs_growth.proofs.NewNodes.{split_laid}
use Rattle.arcs_growth.proofs.Weights.{arc_there, arc_out, weigh, weigh_none, weigh_next, weigh_empty, weigh_ended}
use Rattle.arcs_growth.proofs.Weights.{weigh_same, sum_attached, sum_alternated}

abbrev pub base_count : Labels → ℕ → ℕ
base_count L i = one (base_role (L.role i))

pub record Graph (L : Labels) (node : ℕ → EstTime) (n : ℕ) (ends : List ℕ) (arcs : List Arc) (k : ℕ) : Type 0 where
  pub laid : Laid L node n
  pub bases : sum_below n (base_count L) ≡ k
  pub noted : (w : Arc → ℕ) → total w arcs ≡ sum_below n (weigh L node ends w)

-- time and distance stay, except at b
pub record Timed (node after : ℕ → EstTime) (n b : ℕ) : Type 0 where
  pub time : (i : ℕ) → i < n → (i ≡ b → ⊥) → (after i).time_to_next ≡ (node i).time_to_next
  pub distance : (i : ℕ) → i < n → (i ≡ b → ⊥) → (after i).dist_to_next ≡ (node i).dist_to_next

-- the next of a base is a node
pub next_within : {L : Labels} {node : ℕ → EstTime} {n : ℕ} → Laid L node n → (i : ℕ) → i < n
    → base_role (L.role i) ≡ true → (node i).idx_next < n
next_within {L} {node} {n} v i h b = go (equal_or_not (node i).idx_next 0)
  where
    go : ((node i).idx_next ≡ 0) ⊎ ((node i).idx_next ≡ 0 → ⊥) → (node i).idx_next < n
    go (inl e) = omega (arith, v.two)
    go (inr d) = ((v.each i h).next (node i).idx_next refl (omega arith) b).inside

more_bases : (L : Labels) (n : ℕ) (r : Role) (o g d k : ℕ) → sum_below n (base_count L) ≡ k
    → sum_below (suc n) (base_count (labelled L n r o g d)) ≡ k + one (base_role r)
more_bases L n r o g d k e =
    let M = labelled L n r o g d in
    let a = sum_same n (base_count L) (base_count M)
    (λ i h. ap (λ (q : Role). one (base_role q)) ((labelled_old L n r o g d).role i h)) in
    let c = sum_suc n (base_count M) in
    let f : base_count M n ≡ one (base_role r) = ap (λ (q : Role). one (base_role q)) (new_role L n r o g d) in
    omega arith

module _ {L : Labels} {node after : ℕ → EstTime} {n b : ℕ} {ends : List ℕ} {noted : List Arc} {k : ℕ}
    (g : Graph L node n ends noted k)
    (a : Attached node after n b) (t : Timed node after n b) (base : base_role (L.role b) ≡ true)
    (empty : (node b).idx_next ≡ 0) where
  others : {M : Labels} → Extends L M n → (rest : List ℕ) (w : Arc → ℕ) (i : ℕ) → i < n → (i ≡ b → ⊥)
      → member_of rest i ≡ member_of ends i → weigh M after rest w i ≡ weigh L node ends w i
  others x rest w i h d m = weigh_same node after x ends rest w i h (a.other i h d) (t.time i h d) (t.distance i h d)
      (next_within g.laid i h) m

  here : {M : Labels} → Extends L M n → (rest : List ℕ) (w : Arc → ℕ) → weigh M after rest w b ≡ w (arc_there M after b)
  here {M} x rest w = weigh_next M after rest w b (ap base_role (x.role b a.within) ∙ base)
      (subst (λ (j : ℕ). 0 < j) (sym a.here) (omega (arith, g.laid.two)))

  -- an event or a join's Fake is added, and the arc noted
  noted_more : (M : Labels) (arc : Arc) → Extends L M n → member_of ends b ≡ false → arc ≡ arc_there M after b
      → ((w : Arc → ℕ) → weigh M after ends w n ≡ 0) → (w : Arc → ℕ)
      → total w (arc ∷ noted) ≡ sum_below (suc n) (weigh M after ends w)
  noted_more M arc x out e z w =
      let y = here x ends w in
      let u = weigh_empty L node ends w b base empty out in
      let s = sum_attached node after x ends ends w b (w (arc_there M after b)) a.within
      (λ i h d. others x ends w i h d refl) (omega arith) (z w) in
      let c = total_more w arc noted in
      let d : w arc ≡ w (arc_there M after b) = ap w e in
      let f = g.noted w in
      omega arith

  pub event_graph : NewPrevAlt L after n → NoStops L n → member_of ends b ≡ false → member_of ends n ≡ false
      → is_fake (after n) ≡ false → (after n).idx_next ≡ 0
      → (arc : Arc) → arc ≡ arc_there (labelled L n event n n (suc (L.depth (L.owner b)))) after b
      → Graph (labelled L n event n n (suc (L.depth (L.owner b)))) after (suc n) ends (arc ∷ noted) (k + 1)
  event_graph pa s out new kind z arc e =
      let d = suc (L.depth (L.owner b)) in
      let M = labelled L n event n n d in
      record {
        laid = event_laid g.laid a base empty pa s kind z;
        bases = more_bases L n event n n d k g.bases;
        noted = noted_more M arc (labelled_old L n event n n d) out e
            (λ w. weigh_empty M after ends w n (ap base_role (new_role L n event n n d)) z new);
      }

  pub join_graph : NewPrevAlt L after n → NoStops L n → member_of ends b ≡ false → (r : ℕ) → r < n
      → lands (L.role r) ≡ true → is_fake (after n) ≡ true → (after n).idx_next ≡ r
      → (arc : Arc) → arc ≡ arc_there (labelled L n join 0 (L.goal r) 0) after b
      → Graph (labelled L n join 0 (L.goal r) 0) after (suc n) ends (arc ∷ noted) (k + 0)
  join_graph pa s out r l q kind z arc e =
      let M = labelled L n join 0 (L.goal r) 0 in
      record {
        laid = join_laid g.laid a base empty pa s r l q kind z;
        bases = more_bases L n join 0 (L.goal r) 0 k g.bases;
        noted = noted_more M arc (labelled_old L n join 0 (L.goal r) 0) out e
            (λ w. weigh_none M after ends w n (ap base_role (new_role L n join 0 (L.goal r) 0)));
      }

  -- an end Fake: base b was an end, and its arc leads out as before
  pub stop_graph : NewPrevAlt L after n → (rest : List ℕ) → member_of ends b ≡ true
      → ((i : ℕ) → (i ≡ b → ⊥) → member_of rest i ≡ member_of ends i) → is_fake (after n) ≡ true
      → (after n).idx_next ≡ suc n
      → arc_out L b ≡ arc_there (labelled L n stop 0 0 0) after b
      → Graph (labelled L n stop 0 0 0) after (suc n) rest noted (k + 0)
  stop_graph pa rest in-ends m kind z e =
      let M = labelled L n stop 0 0 0 in
      let x = labelled_old L n stop 0 0 0 in
      record {
        laid = stop_laid g.laid a base empty pa kind z;
        bases = more_bases L n stop 0 0 0 k g.bases;
        noted = λ w. same M x w (weigh_none M after rest w n (ap base_role (new_role L n stop 0 0 0))) e;
      }
    where
      same : (M : Labels) → Extends L M n → (w : Arc → ℕ) → weigh M after rest w n ≡ 0
          → arc_out L b ≡ arc_there M after b → total w noted ≡ sum_below (suc n) (weigh M after rest w)
      same M x w y q =
          let c = here x rest w in
          let d = weigh_ended L node ends w b base empty in-ends in
          let f : w (arc_out L b) ≡ w (arc_there M after b) = ap w q in
          let s = sum_attached node after x ends rest w b 0 a.within (λ i h o. others x rest w i h o (m i o))
          (omega arith) y in
          let t = g.noted w in
          omega arith

pub split_graph : {L : Labels} {node after : ℕ → EstTime} {n p : ℕ} {ends : List ℕ} {noted : List Arc} {k : ℕ}
    → Graph L node n ends noted k → Alternated node after n p
    → ((i : ℕ) → i < n → (after i).time_to_next ≡ (node i).time_to_next)
    → ((i : ℕ) → i < n → (after i).dist_to_next ≡ (node i).dist_to_next)
    → base_role (L.role p) ≡ true → (node p).idx_next_alt ≡ 0 → NoStops L n → is_fake (after n) ≡ true
    → member_of ends n ≡ false → Graph (labelled L n split (L.owner p) 0 0) after (suc n) ends noted (k + 1)
split_graph {L} {node} {after} {n} {p} {ends} {noted} {k} g a t u base empty s kind new =
    let M = labelled L n split (L.owner p) 0 0 in
    let x = labelled_old L n split (L.owner p) 0 0 in
    record {
      laid = split_laid g.laid a base empty s kind;
      bases = more_bases L n split (L.owner p) 0 0 k g.bases;
      noted = λ w. g.noted w ∙ sym (sum_alternated node after x ends ends w
          (λ i h. weigh_same node after x ends ends w i h (a.next i h) (t i h) (u i h) (next_within g.laid i h) refl)
          (weigh_empty M after ends w n (ap base_role (new_role L n split (L.owner p) 0 0)) a.new_next new));
    }
