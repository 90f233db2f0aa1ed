-- A flow shows that a predicate on flows holds.
use Rattle.std.proofs.Common.{◌≡◌, ℕ, zero, suc, ◌<◌, ◌≤◌, Bool, true, false, not, ◌&&◌, cond, List, [], ◌∷◌, map, length, eqb, ltb, leb, refl, sym, ap, subst, ◌∙◌, ◌⊎◌, inl, inr, arith, ℤ, All, le-leb, lt-ltb}
use Rattle.std.specs.Prelude.{IsTrue, filter, int_le}
use Rattle.std.proofs.lemmas.Bool.{and_parts, and_from, both_ways, not-true, false_from_ne_true, eqb-true, leb-true, ltb-true, eq-eqb}
use Rattle.std.proofs.lemmas.Bool.Decides.{eqb_tells}
use Rattle.std.proofs.lemmas.List.Elements.{All-tail}
use Rattle.mono_base.specs.declared.limits.TheConstants.{MAX_WITNESS_VALUE}
use Rattle.mono_graph.specs.declared.amount.Amount.{Amount}
use Rattle.mono_graph.specs.Digraph.{Digraph, IsGraph, edge_at, present, has, is_distinct}
use Rattle.mono_graph.specs.Flows.{amount_at, is_flow, is_flow_of, is_within, is_conserved, value_of}
use Rattle.mono_graph.proofs.Membership.{has_here, has_there, has_cons}
use Rattle.mono_graph.proofs.Places.{all_below, all_of}
use Rattle.mono_problem.specs.declared.atom.Predicate.TheVariants as kind
use Rattle.mono_theory.specs.Evidences.{only, IsEvidence}
use Rattle.mono_theory.proofs.EvidenceDecides.{in_only}
use Rattle.mono_theory.proofs.WalksAsEvidence.{all_by}
use Rattle.mono_flow.specs.Flowing.{numbered, carrying, flow_evidence}
use Rattle.mono_flow.proofs.Numbered.{numbered-known, numbered-small, numbered_amount, placed-numbered}

-- ---- the edges that carry something

carrying_here : (a : Amount) (rest : List Amount) → 0 < a.amount → carrying (a ∷ rest) ≡ a.edge ∷ carrying rest
carrying_here a rest h = ap (λ (b : Bool). map (λ (x : Amount). x.edge) (cond b (a ∷ filter (λ (x : Amount). ltb 0 x.amount) rest) (filter (λ (x : Amount). ltb 0 x.amount) rest))) (lt-ltb 0 a.amount h)

carrying_later : (a : Amount) (rest : List Amount) (k : ℕ) → IsTrue (has (carrying rest) k) → IsTrue (has (carrying (a ∷ rest)) k)
carrying_later a rest k h = by (ltb 0 a.amount)
  where
    by : (b : Bool) → IsTrue (has (map (λ (x : Amount). x.edge) (cond b (a ∷ filter (λ (x : Amount). ltb 0 x.amount) rest) (filter (λ (x : Amount). ltb 0 x.amount) rest))) k)
    by true = has_there a.edge k (carrying rest) h
    by false = h

-- an edge whose amount isn't 0 is one of them
amount_carries : (amounts : List Amount) (k : ℕ) → 0 < amount_at amounts k → IsTrue (has (carrying amounts) k)
amount_carries [] k h = absurd (omega (arith, h))
amount_carries (a ∷ rest) k h = by (eqb_tells a.edge k) (amount_carries rest k)
  where
    by : ((eqb a.edge k ≡ true) × (a.edge ≡ k)) ⊎ ((eqb a.edge k ≡ false) × (a.edge ≡ k → ⊥)) → (0 < amount_at rest k → IsTrue (has (carrying rest) k)) → IsTrue (has (carrying (a ∷ rest)) k)
    by (inl e) later =
        let some : 0 < a.amount = subst (λ (n : ℕ). 0 < n) (ap (λ (b : Bool). cond b a.amount (amount_at rest k)) e.0) h in
        subst (λ (ks : List ℕ). IsTrue (has ks k)) (sym (carrying_here a rest some)) (subst (λ (j : ℕ). IsTrue (has (j ∷ carrying rest) k)) (sym e.1) (has_here k (carrying rest)))
    by (inr e) later = carrying_later a rest k (later (subst (λ (n : ℕ). 0 < n) (ap (λ (b : Bool). cond b a.amount (amount_at rest k)) e.0) h))

carried_listed : (amounts : List Amount) (k : ℕ) → IsTrue (has (carrying amounts) k) → IsTrue (has (map (λ a. a.edge) amounts) k)
carried_listed [] k h = absurd cc
carried_listed (a ∷ rest) k h = by (ltb 0 a.amount) h (carried_listed rest k)
  where
    by : (b : Bool) → IsTrue (has (map (λ (x : Amount). x.edge) (cond b (a ∷ filter (λ (x : Amount). ltb 0 x.amount) rest) (filter (λ (x : Amount). ltb 0 x.amount) rest))) k)
        → (IsTrue (has (carrying rest) k) → IsTrue (has (map (λ (x : Amount). x.edge) rest) k)) → IsTrue (has (map (λ (x : Amount). x.edge) (a ∷ rest)) k)
    by true t later = elim (has_cons a.edge k (carrying rest) t) [
      | inl e ↦ subst (λ (j : ℕ). IsTrue (has (map (λ (x : Amount). x.edge) (a ∷ rest)) j)) e (has_here a.edge (map (λ (x : Amount). x.edge) rest))
      | inr r ↦ has_there a.edge k (map (λ (x : Amount). x.edge) rest) (later r)
    ]
    by false t later = has_there a.edge k (map (λ (x : Amount). x.edge) rest) (later t)

-- they carry something, where no edge is listed twice
carries_amount : (amounts : List Amount) (k : ℕ) → IsTrue (is_distinct (map (λ a. a.edge) amounts)) → IsTrue (has (carrying amounts) k) → 0 < amount_at amounts k
carries_amount [] k d h = absurd cc
carries_amount (a ∷ rest) k d h = by (ltb 0 a.amount) refl h (carries_amount rest k (and_parts _ _ d).1)
  where
    -- the edge is a later one's
    other : IsTrue (has (carrying rest) k) → (IsTrue (has (carrying rest) k) → 0 < amount_at rest k) → 0 < amount_at (a ∷ rest) k
    other r later =
        let apart : eqb a.edge k ≡ false = false_from_ne_true (eqb a.edge k) (λ e. both_ways (has (map (λ (b : Amount). b.edge) rest) a.edge) (not-true _ (and_parts (not (has (map (λ (b : Amount). b.edge) rest) a.edge)) (is_distinct (map (λ (b : Amount). b.edge) rest)) d).0)
        (subst (λ (j : ℕ). IsTrue (has (map (λ (b : Amount). b.edge) rest) j)) (sym (eqb-true a.edge k e)) (carried_listed rest k r))) in
        subst (λ (n : ℕ). 0 < n) (sym (ap (λ (b : Bool). cond b a.amount (amount_at rest k)) apart)) (later r)

    by : (b : Bool) → ltb 0 a.amount ≡ b → IsTrue (has (map (λ (x : Amount). x.edge) (cond b (a ∷ filter (λ (x : Amount). ltb 0 x.amount) rest) (filter (λ (x : Amount). ltb 0 x.amount) rest))) k)
        → (IsTrue (has (carrying rest) k) → 0 < amount_at rest k) → 0 < amount_at (a ∷ rest) k
    by true q t later = elim (has_cons a.edge k (carrying rest) t) [
      | inl e ↦ subst (λ (n : ℕ). 0 < n) (sym (ap (λ (b : Bool). cond b a.amount (amount_at rest k)) (eq-eqb a.edge k e))) (ltb-true 0 a.amount q)
      | inr r ↦ other r later
    ]
    by false q t later = other t later

carried_known : (amounts : List Amount) (k n : ℕ) → All (λ a. a.edge < n) amounts → IsTrue (has (carrying amounts) k) → k < n
carried_known amounts k n h t = listed_known amounts k n h (carried_listed amounts k t)
  where
    listed_known : (bs : List Amount) (j m : ℕ) → All (λ a. a.edge < m) bs → IsTrue (has (map (λ (x : Amount). x.edge) bs) j) → j < m
    listed_known [] j m all i = absurd cc
    listed_known (a ∷ rest) j m all i = elim (has_cons a.edge j (map (λ (x : Amount). x.edge) rest) i) [
      | inl e ↦ subst (λ (v : ℕ). v < m) e (all 0 a (omega arith))
      | inr r ↦ listed_known rest j m (All-tail (λ (b : Amount). b.edge < m) a rest all) r
    ]

-- ---- the part of the edges that carry something

-- an edge that carries something is present, and can carry it
present_within : (f w : ℕ) (b : Bool) → IsTrue (leb f (cond b w 0)) → 0 < f → (b ≡ true) × (f ≤ w)
present_within f w true h some = (refl, leb-true f w h)
present_within f w false h some = let none = leb-true f 0 h in absurd (omega (arith, none, some))

-- so the others need not be
own_within : (f w : ℕ) (b c : Bool) → IsTrue (leb f (cond b w 0)) → (0 < f → c ≡ true) → IsTrue (leb f (cond c w 0))
own_within zero w b c h on = le-leb 0 (cond c w 0) (omega arith)
own_within (suc f) w b c h on =
    let p = present_within (suc f) w b h (omega arith) in
    subst (λ (d : Bool). IsTrue (leb (suc f) (cond d w 0))) (sym (on (omega arith))) (le-leb (suc f) w p.1)

-- a flow in the part is what each of these says
pub record IsFlowOf (g : Digraph) (P : List Bool) (s t : ℕ) (least : ℤ) (amounts : List Amount) : Type 0 where
  pub distinct : IsTrue (is_distinct (map (λ a. a.edge) amounts))
  pub within : IsTrue (is_within g P (amount_at amounts))
  pub conserved : IsTrue (is_conserved g s t (amount_at amounts))
  pub enough : IsTrue (int_le least (value_of g s (amount_at amounts)))

pub flow_parts : {g : Digraph} {P : List Bool} {s t : ℕ} {least : ℤ} (amounts : List Amount) → IsTrue (is_flow_of g P s t least amounts) → IsFlowOf g P s t least amounts
flow_parts {g = g} {P = P} {s = s} {t = t} {least = least} amounts h =
    let a = and_parts (is_distinct (map (λ (x : Amount). x.edge) amounts) && is_flow g P s t (amount_at amounts)) (int_le least (value_of g s (amount_at amounts))) h in
    let b = and_parts (is_distinct (map (λ (x : Amount). x.edge) amounts)) (is_flow g P s t (amount_at amounts)) a.0 in
    let c = and_parts (is_within g P (amount_at amounts)) (is_conserved g s t (amount_at amounts)) b.1 in
    record { distinct = b.0; within = c.0; conserved = c.1; enough = a.1 }

within_at : (g : Digraph) (P : List Bool) (f : ℕ → ℕ) (k : ℕ) → IsTrue (is_within g P f) → k < length g.edges → IsTrue (leb (f k) (cond (present P k) (edge_at g k).weight 0))
within_at g P f k h lt = all_below (λ j. leb (f j) (cond (present P j) (edge_at g j).weight 0)) 0 (length g.edges) h k (omega arith) (omega (arith, lt))

own_flow : (g : Digraph) (P : List Bool) (s t : ℕ) (least : ℤ) (amounts : List Amount) → IsTrue (is_flow_of g P s t least amounts) → IsTrue (is_flow_of g (only g (carrying amounts)) s t least amounts)
own_flow g P s t least amounts h =
    let f : ℕ → ℕ = amount_at amounts in
    let ks : List ℕ = carrying amounts in
    let a : IsFlowOf g P s t least amounts = flow_parts amounts h in
    let within : IsTrue (is_within g (only g ks) f) = all_of (λ j. leb (f j) (cond (present (only g ks) j) (edge_at g j).weight 0)) 0 (length g.edges) (λ k lo hi.
    let lt : k < length g.edges = omega (arith, hi) in
    own_within (f k) (edge_at g k).weight (present P k) (present (only g ks) k) (within_at g P f k a.within lt) (λ some. in_only g ks k lt (amount_carries amounts k some))) in
    and_from (is_distinct (map (λ (x : Amount). x.edge) amounts) && is_flow g (only g ks) s t f) (int_le least (value_of g s f))
    (and_from (is_distinct (map (λ (x : Amount). x.edge) amounts)) (is_flow g (only g ks) s t f) a.distinct (and_from (is_within g (only g ks) f) (is_conserved g s t f) within a.conserved)) a.enough

-- ---- evidence

pub flow_shows : (g : Digraph) (P : List Bool) (s t : ℕ) (least : ℤ) (amounts : List Amount) → IsGraph g → All (λ a. a.edge < length g.edges) amounts → All (λ a. a.amount ≤ MAX_WITNESS_VALUE) amounts → IsTrue (is_flow_of g P s t least amounts)
    → IsEvidence g P (kind.Flow s t least) (flow_evidence g amounts)
flow_shows g P s t least amounts ok known small h =
    let a : IsFlowOf g P s t least amounts = flow_parts amounts h in
    record {
      known = numbered-known g amounts ok known;
      small = numbered-small g amounts MAX_WITNESS_VALUE small;
      sided = all_by (λ k. (k < length g.edges) × (present P k ≡ true)) (carrying amounts) (λ k c.
          let lt : k < length g.edges = carried_known amounts k (length g.edges) known c in
          (lt, (present_within (amount_at amounts k) (edge_at g k).weight (present P k) (within_at g P (amount_at amounts) k a.within lt) (carries_amount amounts k a.distinct c)).0));
      used = all_by (λ k. IsTrue (ltb 0 (amount_at (numbered g amounts) (edge_at g k).number))) (carrying amounts) (λ k c.
          subst (λ (n : ℕ). IsTrue (ltb 0 n)) (sym (numbered_amount g amounts k ok known (carried_known amounts k (length g.edges) known c))) (lt-ltb 0 (amount_at amounts k) (carries_amount amounts k a.distinct c)));
      passes = ap (is_flow_of g (only g (carrying amounts)) s t least) (placed-numbered g amounts ok known) ∙ own_flow g P s t least amounts h;
    }
