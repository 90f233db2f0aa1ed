-- A grown set of nodes bounds flows by the same weight: what may leave it could leave the smaller one.
use Rattle.std.proofs.Common.{◌≡◌, ℕ, ◌<◌, ◌≤◌, Bool, true, false, not, ◌&&◌, ◌⊎◌, List, length, refl, sym, ap, ◌∙◌, subst, inl, inr, arith, ℤ, pos, int_lt}
use Rattle.std.specs.Prelude.{IsTrue}
use Rattle.std.proofs.lemmas.Bool.{and_parts, and_from, both_ways, cases_Bool, not-true, not_from_false, false_from_ne_true}
use Rattle.std.proofs.lemmas.Int.{ints}
use Rattle.std.proofs.lemmas.List.FromFn.{length-map-range_with_len}
use Rattle.mono_graph.specs.Digraph.{Digraph, edge_at, has, leads_out, places, present, present_by, weight_of}
use Rattle.mono_graph.specs.Flows.{is_flow_cut}
use Rattle.mono_graph.proofs.CutsBoundFlows.{total, total_is}
use Rattle.mono_graph.proofs.Places.{present_below}
use Rattle.mono_problem.specs.declared.atom.Predicate.TheVariants as kind
use Rattle.mono_steps.specs.declared.lemma.Witness.{Witness}
use Rattle.mono_steps.specs.Witnesses.{passes, rests_on_present}
use Rattle.mono_theory.specs.declared.evidence.Evidence.{Evidence}
use Rattle.mono_theory.specs.Evidences.{all_but, IsEvidence}
use Rattle.mono_theory.specs.Sound.{IsSound}
use Rattle.mono_theory.proofs.EvidenceDecides.{in_all_but}
use Rattle.mono_theory.proofs.WalksAsEvidence.{nodes-known}
use Rattle.mono_flow.specs.Growing.{IsGrownCut, IsGrownEvidence, IsGrownOf}
use Rattle.mono_flow.proofs.CutEvidence.{not_named}
use Rattle.mono_flow.proofs.Needed.{total_fewer}

-- an edge that may leave the greater set could leave the smaller one
still_leaves : (g : Digraph) (P : List Bool) (t : ℕ) (set edges set' edges' : List ℕ) → IsGrownCut g P t set edges set' edges' → (k : ℕ)
    → IsTrue (present (all_but g edges') k && leads_out set' (edge_at g k)) → IsTrue (present (all_but g edges) k && leads_out set (edge_at g k))
still_leaves g P t set edges set' edges' h k may = elim (cases_Bool (has set from)) [
  | inl old ↦ and_from (present (all_but g edges) k) (leads_out set (edge_at g k)) (in_all_but g edges k lt (unlisted (cases_Bool (has edges k))))
      (and_from (has set from) (not (has set to)) old (not_from_false (has set to) (false_from_ne_true (has set to) (λ inside. both_ways (has set' to) outside (h.kept to inside)))))
  | inr new ↦ absurd (elim (cases_Bool (present P k)) [
    | inl on ↦ both_ways (has set' to) outside (h.closed k lt leads.0 new on)
    | inr off ↦ both_ways (has edges' k) unnamed (h.new_rests k lt leads.0 new off outside)
  ])
]
  where
    from : ℕ
    from = (edge_at g k).from

    to : ℕ
    to = (edge_at g k).to

    parts : IsTrue (present (all_but g edges') k) × IsTrue (leads_out set' (edge_at g k))
    parts = and_parts (present (all_but g edges') k) (leads_out set' (edge_at g k)) may

    leads : IsTrue (has set' (edge_at g k).from) × IsTrue (not (has set' (edge_at g k).to))
    leads = and_parts (has set' (edge_at g k).from) (not (has set' (edge_at g k).to)) parts.1

    outside : has set' (edge_at g k).to ≡ false
    outside = not-true (has set' (edge_at g k).to) leads.1

    unnamed : has edges' k ≡ false
    unnamed = not-true (has edges' k) (not_named g edges' k parts.0)

    lt : k < length g.edges
    lt = omega (arith, present_below (all_but g edges') k parts.0, length-map-range_with_len (λ j. not (has edges' j)) 0 (length g.edges))

    unlisted : IsTrue (has edges k) ⊎ (has edges k ≡ false) → has edges k ≡ false
    unlisted (inr off) = off
    unlisted (inl on) = absurd (elim (cases_Bool (present P k)) [
      | inl came ↦ both_ways (has set' (edge_at g k).to) outside (h.came k on came)
      | inr absent ↦ both_ways (has edges' k) unnamed (h.rests k on absent outside)
    ])

below_still : (w v : ℕ) (least : ℤ) → w ≤ v → IsTrue (int_lt (pos v) least) → IsTrue (int_lt (pos w) least)
below_still w v least le h = grind (arith, ints)

grown_cut : (g : Digraph) (P : List Bool) (s t : ℕ) (least : ℤ) (set edges set' edges' : List ℕ) → IsGrownCut g P t set edges set' edges'
    → IsTrue (is_flow_cut g (all_but g edges) s t least set) → IsTrue (is_flow_cut g (all_but g edges') s t least set')
grown_cut g P s t least set edges set' edges' h cut =
    let f : ℕ → ℕ = λ k. (edge_at g k).weight in
    let p : ℕ → Bool = λ k. present (all_but g edges') k && leads_out set' (edge_at g k) in
    let q : ℕ → Bool = λ k. present (all_but g edges) k && leads_out set (edge_at g k) in
    let fewer : total f p (places g) ≤ total f q (places g) = total_fewer f p q (places g) (still_leaves g P t set edges set' edges' h) in
    let w : ℕ = weight_of g (present_by (leads_out set') g (all_but g edges')) in
    let v : ℕ = weight_of g (present_by (leads_out set) g (all_but g edges)) in
    let le : w ≤ v = omega (arith, fewer, total_is f p (places g), total_is f q (places g)) in
    let parts = and_parts (has set s && not (has set t)) (int_lt (pos v) least) cut in
    let ends = and_parts (has set s) (not (has set t)) parts.0 in
    and_from (has set' s && not (has set' t)) (int_lt (pos w) least)
    (and_from (has set' s) (not (has set' t)) (h.kept s ends.0) (not_from_false (has set' t) h.outside)) (below_still w v least le parts.1)

-- so it is evidence
grown_shows : (g : Digraph) (P : List Bool) (s t : ℕ) (least : ℤ) (set edges : List ℕ) (e : Evidence) → IsTrue (is_flow_cut g (all_but g edges) s t least set)
    → IsGrownEvidence g P t set edges e → IsEvidence g P (kind.Flow s t least) e
grown_shows g P s t least set edges e cut h =
    subst (λ (w : Witness). IsEvidence g P (kind.Flow s t least) (record { witness = w; edges = e.edges })) (sym h.witness) (record {
      known = nodes-known g h.set' h.cut.known;
      small = refl;
      sided = h.cut.absent;
      used = λ i d lt. refl;
      passes = grown_cut g P s t least set edges h.set' e.edges h.cut cut;
    })

pub grown_of : (g : Digraph) (P : List Bool) (s t : ℕ) (least : ℤ) (known e : Evidence) (value : Bool) → IsSound g (kind.Flow s t least) value known
    → IsGrownOf g P t known e → IsEvidence g P (kind.Flow s t least) e
grown_of g P s t least known e true sound h = absurd (let present : true ≡ false = sym sound.rests ∙ ap rests_on_present h.was in both_ways true present refl)
grown_of g P s t least known e false sound h =
    grown_shows g P s t least h.set known.edges e (subst (λ (w : Witness). IsTrue (passes g (all_but g known.edges) (kind.Flow s t least) w)) h.was sound.passes) h.grown
