-- An edge that would close a cycle breaks an atom whose variable is true.
use Rattle.std.proofs.Common.{◌≡◌, ◌≢◌, ℕ, ◌<◌, Bool, true, false, not, ◌||◌, List, All, length, set, take, refl, sym, ap, subst, ◌∙◌, inl, inr, arith, ℤ, pos, neg_ℤ}
use Rattle.std.specs.Prelude.{IsTrue, ◌==◌}
use Rattle.std.specs.Option.{is_some}
use Rattle.std.proofs.lemmas.Bool.{and_from, both_ways, cases_Bool, cases_eq, eqb-true, false_from_ne_true, not_from_false, or_cases}
use Rattle.mono_base.specs.Literal.{has_lit}
use Rattle.mono_base.specs.Partial.{is_false_in, is_open_in, is_true_in}
use Rattle.mono_base.proofs.Partials.{neg-neg}
use Rattle.mono_graph.specs.Digraph.{Digraph, IsGraph, IsSubpart, edge_at, has, present}
use Rattle.mono_graph.specs.Cycles.{is_cycle, is_order}
use Rattle.mono_graph.proofs.Membership.{all_at}
use Rattle.mono_graph.proofs.Parts.{in_part_by, length-part_by, part_by-has}
use Rattle.mono_graph.proofs.RisingRanks.{cycle_cyclic, is_cycle-larger, order_acyclic}
use Rattle.mono_cycles.specs.Kept.{IsGrownBy, PartWithOrder}
use Rattle.mono_problem.specs.declared.atom.Predicate.{Predicate}
use Rattle.mono_problem.specs.declared.atom.Predicate.TheVariants as kind
use Rattle.mono_problem.specs.Quiet.{over, under}
use Rattle.mono_problem.specs.Read.{no_atom}
use Rattle.mono_theory.specs.Evidences.{IsEvidence}
use Rattle.mono_theory.specs.Supports.{AreCovered, atom_at}
use Rattle.mono_theory.specs.SureParts.{sure_parts}
use Rattle.mono_theory.specs.Theories.{Facts, cut_to}
use Rattle.mono_theory.specs.Threats.{IsThreat}
use Rattle.mono_theory.specs.declared.threat.Threat.{Threat}
use Rattle.mono_theory.proofs.EvidenceDecides.{only-within}
use Rattle.mono_theory.proofs.SureEdges.{sure_all}
use Rattle.mono_acyclic.specs.Cyclic.{cycle_evidence, is_cycle_predicate}
use Rattle.mono_acyclic.specs.Orders.{AreEdgesTo, IsOrderedTo, OrderedView}
use Rattle.mono_acyclic.specs.Together.{HasSameEdges, IsClosing}
use Rattle.mono_acyclic.proofs.CycleEvidence.{cycle_shows, own_cycle}
use Rattle.mono_acyclic.proofs.OrderStays.{cycle_places, edges_cut, edges_in, edges_on, kept_open}
use Rattle.mono_acyclic.proofs.Together.{set_grown}

-- a cycle that one more edge closes has that edge
has_closing : (g : Digraph) (P Q : List Bool) (ks : List ℕ) (k : ℕ) → IsTrue (is_cycle g Q ks) → IsGrownBy P Q k → (IsTrue (is_cycle g P ks) → ⊥) → IsTrue (has ks k)
has_closing g P Q ks k cycle grown none = elim (cases_Bool (has ks k)) [
  | inl on ↦ on
  | inr off ↦ absurd (none (
      let own = own_cycle g Q ks (cycle_places g Q ks cycle) cycle in
      is_cycle-larger g _ P (only-within g ks P (λ j there. elim (or_cases (present P j) (j == k) (sym (grown.each j) ∙ all_at (present Q) ks j own.0 there)) [
        | inl before ↦ before
        | inr new ↦ absurd (both_ways (has ks k) off (subst (λ (i : ℕ). IsTrue (has ks i)) (eqb-true j k new) there))
      ])) ks own.1))
]

cycle_evidence_of : (g : Digraph) (P : List Bool) (q : Predicate) (ks : List ℕ) → IsGraph g → IsTrue (is_cycle_predicate q) → IsTrue (is_cycle g P ks) → IsEvidence g P q (cycle_evidence g ks)
cycle_evidence_of g P kind.Acyclic ks ok is cycle = cycle_shows g P ks ok (cycle_places g P ks cycle) cycle
cycle_evidence_of g P (kind.Reach u v) ks ok is cycle = absurd cc
cycle_evidence_of g P (kind.Steps u v most) ks ok is cycle = absurd cc
cycle_evidence_of g P (kind.Distance u v most) ks ok is cycle = absurd cc
cycle_evidence_of g P (kind.Flow u v least) ks ok is cycle = absurd cc
cycle_evidence_of g P (kind.Tree most) ks ok is cycle = absurd cc

-- the cycle goes over the graph's edges
pub closing_places : (f : Facts) (o : PartWithOrder) (k : ℕ) → IsOrderedTo f (length f.seen) o → IsClosing f.graph o.part (over f.graph f.seen) o.cycle k → All (λ j. j < length f.graph.edges) o.cycle
closing_places f o k h closing = cycle_places f.graph (set o.part k true) o.cycle (closing.closes (set o.part k true) (set_grown o.part k (omega (arith, closing.known, h.part_size))))

-- an open edge that closes one
pub closing_threat : (f : Facts) (o : PartWithOrder) (k a : ℕ) → IsGraph f.graph → AreCovered is_cycle_predicate f.atoms → a < length f.atoms → IsTrue (is_true_in f.seen (pos (atom_at f.atoms a).var)) → IsOrderedTo f (length f.seen) o
    → IsClosing f.graph o.part (over f.graph f.seen) o.cycle k → IsThreat f false (record { atom = a; edge = k; evidence = cycle_evidence f.graph o.cycle })
closing_threat f o k a ok covered lt on h closing =
    let g = f.graph in
    let t = f.seen in
    let var = (edge_at g k).var in
    let same : (j : ℕ) → present o.part j ≡ present (under g t) j = λ j. h.part j ∙ ap (λ (P : List Bool). present P j) (sure_all f (length t) refl) in
    let len : length (under g t) ≡ length g.edges = length-part_by _ g in
    let Q : List Bool = set (under g t) k true in
    let put : IsGrownBy (under g t) Q k = set_grown (under g t) k (omega (arith, closing.known, len)) in
    let grown : IsGrownBy o.part Q k = record { each = λ j. put.each j ∙ ap (λ (b : Bool). b || j == k) (sym (same j)) } in
    let cycle : IsTrue (is_cycle g Q o.cycle) = closing.closes Q grown in
    let off : is_true_in t (pos var) ≡ false = false_from_ne_true (is_true_in t (pos var)) (λ here. both_ways (present (under g t) k) (sym (same k) ∙ closing.absent) (part_by-has (λ e. is_true_in t (pos e.var)) g k closing.known here)) in
    record {
      atom = lt;
      edge = closing.known;
      is_open = and_from (not (is_true_in t (pos var))) (not (is_false_in t (pos var))) (not_from_false (is_true_in t (pos var)) off) (in_part_by (λ e. not (is_false_in t (pos e.var))) g k closing.may_come);
      rests = refl;
      used = has_closing g o.part Q o.cycle k cycle grown (λ closed. cycle_cyclic g o.part o.cycle closed (order_acyclic g o.part o.order h.order));
      right = cycle_evidence_of g Q (atom_at f.atoms a).predicate o.cycle ok (covered.each a no_atom lt) cycle;
      denied = subst (λ (l : ℤ). IsTrue (has_lit t l)) (sym (neg-neg (pos (atom_at f.atoms a).var))) on;
    }

-- a part with the same edges and an order of them
pub ordered_kept : {f : Facts} {n : ℕ} {o r : PartWithOrder} → IsOrderedTo f n o → HasSameEdges f.graph o r → IsOrderedTo f n r
ordered_kept h same = record {
  size = same.size ∙ h.size;
  part_size = same.part_size ∙ h.part_size;
  part = λ k. same.part k ∙ h.part k;
  order = same.order h.order;
}

-- all edges of the literals are in the part, where no cycle was closed
pub all_ordered : (f : Facts) (n : ℕ) (s : OrderedView) → n ≡ length f.seen → is_some s.closing ≡ false → AreEdgesTo (cut_to n f) (length (take n f.seen)) s → IsOrderedTo f (length f.seen) s.ordered
all_ordered f n s all none h = subst (λ (m : ℕ). IsOrderedTo f m s.ordered) all (kept_open f n s.ordered s.closing none (edges_in f n (omega (arith, all)) h).kept)

-- and stay there
pub still_right : (f : Facts) (n : ℕ) (s : OrderedView) (r : PartWithOrder) → n ≡ length f.seen → is_some s.closing ≡ false → IsOrderedTo f (length f.seen) r → AreEdgesTo (cut_to n f) (length (take n f.seen)) (record { ordered = r; closing = s.closing })
still_right f n s r all none h = edges_cut f n (omega (arith, all)) (edges_on f n s r none (subst (λ (m : ℕ). IsOrderedTo f m r) (sym all) h))
