-- What is read of flows before a call and after it.
use Rattle.std.proofs.Common.{◌≡◌, ◌∙◌, ◌⊎◌, ℕ, Bool, true, List, ℤ, ap, inl, inr, subst}
use Rattle.std.specs.Prelude.{IsSome}
use Rattle.mono_graph.specs.declared.amount.Amount.{Amount}
use Rattle.mono_graph.specs.Digraph.{Digraph}
use Rattle.mono_problem.specs.declared.atom.Atom.{Atom}
use Rattle.mono_theory.specs.AtomPlaces.{place_of_atom}
use Rattle.mono_theory.specs.Supports.{AreCovered, GraphTheoryView, IsKeptBy, IsSide, IsSideFor, SideView, facts_in}
use Rattle.mono_theory.specs.Theories.{atom_of}
use Rattle.mono_theory.proofs.PlacesOfAtoms.{place_held}
use Rattle.mono_flow.specs.Flowing.{is_flow_predicate}
use Rattle.mono_flow.specs.KeptFlows.{GivesToLost, carried_at, flows_in, over_flow}
use Rattle.mono_flow.proofs.KeptFlowsStay.{over_stays}

abbrev FlowView : Type 0
FlowView = GraphTheoryView SideView SideView

-- the flow of an atom of a number, where the graph and the atoms are the same
over_like : (s r : FlowView) (n k : ℕ) → r.graph ≡ s.graph → r.atoms ≡ s.atoms → (flows_in r n k).over ≡ carried_at s.graph (over_flow r.possibly (place_of_atom s.atoms n)) k
over_like s r n k graph atoms =
    ap (λ (xs : List Atom). carried_at r.graph (over_flow r.possibly (place_of_atom xs n)) k) atoms
    ∙ ap (λ (g : Digraph). carried_at g (over_flow r.possibly (place_of_atom s.atoms n)) k) graph

-- a literal that is seen leaves it, unless it takes away an edge to which the flow gives something
pub over_assigned : (s r : FlowView) (l : ℤ) (n k : ℕ) → r.graph ≡ s.graph → r.atoms ≡ s.atoms → IsSome (atom_of s.atoms n) → AreCovered is_flow_predicate s.atoms → s.possibly.possible ≡ true
    → IsSideFor (facts_in s) s.possibly.possible true s.possibly → IsKeptBy s.graph s.possibly.possible l s.possibly r.possibly
    → ((flows_in r n k).over ≡ (flows_in s n k).over) ⊎ GivesToLost s.graph l (λ j. (flows_in s n j).over)
over_assigned s r l n k graph atoms owned covered sign right kept =
    let a = place_of_atom s.atoms n in
    let side : IsSide (facts_in s) true s.possibly = subst (λ (b : Bool). IsSide (facts_in s) b s.possibly) sign right.side in
    let is : IsKeptBy s.graph true l s.possibly r.possibly = subst (λ (b : Bool). IsKeptBy s.graph b l s.possibly r.possibly) sign kept in
    elim (over_stays (facts_in s) l s.possibly r.possibly covered side is a (place_held s.atoms n owned).0) [
      | inl same ↦ inl (over_like s r n k graph atoms ∙ ap (λ (ms : List Amount). carried_at s.graph ms k) same)
      | inr lost ↦ inr (record { edge = lost.edge; held = lost.held; var = lost.var; absent = lost.absent; carried = lost.carried })
    ]
