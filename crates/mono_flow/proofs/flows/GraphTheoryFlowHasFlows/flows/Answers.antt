use Rattle.std.proofs.Common.{◌≡◌, ◌<◌, ◌∙◌, ℕ, Bool, true, false, length, ap, subst, sym, Some}
use Rattle.std.proofs.lemmas.Option.{IfSome_then}
use Rattle.mono_graph.specs.declared.edge.Edge.{Edge}
use Rattle.mono_graph.specs.Digraph.{Digraph, IsGraph, edge_at}
use Rattle.mono_graph.specs.Flows.{amount_at}
use Rattle.mono_problem.specs.Quiet.{under, over}
use Rattle.mono_theory.specs.AtomPlaces.{place_of_atom}
use Rattle.mono_theory.specs.Frames.{AreAtomsOf}
use Rattle.mono_theory.specs.Sound.{atom_at, evidence_at}
use Rattle.mono_theory.specs.Stages.{stage_at}
use Rattle.mono_theory.specs.Supports.{IsSide, IsSideFor, SideView, facts_in}
use Rattle.mono_theory.specs.Theories.{Facts, atom_of}
use Rattle.mono_theory.proofs.PlacesOfAtoms.{place_is}
use Rattle.mono_flow.specs.KeptFlows.{IsDecidedBy, IsFlowFor, carried_at, over_flow, under_flow}
use Rattle.mono_flow.proofs.KeptFlowsDecide.{over_decided, under_decided}
use Rattle.mono_flow.proofs.KeptFlowsAreFlows.{IsRead, amount_read, flow_read, flows_are, over_read, shown_read, support_read, under_read}
use Rattle.mono_flow.proofs.flows.GraphTheoryFlowHasFlows.flows.Goals as goal

held : (c : goal.After-amount_in-2) → c.place_of-at.result < length c.args.self.now.atoms
held c = rw c.frame-frame.ensures at c.place_of-at.ensures.held

found : (c : goal.After-amount_in-2) → atom_of c.args.self.now.atoms c.args.atom ≡ Some (atom_at c.args.self.now.atoms c.place_of-at.result)
found c = rw c.frame-frame.ensures at c.place_of-at.ensures.is

place : (c : goal.After-amount_in-2) → place_of_atom c.args.self.now.atoms c.args.atom ≡ c.place_of-at.result
place c = place_is c.args.self.now.atoms c.args.atom c.place_of-at.result c.requires.owned (rw c.frame-frame.ensures at c.place_of-at.ensures.alone)

low : (c : goal.After-amount_in-2) → IsSideFor (facts_in c.args.self.now) false true c.args.self.now.surely
low c = subst (λ (b : Bool). IsSideFor (facts_in c.args.self.now) b true c.args.self.now.surely) c.surely.ensures.sign c.surely.ensures.right

high : (c : goal.After-amount_in-2) → IsSideFor (facts_in c.args.self.now) true true c.args.self.now.possibly
high c = subst (λ (b : Bool). IsSideFor (facts_in c.args.self.now) b true c.args.self.now.possibly) c.possibly.ensures.sign c.possibly.ensures.right

shown : (c : goal.After-amount_in-2) → IsRead c.shown_witness-shown.result (under_flow c.args.self.now.surely c.place_of-at.result)
shown c =
    let thorough : c.surely.result.now.thorough ≡ true = ap (λ (v : SideView). v.thorough) c.surely.ensures.value ∙ (low c).thorough in
    let side : IsSide (facts_in c.args.self.now) false c.surely.result.now = subst (IsSide (facts_in c.args.self.now) false) (sym c.surely.ensures.value) (low c).side in
    subst (λ (v : SideView). IsRead c.shown_witness-shown.result (under_flow v c.place_of-at.result)) c.surely.ensures.value
    (shown_read c.shown_witness-shown.result (stage_at c.surely.result.now.stages c.place_of-at.result) (evidence_at c.surely.result.now.shown c.place_of-at.result)
    (c.shown_witness-shown.ensures.none (facts_in c.args.self.now) false side thorough) c.shown_witness-shown.ensures.shows c.shown_witness-shown.ensures.its)

support : (c : goal.After-amount_in-2) → IsRead c.support_witness-support.result (over_flow c.args.self.now.possibly c.place_of-at.result)
support c =
    let side : IsSide (facts_in c.args.self.now) true c.possibly.result.now = subst (IsSide (facts_in c.args.self.now) true) (sym c.possibly.ensures.value) (high c).side in
    subst (λ (v : SideView). IsRead c.support_witness-support.result (over_flow v c.place_of-at.result)) c.possibly.ensures.value
    (support_read c.support_witness-support.result (stage_at c.possibly.result.now.stages c.place_of-at.result) (evidence_at c.possibly.result.now.supports c.place_of-at.result)
    (c.support_witness-support.ensures.none (facts_in c.args.self.now) true side) c.support_witness-support.ensures.stands c.support_witness-support.ensures.its)

graph : (c : goal.After-amount_in-2) → IsGraph c.args.self.now.graph
graph c = rw c.frame-frame.ensures at c.graph.ensures.known

atoms : (c : goal.After-amount_in-2) → AreAtomsOf c.args.self.now.graph c.args.self.now.atoms
atoms c = rw c.frame-frame.ensures at c.graph.ensures.atoms

number : (c : goal.After-amount_in-2) → c.edge-edge.result.number ≡ (edge_at c.args.self.now.graph c.args.place).number
number c =
    ap (λ (e : Edge). e.number) c.edge-edge.ensures.edge
    ∙ ap (λ (g : Digraph). (edge_at g c.args.place).number) (c.graph.ensures.graph ∙ ap (λ (f : Facts). f.graph) c.frame-frame.ensures)

pub returns-clause-under : goal.returns-clause-under
returns-clause-under c =
    let s = c.args.self.now in
    under_read (IsFlowFor s.graph (under s.graph s.seen)) s c.args.atom c.place_of-at.result (place c) (found c)
    (flow_read s.graph (under s.graph s.seen) (atom_at s.atoms c.place_of-at.result).predicate c.shown_witness-shown.result (under_flow s.surely c.place_of-at.result) (graph c) (shown c)
    (IfSome_then c.shown_witness-shown.result c.shown_witness-shown.ensures.right (λ w right. right (facts_in s) false (subst (IsSide (facts_in s) false) (sym c.surely.ensures.value) (low c).side))))

pub returns-clause-over : goal.returns-clause-over
returns-clause-over c =
    let s = c.args.self.now in
    over_read (IsFlowFor s.graph (over s.graph s.seen)) s c.args.atom c.place_of-at.result (place c) (found c)
    (flow_read s.graph (over s.graph s.seen) (atom_at s.atoms c.place_of-at.result).predicate c.support_witness-support.result (over_flow s.possibly c.place_of-at.result) (graph c) (support c)
    (IfSome_then c.support_witness-support.result c.support_witness-support.ensures.right (λ w right. right (facts_in s) true (subst (IsSide (facts_in s) true) (sym c.possibly.ensures.value) (high c).side))))

pub returns-clause-decided_under : goal.returns-clause-decided_under
returns-clause-decided_under c decided =
    let s = c.args.self.now in
    under_read (IsDecidedBy s.graph (under s.graph s.seen)) s c.args.atom c.place_of-at.result (place c) (found c)
    (under_decided (facts_in s) s.surely (graph c) (atoms c) (low c) decided.surely c.place_of-at.result (held c))

pub returns-clause-decided_over : goal.returns-clause-decided_over
returns-clause-decided_over c decided =
    let s = c.args.self.now in
    over_read (IsDecidedBy s.graph (over s.graph s.seen)) s c.args.atom c.place_of-at.result (place c) (found c)
    (over_decided (facts_in s) s.possibly (graph c) (atoms c) (high c) decided.possibly c.place_of-at.result (held c))

pub returns-clause-value : goal.returns-clause-value
returns-clause-value c =
    let s = c.args.self.now in
    let at = c.place_of-at.result in
    let under-is : c.amount_in.result ≡ carried_at s.graph (under_flow s.surely at) c.args.place =
    amount_read c.shown_witness-shown.result (under_flow s.surely at) c.edge-edge.result.number c.amount_in.result (shown c) c.amount_in.ensures ∙ ap (λ (n : ℕ). amount_at (under_flow s.surely at) n) (number c) in
    let over-is : c.amount_in-2.result ≡ carried_at s.graph (over_flow s.possibly at) c.args.place =
    amount_read c.support_witness-support.result (over_flow s.possibly at) c.edge-edge.result.number c.amount_in-2.result (support c) c.amount_in-2.ensures ∙ ap (λ (n : ℕ). amount_at (over_flow s.possibly at) n) (number c) in
    flows_are s c.args.atom at c.args.place c.amount_in.result c.amount_in-2.result (place c) under-is over-is
