use Rattle.std.proofs.Common.{List, ℕ, ap, sym, subst, ◌∙◌}
use Rattle.mono_graph.specs.Digraph.{Digraph}
use Rattle.mono_problem.specs.Read.{no_atom}
use Rattle.mono_theory.specs.declared.evidence.Evidence.{Evidence}
use Rattle.mono_theory.specs.Evidences.{IsEvidence}
use Rattle.mono_theory.specs.Supports.{atom_at}
use Rattle.mono_theory.specs.SureParts.{sure_parts}
use Rattle.mono_acyclic.specs.Cyclic.{cycle_evidence}
use Rattle.mono_acyclic.specs.Orders.{OrderedView}
use Rattle.mono_acyclic.proofs.OrderStays.{edges_in, edges_show}
use Rattle.mono_acyclic.proofs.ordered_edges.OrderedEdgesRowsAcyclic.evidence.Goals as goal

pub returns : goal.returns
returns c =
    let f = c.args.frame.now in
    let q = (atom_at f.atoms c.args.place).predicate in
    let closing = sym (ap (λ (s : OrderedView). s.closing) c.self.view_is) ∙ c.in-Some.is in
    let shows = edges_show f c.args.looked c.args.kept c.args.self.now c.in-Some.closing q c.graph.ensures.known closing c.if-closing-kept.false (c.requires.covered.each c.args.place no_atom c.requires.place) (edges_in f c.args.looked c.requires.looked c.requires.right) in
    let is = c.in_ok-evidence.ensures ∙ ap (λ (g : Digraph). cycle_evidence g c.in_ok-cycle.cycle.items) c.graph.ensures.graph ∙ ap (λ (ks : List ℕ). cycle_evidence f.graph ks) (c.in_ok-cycle.ensures.items ∙ c.as_slice.ensures.value) in
    subst (λ (e : Evidence). IsEvidence f.graph (sure_parts f c.args.kept) q e) (sym is) shows
