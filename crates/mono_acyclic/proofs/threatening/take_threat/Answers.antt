use Rattle.std.proofs.Common.{◌<◌, ℕ, List, All, false, length, ap, sym, subst, ◌∙◌}
use Rattle.mono_graph.specs.Digraph.{Digraph}
use Rattle.mono_theory.specs.declared.evidence.Evidence.{Evidence}
use Rattle.mono_theory.specs.Threats.{IsThreat}
use Rattle.mono_acyclic.specs.Cyclic.{cycle_evidence}
use Rattle.mono_acyclic.proofs.Closers.{closing_places, closing_threat}
use Rattle.mono_acyclic.proofs.threatening.take_threat.Goals as goal

pub cycle_evidence-requires : goal.cycle_evidence-requires
cycle_evidence-requires c =
    let f = c.args.frame.now in
    let known = closing_places f c.take_closer.new.ordered c.in-Some.edge c.take_closer.ensures.ordered c.in-Some.ensures.closing in
    subst (λ (g : Digraph). All (λ k. k < length g.edges) c.in_ok-cycle.cycle.items) (sym c.graph-graph.ensures.graph)
    (subst (λ (ks : List ℕ). All (λ k. k < length f.graph.edges) ks) (sym (c.in_ok-cycle.ensures.items ∙ c.cycle.ensures)) known)

pub returns-clause-threat : goal.returns-clause-threat
returns-clause-threat c =
    let f = c.args.frame.now in
    let edge = c.in-Some.edge in
    let its = closing_threat f c.take_closer.new.ordered edge c.args.atom c.graph-graph.ensures.known c.requires.covered c.requires.atom c.requires.holds c.take_closer.ensures.ordered c.in-Some.ensures.closing in
    let is = c.in_ok-evidence.ensures ∙ ap (λ (g : Digraph). cycle_evidence g c.in_ok-cycle.cycle.items) c.graph-graph.ensures.graph ∙ ap (λ (ks : List ℕ). cycle_evidence f.graph ks) (c.in_ok-cycle.ensures.items ∙ c.cycle.ensures) in
    subst (λ (e : Evidence). IsThreat f false (record { atom = c.args.atom; edge = edge; evidence = e })) (sym is) its
