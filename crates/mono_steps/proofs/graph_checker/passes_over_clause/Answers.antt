use Rattle.std.proofs.Common.{◌≡◌, ◌∙◌, Bool, cond, not, subst, ap, IfOk}
use Rattle.mono_base.specs.Literal.{has_lit}
use Rattle.mono_graph.specs.Digraph.{Digraph, edge_at}
use Rattle.mono_problem.specs.Instance.{graph_at}
use Rattle.mono_steps.specs.Switching.{literal_of}
use Rattle.mono_steps.specs.Witnesses.{passes}
use Rattle.mono_steps.proofs.ClauseParts.{clause_passes}
use Rattle.mono_steps.proofs.graph_checker.passes_over_clause.Goals as goal

pub returns-clause-passes : goal.returns-clause-passes
returns-clause-passes c =
    let g = graph_at c.args.problem.now c.args.atom.graph in
    let lits = c.args.lits.now in
    let q = c.args.atom.predicate in
    let w = c.args.witness.now in
    let changed = c.switch_edges.new.part in
    subst (λ (x : Bool). IfOk c.passes-passes.result (λ b. b ≡ x))
    (ap (λ (h : Digraph). passes h changed q w) c.graph-graph.ensures
    ∙ clause_passes g changed lits q w c.args.on_present c.requires.rests c.switch_edges.ensures.part
    (λ k low. c.switch_edges.ensures.places k low ∙ ap (λ (b : Bool). cond (has_lit lits (literal_of (not c.args.on_present) (edge_at g k).var)) c.args.on_present b) (c.requires.reset k low)))
    c.passes-passes.ensures.passes
