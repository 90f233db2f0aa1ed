use Rattle.std.proofs.Common.{◌++◌, ◌∙◌, ap, sym, List}
use Rattle.mono_graph.specs.Digraph.{Digraph}
use Rattle.mono_problem.specs.Uses.{edges_used, graph_uses}
use Rattle.mono_problem.specs.declared.uses.VarUse.{VarUse}
use Rattle.mono_problem.proofs.AllUses.{edges_used-more}
use Rattle.mono_problem.proofs.draft.edges_used.Goals as goal

pub loop-place-preserved : goal.loop-place-preserved
loop-place-preserved c =
    let before = ap (λ (us : List VarUse). us ++ graph_uses c.loop-place.place c.held_at.result.now) c.loop-place.invariant in
    let read = ap (λ (g : Digraph). edges_used c.args.graphs.now.entries c.loop-place.place ++ graph_uses c.loop-place.place g) c.held_at.ensures in
    c.in_ok-push_edges.ensures ∙ (before ∙ (read ∙ sym (edges_used-more c.args.graphs.now.entries c.loop-place.place)))
