use Rattle.std.proofs.Common.{◌++◌, ◌∷◌, [], ◌∙◌, ap, sym, map, append_assoc, List}
use Rattle.std.specs.List.{range_with_len}
use Rattle.mono_problem.specs.Uses.{edge_use}
use Rattle.mono_problem.specs.declared.uses.VarUse.{VarUse}
use Rattle.mono_problem.specs.declared.uses.Use.TheVariants as use_of
use Rattle.mono_graph.specs.declared.edge.Edge.{Edge}
use Rattle.mono_problem.proofs.AllUses.{map_range_more}
use Rattle.mono_problem.proofs.draft.push_edges.Goals as goal

pub loop-edge-preserved : goal.loop-edge-preserved
loop-edge-preserved c =
    let f = edge_use c.args.place c.args.graph.now in
    let read = ap (λ (e : Edge). c.loop-edge.all.items ++ record { var = e.var; at = use_of.Edge c.args.place c.loop-edge.edge } ∷ []) c.edge.ensures.edge in
    let before = ap (λ (us : List VarUse). us ++ edge_use c.args.place c.args.graph.now c.loop-edge.edge ∷ []) c.loop-edge.invariant in
    let joined = append_assoc c.args.all.now.items (map f (range_with_len 0 c.loop-edge.edge)) (f c.loop-edge.edge ∷ []) in
    c.in_ok-push.ensures.items ∙ (read ∙ (before ∙ (joined ∙ ap (λ (us : List VarUse). c.args.all.now.items ++ us) (sym (map_range_more f c.loop-edge.edge)))))
