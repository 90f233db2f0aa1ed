use Rattle.std.proofs.Common.{◌∙◌, ◌++◌, ◌∷◌, [], List, sym, ap, arith}
use Rattle.mono_problem.specs.Instance.{graph_at, no_graph}
use Rattle.mono_steps.specs.Checkers.{GraphSize, size_of}
use Rattle.mono_steps.proofs.Placed.{map_more}
use Rattle.mono_steps.proofs.checker.graph_checkers.Goals as goal

pub loop-place-preserved : goal.loop-place-preserved
loop-place-preserved c =
    c.in_ok-push.ensures.items
    ∙ ap (λ (s : GraphSize). c.loop-place.checkers.items ++ s ∷ []) (c.in_ok-new.ensures ∙ ap size_of c.graph.ensures)
    ∙ ap (λ (ss : List GraphSize). ss ++ size_of (graph_at c.args.problem.now c.loop-place.place) ∷ []) c.loop-place.invariant
    ∙ sym (map_more (λ g. size_of g.1) c.args.problem.now.graphs c.loop-place.place no_graph (omega arith))
