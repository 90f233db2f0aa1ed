use Rattle.std.proofs.Common.{◌∙◌, List, subst, get_or}
use Rattle.mono_graph.proofs.Membership.{has_get_or}
use Rattle.mono_theory.specs.declared.watch.Watch.{Watch}
use Rattle.mono_theory.specs.Watching.{NoneStandsOn}
use Rattle.mono_theory.proofs.FewerStand.{edges_more, invalidated_more}
use Rattle.mono_theory.proofs.invalidation.invalidate.Goals as goal

pub loop-edge-preserved : goal.loop-edge-preserved
loop-edge-preserved c =
    let inv = c.loop-edge.invariant in
    let i = c.loop-edge.edge-index in
    let edges = c.args.edges.now in
    let step = c.invalidate_at.ensures.fewer edges (has_get_or edges i 0 c.loop-edge-test.true) in
    record {
      count = step.len ∙ inv.count;
      fewer = invalidated_more inv.fewer step;
      none = edges_more c.args.watchers.now edges i c.loop-edge-test.true step
          (subst (λ (ws : List Watch). NoneStandsOn c.args.supports.now c.invalidate_at.new.stages ws (get_or edges i 0)) c.list.ensures c.invalidate_at.ensures.none) inv.none;
    }
