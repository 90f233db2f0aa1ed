use Rattle.std.proofs.Common.{◌∙◌, ◌∷◌, []}
use Rattle.mono_graph.proofs.Membership.{has_here}
use Rattle.mono_theory.specs.Watching.{watch_by}
use Rattle.mono_theory.proofs.FewerStand.{invalidated_more, none_more}
use Rattle.mono_theory.proofs.invalidation.invalidate_at.Goals as goal

pub loop-watch-preserved : goal.loop-watch-preserved
loop-watch-preserved c =
    let inv = c.loop-watch.invariant in
    let its = c.invalidate_one.ensures in
    let here = its.fewer (c.args.edge ∷ []) (has_here c.args.edge []) in
    record {
      count = here.len ∙ inv.count;
      fewer = λ ks among. invalidated_more (inv.fewer ks among) (its.fewer ks among);
      none = none_more c.args.watches.now c.loop-watch.watch-index (watch_by 0 0) c.loop-watch-test.true here its.gone inv.none;
    }
