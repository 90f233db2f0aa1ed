use Rattle.std.proofs.Common.{◌<◌, arith, ◌∙◌, length}
use Rattle.mono_theory.proofs.MoreWatch.{all_watch_more}
use Rattle.mono_theory.proofs.watchers.Watchers.of_supports.Goals as goal

pub watch_support-requires : goal.watch_support-requires
watch_support-requires c =
    let lt : c.loop-atom.atom < length c.args.supports.now = omega (arith, c.loop-atom-test.true, c.count-atom-end.ensures) in
    record { edges = rw (c.loop-atom.invariant.len, c.at.ensures) (c.requires.edges c.loop-atom.atom lt) }

pub loop-atom-preserved : goal.loop-atom-preserved
loop-atom-preserved c =
    let inv = c.loop-atom.invariant in
    let its = c.in_ok-more.ensures in
    record {
      len = its.grown.len ∙ inv.len;
      below = its.below (length c.args.supports.now) (omega (arith, c.loop-atom-test.true, c.count-atom-end.ensures)) inv.below;
      watch = all_watch_more c.loop-atom.lists c.watch_support.new.lists c.args.supports.now c.loop-atom.atom its.grown inv.watch (rw c.at.ensures at its.watched);
    }
