use Rattle.std.proofs.Common.{refl}
use Rattle.std.proofs.lemmas.List.{get_or_default}
use Rattle.mono_trees.proofs.Relabelled.{join_lent, join_known}
use Rattle.mono_trees.proofs.components.join_labels.Goals as goal

pub returns-then-first-second-clause-tells : goal.returns-then-first-second-clause-tells
returns-then-first-second-clause-tells c = λ es e.
    join_known es e c.args.u c.args.v c.args.labels.now c.args.labels.now _ _ refl c.requires.u c.requires.v
    (get_or_default c.args.labels.now c.args.u 0 _ c.requires.u) (get_or_default c.args.labels.now c.args.v 0 _ c.requires.v) c.if-first-second.true

pub returns-clause-tells : goal.returns-clause-tells
returns-clause-tells c = λ es e.
    join_lent es e c.args.u c.args.v c.args.labels.now c.args.labels.now _ c.merge.new.labels _ _ c.shorter_first-small.result.0 c.shorter_first-small.result.1 refl refl c.requires.u c.requires.v
    (get_or_default c.args.labels.now c.args.u 0 _ c.requires.u) (get_or_default c.args.labels.now c.args.v 0 _ c.requires.v) c.shorter_first-small.ensures.either c.merge.auto.labels c.in_ok-merge.ensures.ok
