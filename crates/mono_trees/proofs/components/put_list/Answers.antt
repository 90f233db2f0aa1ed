use Rattle.std.proofs.Common.{ap}
use Rattle.mono_trees.proofs.LabelLists.{lists_of-set}
use Rattle.mono_trees.proofs.components.put_list.Goals as goal

pub returns-clause-is : goal.returns-clause-is
returns-clause-is c =
    lists_of-set c.args.lists.now c.args.label c.replace.new.dest _ (ap (λ v. v.items) c.replace.ensures.after)
