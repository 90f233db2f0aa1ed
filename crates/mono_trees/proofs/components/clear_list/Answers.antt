use Rattle.std.proofs.Common.{[]}
use Rattle.mono_trees.proofs.LabelLists.{lists_of-set}
use Rattle.mono_trees.proofs.components.clear_list.Goals as goal

pub returns : goal.returns
returns c = lists_of-set c.args.lists.now c.args.label c.clear.new.self [] c.clear.ensures.items
