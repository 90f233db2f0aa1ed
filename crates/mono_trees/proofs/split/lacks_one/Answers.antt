use Rattle.std.proofs.Common.{length, not, sym, ap, ◌∙◌, arith}
use Rattle.mono_trees.proofs.Splits.{short_lacks, all_marked}
use Rattle.mono_trees.proofs.split.lacks_one.Goals as goal

pub returns-then-nodes-inside : goal.returns-then-nodes-inside
returns-then-nodes-inside c = sym (ap not (short_lacks c.args.nodes.now (length c.args.inside.now) (omega arith)))

pub returns : goal.returns
returns c = ap not (c.are_all_marked.ensures ∙ all_marked c.args.nodes.now c.args.inside.now c.requires.marked)
