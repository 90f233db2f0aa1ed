use Rattle.std.proofs.Common.{rules}
use Rattle.mono_trees.proofs.checker.TreeChecker.is_tree.Goals as goal

pub returns-clause-passes : goal.returns-clause-passes
returns-clause-passes c = search rules
