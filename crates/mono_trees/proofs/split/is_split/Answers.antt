use Rattle.std.proofs.Common.{length, sym, ◌∙◌}
use Rattle.std.proofs.lemmas.Bool.{eqb-true}
use Rattle.mono_trees.proofs.Splits.{some_of, split_empty, split_closed}
use Rattle.mono_trees.proofs.split.is_split.Goals as goal

pub returns-then-is_empty-clause-passes : goal.returns-then-is_empty-clause-passes
returns-then-is_empty-clause-passes c =
    split_empty c.args.graph.now c.args.part.now c.args.nodes.now (eqb-true (length c.args.nodes.now) 0 (sym c.is_empty.ensures ∙ c.if-is_empty.true))

pub returns-clause-passes : goal.returns-clause-passes
returns-clause-passes c =
    split_closed c.args.graph.now c.args.part.now c.args.inside.now c.args.nodes.now c.is_closed.result (some_of (length c.args.nodes.now) (sym c.is_empty.ensures ∙ c.if-is_empty.false))
    c.requires.nodes c.requires.inside c.requires.inside_marked (sym c.lacks_one.ensures ∙ c.if-not-lacks_one.false) c.is_closed.ensures.closed
