use Rattle.std.proofs.Common.{arith}
use Rattle.std.proofs.lemmas.Grind.{common_steps}
use Rattle.mono_acyclic.proofs.ordered_edges.OrderedEdgesRowsAcyclic.undo_to.Goals as goal

pub returns-then-ordered-kept-clause-right : goal.returns-then-ordered-kept-clause-right
returns-then-ordered-kept-clause-right c = grind (arith, common_steps)
