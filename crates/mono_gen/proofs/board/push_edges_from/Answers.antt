use Rattle.std.proofs.Common.{arith}
use Rattle.std.proofs.lemmas.Grind.{common_steps}
use Rattle.mono_gen.proofs.board.push_edges_from.Goals as goal

pub returns : goal.returns
returns c = grind (arith, common_steps)
