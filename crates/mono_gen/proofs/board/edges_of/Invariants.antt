use Rattle.std.proofs.Common.{◌≡◌}
use Rattle.mono_gen.specs.Joined.{joined}
use Rattle.mono_gen.specs.Board.{edges_of_row}
use Rattle.mono_gen.proofs.board.edges_of.Given as goal

abbrev pub invariant-loop-row : goal.invariant-loop-row
invariant-loop-row l = l.edges.items ≡ joined (λ r. edges_of_row l.size r) l.row
