use Rattle.std.proofs.Common.{◌≡◌, ◌++◌}
use Rattle.mono_gen.specs.Joined.{joined}
use Rattle.mono_gen.specs.Board.{edges_from}
use Rattle.mono_gen.proofs.board.push_row.Given as goal

abbrev pub invariant-loop-column : goal.invariant-loop-column
invariant-loop-column l = l.edges.items ≡ l.initial.edges.items ++ joined (λ q. edges_from l.size l.row q) l.column
