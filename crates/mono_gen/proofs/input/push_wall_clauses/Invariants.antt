use Rattle.std.proofs.Common.{◌≡◌, ◌++◌}
use Rattle.mono_gen.specs.Joined.{joined}
use Rattle.mono_gen.specs.Generated.{wall_clause}
use Rattle.mono_gen.proofs.input.push_wall_clauses.Given as goal

abbrev pub invariant-loop-place : goal.invariant-loop-place
invariant-loop-place l = l.out.items ≡ l.initial.out.items ++ joined (wall_clause l.size l.column l.edges) l.place
