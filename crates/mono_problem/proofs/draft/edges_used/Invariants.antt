use Rattle.std.proofs.Common.{◌≡◌}
use Rattle.mono_problem.specs.Uses.{edges_used}
use Rattle.mono_problem.proofs.draft.edges_used.Given as goal

abbrev pub invariant-loop-place : goal.invariant-loop-place
invariant-loop-place l = l.all.items ≡ edges_used l.graphs.entries l.place
