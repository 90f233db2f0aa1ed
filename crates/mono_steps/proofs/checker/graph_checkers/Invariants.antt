use Rattle.std.proofs.Common.{◌≡◌, map, take}
use Rattle.mono_steps.specs.Checkers.{size_of}
use Rattle.mono_steps.proofs.checker.graph_checkers.Given as goal

abbrev pub invariant-loop-place : goal.invariant-loop-place
invariant-loop-place l = l.checkers.items ≡ map (λ g. size_of g.1) (take l.place l.problem.graphs)
