use Rattle.std.proofs.Common.{◌≡◌, map, take}
use Rattle.mono_bounds.proofs.bounds.vars_of.Given as goal

abbrev pub invariant-loop-place : goal.invariant-loop-place
invariant-loop-place l = l.vars.items ≡ map (λ e. e.var) (take l.place l.graph.edges)
