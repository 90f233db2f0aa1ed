use Rattle.std.proofs.Common.{◌≡◌, take}
use Rattle.mono_problem.proofs.draft.copied_graphs.Given as goal

abbrev pub invariant-loop-place : goal.invariant-loop-place
invariant-loop-place l = l.copies.entries ≡ take l.place l.graphs.entries
