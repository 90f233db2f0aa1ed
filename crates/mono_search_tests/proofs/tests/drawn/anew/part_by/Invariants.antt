use Rattle.std.proofs.Common.{◌≡◌, length}
use Rattle.mono_search_tests.proofs.tests.drawn.anew.part_by.Given as goal

abbrev pub invariant-loop-place : goal.invariant-loop-place
invariant-loop-place l = length l.part ≡ length l.graph.edges
