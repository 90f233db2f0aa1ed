use Rattle.std.proofs.Common.{◌≡◌, ◌++◌, take, filter}
use Rattle.mono_flow.specs.Growing.{is_open}
use Rattle.mono_flow.proofs.growing.push_open.Given as goal

abbrev pub invariant-loop-place : goal.invariant-loop-place
invariant-loop-place l = l.edges.items ≡ l.initial.edges.items ++ filter (is_open l.graph l.part l.marks) (take l.place-index l.places)
