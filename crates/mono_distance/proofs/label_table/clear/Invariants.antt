use Rattle.std.proofs.Common.{map, take}
use Rattle.mono_graph.proofs.Prefixes.{Cleared}
use Rattle.mono_distance.proofs.label_table.clear.Given as goal

abbrev pub invariant-loop-label : goal.invariant-loop-label
invariant-loop-label l = Cleared 0 l.initial.entries.items l.entries.items (map (λ x. x.node) (take l.label-index l.labels))
