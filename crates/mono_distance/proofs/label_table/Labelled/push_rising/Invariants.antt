use Rattle.std.proofs.Common.{◌≡◌, ◌++◌, take}
use Rattle.mono_distance.specs.Labels.{absent_rising}
use Rattle.mono_distance.proofs.label_table.Labelled.push_rising.Given as goal

abbrev pub invariant-loop-place : goal.invariant-loop-place
invariant-loop-place l = l.edges.items ≡ l.initial.edges.items ++ absent_rising l.self.graph.now l.self.part.now l.self.entries.now l.self.others l.self.limit (take l.place-index l.places)
