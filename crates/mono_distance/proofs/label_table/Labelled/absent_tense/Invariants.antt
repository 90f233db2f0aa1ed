use Rattle.std.proofs.Common.{◌≡◌, take}
use Rattle.mono_distance.specs.Labels.{absent_tense}
use Rattle.mono_distance.proofs.label_table.Labelled.absent_tense.Given as goal

abbrev pub invariant-loop-label : goal.invariant-loop-label
invariant-loop-label l = l.edges.items ≡ absent_tense l.self.graph.now l.self.part.now l.self.entries.now l.self.others l.self.limit (take l.label-index l.labels)
