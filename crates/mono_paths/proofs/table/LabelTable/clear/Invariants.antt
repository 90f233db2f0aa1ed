use Rattle.std.proofs.Common.{◌≡◌, false, take, length}
use Rattle.mono_graph.proofs.Prefixes.{Cleared}
use Rattle.mono_paths.specs.Listed.{nodes_listed}
use Rattle.mono_paths.proofs.table.LabelTable.clear.Given as goal

abbrev pub invariant-loop-label : goal.invariant-loop-label
invariant-loop-label l = record {
  values : length l.self.values.items ≡ length l.fn.self.values.items;
  cleared : Cleared false l.fn.self.listed.items l.self.listed.items (nodes_listed (take l.label-index l.labels));
}
