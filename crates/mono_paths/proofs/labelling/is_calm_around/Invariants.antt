use Rattle.std.proofs.Common.{take}
use Rattle.std.specs.Prelude.{IsTrue}
use Rattle.std.specs.List.{list_all}
use Rattle.mono_paths.specs.Listed.{label_in, is_calm_around}
use Rattle.mono_paths.proofs.labelling.is_calm_around.Given as goal

abbrev pub invariant-loop-label : goal.invariant-loop-label
invariant-loop-label l = IsTrue (list_all (λ s. is_calm_around (label_in l.table) l.limit l.graph l.part s.node) (take l.label-index l.labels))
