use Rattle.std.proofs.Common.{take}
use Rattle.std.specs.Prelude.{IsTrue}
use Rattle.std.specs.List.{list_all}
use Rattle.mono_paths.specs.Listed.{label_in, is_calm}
use Rattle.mono_paths.proofs.labelling.are_calm.Given as goal

abbrev pub invariant-loop-place : goal.invariant-loop-place
invariant-loop-place l = IsTrue (list_all (is_calm (label_in l.table) l.limit l.graph l.part) (take l.place-index l.places))
