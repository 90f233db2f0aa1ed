use Rattle.std.proofs.Common.{take, get_or, false}
use Rattle.std.specs.Prelude.{IsTrue}
use Rattle.std.specs.List.{list_all}
use Rattle.mono_paths.specs.Stays.{stays_by}
use Rattle.mono_paths.proofs.cut.stays.Given as goal

abbrev pub invariant-loop-place : goal.invariant-loop-place
invariant-loop-place l = IsTrue (list_all (stays_by (λ u. get_or l.inside u false) l.graph l.part) (take l.place-index l.places))
