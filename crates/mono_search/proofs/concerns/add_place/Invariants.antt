use Rattle.std.proofs.Common.{take}
use Rattle.mono_search.specs.TheoryLists.{AddsPlace}
use Rattle.mono_search.proofs.concerns.add_place.Given as goal

abbrev pub invariant-loop-var : goal.invariant-loop-var
invariant-loop-var l = record { added : AddsPlace l.vars (take l.var-index l.listed) l.place l.fn.table l.table }
