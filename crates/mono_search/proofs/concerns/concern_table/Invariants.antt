use Rattle.std.proofs.Common.{take}
use Rattle.mono_theory.specs.Owners.{facts_of}
use Rattle.mono_search.specs.TheoryLists.{IsConcernTable}
use Rattle.mono_search.proofs.concerns.concern_table.Given as goal

abbrev pub invariant-loop-place : goal.invariant-loop-place
invariant-loop-place g l =
    let t = g.T.Theory in
    record { table : IsConcernTable l.vars (take l.place (facts_of t.graph t.atoms t.seen l.theories)) l.table }
