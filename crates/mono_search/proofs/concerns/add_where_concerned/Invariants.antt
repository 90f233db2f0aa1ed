use Rattle.mono_theory.specs.Owners.{fact_of}
use Rattle.mono_search.proofs.AskedConcerns.{IsAskedTo}
use Rattle.mono_search.proofs.concerns.add_where_concerned.Given as goal

abbrev pub invariant-loop-before : goal.invariant-loop-before
invariant-loop-before g l = record { added : IsAskedTo l.before (fact_of g.T.Theory.graph g.T.Theory.atoms g.T.Theory.seen l.theory) l.place l.fn.table l.table }
