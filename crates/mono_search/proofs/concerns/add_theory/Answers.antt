use Rattle.mono_theory.specs.Owners.{fact_of}
use Rattle.mono_search.proofs.ConcernTables.{added_by}
use Rattle.mono_search.proofs.concerns.add_theory.Goals as goal

pub add_place-requires-clause-rising : goal.add_place-requires-clause-rising
add_place-requires-clause-rising g c = c.in-Some.ensures.rising

pub returns : goal.returns
returns g c = added_by c.args.vars c.args.place c.in-Some.listed.now (fact_of g.T.Theory.graph g.T.Theory.atoms g.T.Theory.seen c.args.theory.now) _ _ c.in-Some.ensures c.in_ok-add_place.ensures
