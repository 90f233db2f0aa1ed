use Rattle.std.proofs.Common.{◌≡◌, ◌∙◌, ◌<◌, get_or, length, ap, arith}
use Rattle.std.proofs.lemmas.List.{length-map, length-take}
use Rattle.mono_theory.specs.Owners.{fact_of, facts_of}
use Rattle.mono_search.proofs.ConcernTables.{table_more}
use Rattle.mono_search.proofs.Sweeps.{map_at}
use Rattle.mono_search.proofs.concerns.concern_table.Goals as goal

pub loop-place-preserved : goal.loop-place-preserved
loop-place-preserved g c =
    let fact = fact_of g.T.Theory.graph g.T.Theory.atoms g.T.Theory.seen in
    let items = c.args.theories.now in
    let facts = facts_of g.T.Theory.graph g.T.Theory.atoms g.T.Theory.seen items in
    let k = c.loop-place.place in
    let theory = c.index-theories-place.result in
    let at : fact theory ≡ get_or facts k (fact theory) = ap fact c.index-theories-place.is ∙ map_at fact items k theory in
    let lt : k < length facts = omega (arith, c.loop-place-test.true, length-map items fact) in
    record { table = table_more c.args.vars k facts (fact theory) c.loop-place.table c.add_theory.new.table c.loop-place.invariant.table lt at (omega (arith, lt, length-take k facts)) c.in_ok-add_theory.ensures }
