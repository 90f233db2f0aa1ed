use Rattle.std.proofs.Common.{◌≡◌, true, false, refl, arith}
use Rattle.mono_graph.specs.Worked.{last_alone}
use Rattle.mono_search_rows.proofs.worked_ways.rows_that_are_searched.Goals as goal

pub returns-clause-by_an_absent_edge : goal.returns-clause-by_an_absent_edge
returns-clause-by_an_absent_edge c = λ h.
    let told = h.told (λ n. last_alone) refl (record { each = λ i j le lj. record { keeps = λ k p. p } }) in
    let e : false ≡ true = ((told.tree 1 (omega arith) tt).led 1 (omega arith) (omega arith)).present in
    cc
