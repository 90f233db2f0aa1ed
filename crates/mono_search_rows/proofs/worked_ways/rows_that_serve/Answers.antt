use Rattle.std.proofs.Common.{◌≡◌, ◌≤◌, arith}
use Rattle.mono_graph.specs.declared.limit.Limit.TheVariants as limit
use Rattle.mono_dynamic.specs.Worked.{walks_from}
use Rattle.mono_search_rows.proofs.worked_ways.rows_that_serve.Goals as goal

pub returns-clause-too_little : goal.returns-clause-too_little
returns-clause-too_little c = λ h.
    let e : 5 ≤ 4 = (h.each 0 (walks_from 0 limit.Free 0) (omega arith)).enough (walks_from 0 limit.Free 0) in
    omega (arith, e)

pub returns-clause-of_another_slot : goal.returns-clause-of_another_slot
returns-clause-of_another_slot c = λ h.
    let e : 4 ≡ 7 = (h.each 0 (walks_from 0 limit.Free 0) (omega arith)).slot_is (walks_from 0 limit.Free 0) in
    omega (arith, e)
