use Rattle.std.proofs.Common.{◌≡◌, List, sym, subst, arith, All}
use Rattle.mono_dynamic.specs.declared.change.Change.{Change}
use Rattle.mono_dynamic.specs.Costs.{no_change}
use Rattle.mono_search_rows.proofs.worked_ways.costs_that_fall.Goals as goal

pub returns-clause-with_another_stamp : goal.returns-clause-with_another_stamp
returns-clause-with_another_stamp c = λ h.
    let e : 2 ≡ 3 = subst (λ (cs : List Change). All (λ (d : Change). d.stamp ≡ 3) cs) (sym h.changes) h.stamps 0 no_change (omega arith) in
    omega (arith, e)
