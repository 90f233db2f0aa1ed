use Rattle.std.proofs.Common.{length, ap, List, arith}
use Rattle.mono_dynamic.specs.declared.cost_source.CostSource.{CostSource}
use Rattle.mono_theory.proofs.AskedRows.{rows_of_asked}
use Rattle.mono_theory.proofs.asked.sources_of.Goals as goal

pub returns-clause-few : goal.returns-clause-few
returns-clause-few g c =
    let few = c.in_ok-sources.ensures.few in
    let len = c.in_ok-asked.ensures.asked.len in
    let same = ap (λ (xs : List CostSource). length xs) c.as_slice.ensures.value in
    omega (arith, few, len, same)

pub returns-clause-rows : goal.returns-clause-rows
returns-clause-rows g c = rows_of_asked c.in_ok-asked.ensures.asked (rw c.as_slice.ensures.value at c.in_ok-sources.ensures.rows)
