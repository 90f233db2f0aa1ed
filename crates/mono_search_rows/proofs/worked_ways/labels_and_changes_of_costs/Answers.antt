use Rattle.std.proofs.Common.{◌≡◌, ◌≤◌, arith}
use Rattle.mono_dynamic.specs.Costs.{no_change}
use Rattle.mono_search_rows.proofs.worked_ways.labels_and_changes_of_costs.Goals as goal

pub returns-clause-one_label_more : goal.returns-clause-one_label_more
returns-clause-one_label_more c = λ a. let e : 3 ≡ 2 = a.len in omega (arith, e)

pub returns-clause-a_later_change : goal.returns-clause-a_later_change
returns-clause-a_later_change c = λ a. let late : 2 ≤ 1 = a.latest 1 no_change (omega arith) in omega (arith, late)

pub returns-clause-before_any_change : goal.returns-clause-before_any_change
returns-clause-before_any_change c = λ a. let e : 1 ≡ 0 = a.source.alone 1 (omega arith) (omega arith) in omega (arith, e)
