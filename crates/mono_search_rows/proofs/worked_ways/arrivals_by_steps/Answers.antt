use Rattle.std.proofs.Common.{◌≤◌, arith}
use Rattle.mono_dynamic.specs.Arrivals.{at_source}
use Rattle.mono_search_rows.proofs.worked_ways.arrivals_by_steps.Goals as goal

pub returns-clause-a_later_one : goal.returns-clause-a_later_one
returns-clause-a_later_one c = λ h. let late : 2 ≤ 1 = h.latest 2 (at_source 0) (omega arith) in omega (arith, late)

pub returns-clause-before_any_step : goal.returns-clause-before_any_step
returns-clause-before_any_step c = λ h. let late : 1 ≤ 0 = h.latest 1 (at_source 0) (omega arith) in omega (arith, late)
