use Rattle.std.proofs.Common.{◌≡◌, true, false, ap, arith}
use Rattle.mono_dynamic.specs.declared.walk_target.WalkTarget.{WalkTarget}
use Rattle.mono_dynamic.specs.LeastRows.{measure_of}
use Rattle.mono_dynamic.specs.Ways.{no_target}
use Rattle.mono_search_rows.proofs.worked_asked.targets_of_atoms.Goals as goal

pub returns-clause-another_node : goal.returns-clause-another_node
returns-clause-another_node c = λ h. let e : 1 ≡ 2 = ap (λ (t : WalkTarget). t.node) (h.each 0 no_target (omega arith)).is in omega (arith, e)

pub returns-clause-another_limit : goal.returns-clause-another_limit
returns-clause-another_limit c = λ h. let e : 1 ≡ 0 = ap (λ (t : WalkTarget). measure_of t.limit) (h.each 0 no_target (omega arith)).is in omega (arith, e)

pub returns-clause-asking_for_none : goal.returns-clause-asking_for_none
returns-clause-asking_for_none c = λ h. let e : false ≡ true = (h.each 0 no_target (omega arith)).asks in cc
