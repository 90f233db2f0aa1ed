use Rattle.std.proofs.Common.{◌≡◌, ap, arith}
use Rattle.mono_dynamic.specs.declared.walk_target.WalkTarget.{WalkTarget}
use Rattle.mono_dynamic.specs.Ways.{no_target}
use Rattle.mono_search_rows.proofs.worked_keeping.rows_of_the_possible_edges.Goals as goal

pub returns-clause-of_more_nodes : goal.returns-clause-of_more_nodes
returns-clause-of_more_nodes c = λ h. let e : 3 ≡ 2 = h.nodes in omega (arith, e)

pub returns-clause-few : goal.returns-clause-few
returns-clause-few c = λ s f h. h.few

pub returns-clause-of_more_atoms : goal.returns-clause-of_more_atoms
returns-clause-of_more_atoms c = λ h. let e : 2 ≡ 1 = h.row_len in omega (arith, e)

pub returns-clause-another_target : goal.returns-clause-another_target
returns-clause-another_target c = λ h. let e : 0 ≡ 1 = ap (λ (t : WalkTarget). t.node) (h.targets.each 0 no_target (omega arith)).is in omega (arith, e)

pub returns-clause-from_another_node : goal.returns-clause-from_another_node
returns-clause-from_another_node c = λ h. let e : 1 ≡ 0 = (h.own 0 (omega arith)).source in omega (arith, e)

pub returns-clause-of_steps : goal.returns-clause-of_steps
returns-clause-of_steps c = λ h. let e : 2 ≡ 1 = (h.own 0 (omega arith)).target.alike in omega (arith, e)
