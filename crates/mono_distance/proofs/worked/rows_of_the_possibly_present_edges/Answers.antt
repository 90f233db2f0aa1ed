use Rattle.std.proofs.Common.{◌∷◌, [], refl, arith}
use Rattle.mono_distance.specs.Worked.{to_node_1}
use Rattle.mono_distance.proofs.WorkedRows.{found_rows, unsearched_rows}
use Rattle.mono_distance.proofs.worked.rows_of_the_possibly_present_edges.Goals as goal

pub returns-clause-unsearched : goal.returns-clause-unsearched
returns-clause-unsearched c = unsearched_rows

pub returns-clause-found : goal.returns-clause-found
returns-clause-found c = found_rows

pub returns-clause-not_asked : goal.returns-clause-not_asked
returns-clause-not_asked c = λ h. let asked = h.asked.each 0 (omega arith) in let lt = asked.1 in omega (arith, lt)

pub returns-clause-from_another_node : goal.returns-clause-from_another_node
returns-clause-from_another_node c = λ h. let e = (h.own 0 (omega arith)).source in omega (arith, e)

pub returns-clause-of_steps : goal.returns-clause-of_steps
returns-clause-of_steps c = λ h. let e = (h.own 0 (omega arith)).target.alike in omega (arith, e)

pub returns-clause-edge_absent : goal.returns-clause-edge_absent
returns-clause-edge_absent c = λ h. let e = (((h.told 1 (omega arith)).tree 1 (omega arith) tt).led 1 (omega arith) (omega arith)).present in cc

pub returns-clause-out_of_reach : goal.returns-clause-out_of_reach
returns-clause-out_of_reach c = λ h. (h.told 1 (omega arith)).lacking 0 to_node_1 (omega arith) refl (0 ∷ []) refl
