use Rattle.std.proofs.Common.{[], ◌∷◌, refl, arith}
use Rattle.mono_graph.specs.Worked.{pipe, both, first_alone, last_alone}
use Rattle.mono_dynamic.specs.Arrivals.{at_source, IsTree}
use Rattle.mono_dynamic.specs.Worked.{arrival}
use Rattle.mono_dynamic.proofs.Followed.{tree_push}
use Rattle.mono_dynamic.proofs.Rows.{reached_by_test, tree_alone}
use Rattle.mono_dynamic.proofs.worked.reached_along_a_path.Goals as goal

tree_one : IsTree (pipe 1 1) first_alone 0 (at_source 0 ∷ arrival 1 0 0 1 ∷ [])
tree_one = tree_push (pipe 1 1) first_alone 0 (at_source 0 ∷ []) (arrival 1 0 0 1) (tree_alone (pipe 1 1) first_alone 0) (record { before = omega arith; known = omega arith; present = refl; from = refl; to = refl })

tree_two : IsTree (pipe 1 1) both 0 (at_source 0 ∷ arrival 1 0 0 1 ∷ arrival 2 1 1 1 ∷ [])
tree_two = tree_push (pipe 1 1) both 0 (at_source 0 ∷ arrival 1 0 0 1 ∷ []) (arrival 2 1 1 1)
    (tree_push (pipe 1 1) both 0 (at_source 0 ∷ []) (arrival 1 0 0 1) (tree_alone (pipe 1 1) both 0) (record { before = omega arith; known = omega arith; present = refl; from = refl; to = refl }))
    (record { before = omega arith; known = omega arith; present = refl; from = refl; to = refl })

pub returns-clause-both : goal.returns-clause-both
returns-clause-both c = reached_by_test (pipe 1 1) both 0 (at_source 0 ∷ arrival 1 0 0 1 ∷ arrival 2 1 1 1 ∷ []) tree_two refl

pub returns-clause-first : goal.returns-clause-first
returns-clause-first c = reached_by_test (pipe 1 1) first_alone 0 (at_source 0 ∷ arrival 1 0 0 1 ∷ []) tree_one refl

pub returns-clause-last : goal.returns-clause-last
returns-clause-last c = reached_by_test (pipe 1 1) last_alone 0 (at_source 0 ∷ []) (tree_alone (pipe 1 1) last_alone 0) refl

pub returns-clause-too_few : goal.returns-clause-too_few
returns-clause-too_few c = λ r. (let h = (r.exact 2).1 (0 ∷ 1 ∷ [], refl) in cc)

pub returns-clause-too_many : goal.returns-clause-too_many
returns-clause-too_many c = λ r. (let h = (r.tree.led 2 (omega arith) (omega arith)).present in cc)

pub returns-clause-by_another_edge : goal.returns-clause-by_another_edge
returns-clause-by_another_edge c = λ r. (let h = (r.tree.led 1 (omega arith) (omega arith)).from in omega (arith, h))

pub returns-clause-from_another_arrival : goal.returns-clause-from_another_arrival
returns-clause-from_another_arrival c = λ r. (let h = (r.tree.led 2 (omega arith) (omega arith)).from in omega (arith, h))

pub returns-clause-of_another_source : goal.returns-clause-of_another_source
returns-clause-of_another_source c = λ r. (let h = r.tree.source in omega (arith, h))
