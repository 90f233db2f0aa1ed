use Rattle.std.proofs.Common.{◌≡◌, zero, suc, false, true, [], ◌∷◌, refl, ap, arith, Contains}
use Rattle.mono_graph.specs.declared.edge.Edge.{Edge}
use Rattle.mono_graph.specs.Worked.{edge}
use Rattle.mono_graph.proofs.Joins.{contains_first}
use Rattle.mono_rows.proofs.graph.routes.Goals as goal

another : Contains (edge 1 0 1 1 ∷ []) (edge 2 0 1 1) → ⊥
another (zero, lt, at) = let e : 1 ≡ 2 = ap (λ (x : Edge). x.number) at in omega (arith, e)
another (suc k, lt, at) = omega (arith, lt)

pub returns-clause-route : goal.returns-clause-route
returns-clause-route c = record { edges = (contains_first (edge 1 0 1 1) [], tt); way = refl }

pub returns-clause-other_edge : goal.returns-clause-other_edge
returns-clause-other_edge c = λ route. another route.edges.0

pub returns-clause-not_there : goal.returns-clause-not_there
returns-clause-not_there c = λ route. let e : false ≡ true = route.way in cc
