use Rattle.std.proofs.Common.{◌≡◌, ℕ, List, length, get_or, filter, refl, sym, ap, subst, arith}
use Rattle.mono_graph.specs.Digraph.{has, nodes_of}
use Rattle.mono_graph.specs.Worked.{pipe}
use Rattle.mono_rows.proofs.found.splits_in_order.Goals as goal

abbrev AreInOrder : List ℕ → Type 0
AreInOrder s = s ≡ filter (has s) (nodes_of (pipe 1 1))

pub returns-clause-rising : goal.returns-clause-rising
returns-clause-rising c = λ nodes is. subst AreInOrder (sym is) refl

pub returns-clause-falling : goal.returns-clause-falling
returns-clause-falling c = λ nodes is p. let e : 2 ≡ 0 = ap (λ (s : List ℕ). get_or s 0 0) (subst AreInOrder is p) in omega (arith, e)

pub returns-clause-twice : goal.returns-clause-twice
returns-clause-twice c = λ nodes is p. let e : 2 ≡ 1 = ap (λ (s : List ℕ). length s) (subst AreInOrder is p) in omega (arith, e)
