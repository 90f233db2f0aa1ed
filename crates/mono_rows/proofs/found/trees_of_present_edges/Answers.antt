use Rattle.std.proofs.Common.{ℕ, List, [], ◌∷◌, refl, sym, subst}
use Rattle.std.specs.Prelude.{IsTrue}
use Rattle.std.specs.List.{list_all}
use Rattle.std.proofs.lemmas.Bool.{both_ways}
use Rattle.mono_graph.specs.Digraph.{present}
use Rattle.mono_graph.specs.Worked.{first_alone}
use Rattle.mono_rows.proofs.found.trees_of_present_edges.Goals as goal

abbrev ArePresent : List ℕ → Type 0
ArePresent ks = IsTrue (list_all (present first_alone) ks)

pub returns-clause-tree : goal.returns-clause-tree
returns-clause-tree c = λ edges is. subst ArePresent (sym is) refl

pub returns-clause-absent : goal.returns-clause-absent
returns-clause-absent c = λ edges is p. both_ways (list_all (present first_alone) (0 ∷ 1 ∷ [])) refl (subst ArePresent is p)

pub returns-clause-least : goal.returns-clause-least
returns-clause-least c = λ edges is. subst ArePresent (sym is) refl

pub returns-clause-absent_in_least : goal.returns-clause-absent_in_least
returns-clause-absent_in_least c = λ edges is p. both_ways (list_all (present first_alone) (0 ∷ 1 ∷ [])) refl (subst ArePresent is p)
