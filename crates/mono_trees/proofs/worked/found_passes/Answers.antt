use Rattle.std.proofs.Common.{ℕ, List, ◌∷◌, [], refl, sym, subst, pos}
use Rattle.std.specs.Prelude.{IsTrue}
use Rattle.std.proofs.lemmas.Bool.{both_ways}
use Rattle.mono_graph.specs.Trees.{is_tree, is_split, is_least}
use Rattle.mono_graph.specs.Worked.{pipe, triangle, both, first_alone, all_three}
use Rattle.mono_trees.proofs.worked.found_passes.Goals as goal

pub returns : goal.returns
returns c = record {
  tree = λ edges is. subst (λ (xs : List ℕ). IsTrue (is_tree (triangle 1 2 4) all_three (pos 3) xs)) (sym is) refl;
  too_heavy = λ edges is p. both_ways (is_tree (triangle 1 2 4) all_three (pos 2) (0 ∷ 1 ∷ [])) refl (subst (λ (xs : List ℕ). IsTrue (is_tree (triangle 1 2 4) all_three (pos 2) xs)) is p);
  split = λ nodes is. subst (λ (xs : List ℕ). IsTrue (is_split (pipe 1 1) first_alone xs)) (sym is) refl;
  joined = λ nodes is p. both_ways (is_split (pipe 1 1) both (2 ∷ [])) refl (subst (λ (xs : List ℕ). IsTrue (is_split (pipe 1 1) both xs)) is p);
  least = λ edges is. subst (λ (xs : List ℕ). IsTrue (is_least (triangle 1 2 4) all_three (pos 2) xs)) (sym is) refl;
  not_heavier = λ edges is p. both_ways (is_least (triangle 1 2 4) all_three (pos 3) (0 ∷ 1 ∷ [])) refl (subst (λ (xs : List ℕ). IsTrue (is_least (triangle 1 2 4) all_three (pos 3) xs)) is p);
}
