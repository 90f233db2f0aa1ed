use Rattle.std.proofs.Common.{ℕ, List, ◌∷◌, [], refl, sym, subst}
use Rattle.std.specs.Prelude.{IsTrue}
use Rattle.std.proofs.lemmas.Bool.{both_ways}
use Rattle.mono_graph.specs.declared.limit.Limit.TheVariants.{Free}
use Rattle.mono_graph.specs.Walks.{is_path, is_cut}
use Rattle.mono_graph.specs.Worked.{pipe, both, first_alone}
use Rattle.mono_paths.proofs.worked.found_path_passes.Goals as goal

pub returns : goal.returns
returns c = record {
  walk = λ edges is. subst (λ (ks : List ℕ). IsTrue (is_path (pipe 1 1) both 0 2 Free ks)) (sym is) refl;
  no_walk = λ edges is p. both_ways (is_path (pipe 1 1) both 0 2 Free (0 ∷ [])) refl (subst (λ (ks : List ℕ). IsTrue (is_path (pipe 1 1) both 0 2 Free ks)) is p);
  cut = λ nodes is. subst (λ (s : List ℕ). IsTrue (is_cut (pipe 1 1) first_alone 0 2 s)) (sym is) refl;
  no_cut = λ nodes is p. both_ways (is_cut (pipe 1 1) first_alone 0 2 (0 ∷ [])) refl (subst (λ (s : List ℕ). IsTrue (is_cut (pipe 1 1) first_alone 0 2 s)) is p);
}
