use Rattle.std.proofs.Common.{ℕ, List, ◌∷◌, [], refl, sym, subst, pos}
use Rattle.std.specs.Prelude.{IsTrue}
use Rattle.std.proofs.lemmas.Bool.{both_ways}
use Rattle.mono_graph.specs.declared.limit.Limit.TheVariants.{Weight}
use Rattle.mono_graph.specs.declared.label.Label.{Label}
use Rattle.mono_graph.specs.Walks.{is_path, is_labelling}
use Rattle.mono_graph.specs.Worked.{label, parallel, both}
use Rattle.mono_paths.proofs.worked.found_light_passes.Goals as goal

pub returns : goal.returns
returns c = record {
  walk = λ edges is. subst (λ (ks : List ℕ). IsTrue (is_path (parallel 1 4) both 0 1 (Weight (pos 4)) ks)) (sym is) refl;
  too_heavy = λ edges is p. both_ways (is_path (parallel 1 4) both 0 1 (Weight (pos 3)) (1 ∷ [])) refl
      (subst (λ (ks : List ℕ). IsTrue (is_path (parallel 1 4) both 0 1 (Weight (pos 3)) ks)) is p);
  labels = λ labels is. subst (λ (ls : List Label). IsTrue (is_labelling (parallel 1 4) both 0 1 (Weight (pos 0)) ls)) (sym is) refl;
  not_above = λ labels is p. both_ways (is_labelling (parallel 1 4) both 0 1 (Weight (pos 1)) (label 0 0 ∷ [])) refl
      (subst (λ (ls : List Label). IsTrue (is_labelling (parallel 1 4) both 0 1 (Weight (pos 1)) ls)) is p);
}
