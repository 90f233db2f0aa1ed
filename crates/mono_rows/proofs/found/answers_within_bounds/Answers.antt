use Rattle.std.proofs.Common.{◌≡◌, ℕ, zero, suc, ◌<◌, Bool, true, false, List, [], ◌∷◌, refl, pos, arith}
use Rattle.std.specs.Prelude.{IsTrue, ◌↔◌, slice_index_or}
use Rattle.std.proofs.lemmas.Bool.{and_parts}
use Rattle.mono_graph.specs.declared.limit.Limit.TheVariants as limit
use Rattle.mono_graph.specs.Walks.{is_light, is_walk}
use Rattle.mono_graph.specs.Worked.{label, pipe, triangle, first_alone}
use Rattle.mono_graph.proofs.CutsBoundWalks.{cut_excludes, labelling_excludes}
use Rattle.mono_paths.specs.Asked.{HasPath, limit_by, target_at}
use Rattle.mono_paths.specs.declared.measure.Measure.TheVariants as measure
use Rattle.mono_paths.specs.declared.target.Target.{Target}
use Rattle.mono_rows.proofs.found.answers_within_bounds.Goals as goal

abbrev one_way : List Bool
one_way = true ∷ true ∷ false ∷ []

abbrev asked : List Target
asked = record { node = 2; most = pos 2 } ∷ record { node = 2; most = pos 1 } ∷ record { node = 0; most = pos 5 } ∷ []

not_within_1 : HasPath (triangle 4 2 1) one_way 1 2 (limit.Weight (pos 1)) → ⊥
not_within_1 there = labelling_excludes (triangle 4 2 1) one_way 1 2 (limit.Weight (pos 1)) (label 1 0 ∷ []) there.0 (λ e. absurd cc) refl there.1

not_back : HasPath (triangle 4 2 1) one_way 1 0 (limit.Weight (pos 5)) → ⊥
not_back there =
    cut_excludes (triangle 4 2 1) one_way 1 0 (1 ∷ 2 ∷ []) there.0 refl (and_parts (is_walk (triangle 4 2 1) one_way 1 0 there.0) (is_light (limit.Weight (pos 5)) (triangle 4 2 1) there.0) there.1).0

each : (i : ℕ) → i < 3 → IsTrue (slice_index_or (true ∷ false ∷ false ∷ []) i false) ↔ HasPath (triangle 4 2 1) one_way 1 (target_at asked i).node (limit_by measure.Weight (target_at asked i).most)
each zero lt = (λ t. (1 ∷ [], refl), λ there. refl)
each (suc zero) lt = (λ t. absurd (let e : false ≡ true = t in cc), λ there. absurd (not_within_1 there))
each (suc (suc zero)) lt = (λ t. absurd (let e : false ≡ true = t in cc), λ there. absurd (not_back there))
each (suc (suc (suc i))) lt = absurd (omega (arith, lt))

pub returns-clause-by_weight : goal.returns-clause-by_weight
returns-clause-by_weight c = record { len = refl; each = each }

pub returns-clause-last_wrong : goal.returns-clause-last_wrong
returns-clause-last_wrong c = λ a. let e : false ≡ true = (a.each 1 (omega arith)).1 (0 ∷ 1 ∷ [], refl) in cc

not_there : HasPath (pipe 1 1) first_alone 0 2 limit.Free → ⊥
not_there there = cut_excludes (pipe 1 1) first_alone 0 2 (0 ∷ 1 ∷ []) there.0 refl (and_parts (is_walk (pipe 1 1) first_alone 0 2 there.0) (is_light limit.Free (pipe 1 1) there.0) there.1).0

pub returns-clause-absent_edge : goal.returns-clause-absent_edge
returns-clause-absent_edge c = λ a. not_there ((a.each 0 (omega arith)).0 refl)
