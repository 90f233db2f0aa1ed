-- Answers over a pipe of two edges.
use Rattle.std.proofs.Common.{◌<◌, ◌↔◌, ℕ, zero, suc, ℤ, pos, negsuc, Bool, false, List, [], ◌∷◌, get_or, refl, arith}
use Rattle.std.specs.Prelude.{IsTrue}
use Rattle.std.proofs.lemmas.Bool.{and_parts}
use Rattle.mono_graph.specs.Worked.{pipe, both}
use Rattle.mono_graph.specs.Walks.{is_walk, is_light}
use Rattle.mono_graph.specs.declared.limit.Limit.TheVariants as limit
use Rattle.mono_paths.specs.declared.measure.Measure.TheVariants as measure
use Rattle.mono_paths.specs.declared.target.Target.{Target}
use Rattle.mono_paths.specs.Asked.{target_at, HasPath, AreAnswers}

abbrev one : ℤ → List Target
one most = record { node = 1; most = most } ∷ []

pub one_answer : (most : ℤ) (b : Bool) → (IsTrue b ↔ HasPath (pipe 1 1) both 0 1 (limit.Steps most)) → AreAnswers (pipe 1 1) both measure.Steps 0 (one most) (b ∷ [])
one_answer most b h = record { len = refl; each = λ i lt. at i lt }
  where
    at : (i : ℕ) → i < 1 → IsTrue (get_or (b ∷ []) i false) ↔ HasPath (pipe 1 1) both 0 (target_at (one most) i).node (limit.Steps (target_at (one most) i).most)
    at zero lt = h
    at (suc i) lt = absurd (omega arith)

pub over_one : HasPath (pipe 1 1) both 0 1 (limit.Steps (pos 1))
over_one = (0 ∷ [], refl)

pub over_none : HasPath (pipe 1 1) both 0 1 (limit.Steps (negsuc 0)) → ⊥
over_none there = let h = (and_parts (is_walk (pipe 1 1) both 0 1 there.0) (is_light (limit.Steps (negsuc 0)) (pipe 1 1) there.0) there.1).1 in cc
