-- What was found decides whether there is a walk.
use Rattle.std.proofs.Common.{◌≢◌, ℕ, List, Bool, refl}
use Rattle.std.specs.Prelude.{IsTrue, ◌↔◌}
use Rattle.std.proofs.lemmas.Bool.{and_parts}
use Rattle.mono_graph.specs.Digraph.{Digraph}
use Rattle.mono_graph.specs.Walks.{is_path, is_walk, is_light}
use Rattle.mono_graph.proofs.CutsBoundWalks.{cut_excludes, labelling_excludes}
use Rattle.mono_paths.specs.declared.find.PathOrCut.{PathOrCut}
use Rattle.mono_paths.specs.declared.find.PathOrCut.TheVariants as any
use Rattle.mono_paths.specs.declared.find.PathOrLabels.{PathOrLabels}
use Rattle.mono_paths.specs.declared.find.PathOrLabels.TheVariants as light
use Rattle.mono_graph.specs.declared.limit.Limit.{Limit}
use Rattle.mono_graph.specs.declared.limit.Limit.TheVariants as limit
use Rattle.mono_paths.specs.Found.{IsPathOrCut, IsPathOrLabels, HasBound, is_path_found, is_light_found}

pub path_decides : (g : Digraph) (P : List Bool) (u v : ℕ) (f : PathOrCut) → IsPathOrCut g P u v f
    → IsTrue (is_path_found f) ↔ ((walk : List ℕ) × IsTrue (is_path g P u v limit.Free walk))
path_decides g P u v (any.Path ks) passes = (λ yes. (ks.items, passes), λ there. refl)
path_decides g P u v (any.Cut s) passes = (λ yes. absurd cc, λ there. absurd (none there.0 there.1))
  where
    none : (walk : List ℕ) → IsTrue (is_path g P u v limit.Free walk) → ⊥
    none walk h = cut_excludes g P u v s.items walk passes (and_parts (is_walk g P u v walk) (is_light limit.Free g walk) h).0

bounded_free : (l : Limit) → HasBound l → l ≢ limit.Free
bounded_free limit.Free b = λ e. b
bounded_free (limit.Steps most) b = λ e. absurd cc
bounded_free (limit.Weight most) b = λ e. absurd cc

pub light_decides : (g : Digraph) (P : List Bool) (u v : ℕ) (l : Limit) (f : PathOrLabels) → HasBound l → IsPathOrLabels g P u v l f
    → IsTrue (is_light_found f) ↔ ((walk : List ℕ) × IsTrue (is_path g P u v l walk))
light_decides g P u v l (light.Path ks) bounded passes = (λ yes. (ks.items, passes), λ there. refl)
light_decides g P u v l (light.Labels ls) bounded passes =
    (λ yes. absurd cc, λ there. absurd (labelling_excludes g P u v l ls.items there.0 (bounded_free l bounded) passes there.1))
