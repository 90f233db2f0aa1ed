-- Rows of a problem of two graphs.
use Rattle.std.proofs.Common.{[], ◌∷◌, refl}
use Rattle.std.specs.Prelude.{false}
use Rattle.std.proofs.lemmas.Bool.{and_parts}
use Rattle.mono_graph.specs.Walks.{is_walk, is_light}
use Rattle.mono_graph.specs.declared.limit.Limit.TheVariants as limit
use Rattle.mono_graph.specs.Worked.{edge_of, single}
use Rattle.mono_graph.proofs.CutsBoundWalks.{cut_excludes}
use Rattle.mono_problem.specs.declared.atom.Predicate.TheVariants as kind
use Rattle.mono_problem.specs.Holds.{Holds}

-- no walk leads over an edge that is absent
pub edge_is_absent : Holds (single (edge_of 3 0 1 4 7)) (false ∷ []) (kind.Reach 0 1) → ⊥
edge_is_absent h = cut_excludes (single (edge_of 3 0 1 4 7)) (false ∷ []) 0 1 (0 ∷ []) h.0 refl (and_parts (is_walk (single (edge_of 3 0 1 4 7)) (false ∷ []) 0 1 h.0) (is_light limit.Free (single (edge_of 3 0 1 4 7)) h.0) h.1).0
