-- Where no edge is present between two nodes, none of them can be reached from the other.
use Rattle.std.proofs.Common.{ℕ, zero, suc, ◌<◌, true, false, [], ◌∷◌, refl, arith}
use Rattle.std.proofs.lemmas.Bool.{and_parts}
use Rattle.mono_graph.specs.Walks.{is_walk}
use Rattle.mono_graph.specs.Worked.{neither, parallel}
use Rattle.mono_graph.proofs.CutsBoundWalks.{cut_excludes}
use Rattle.mono_problem.specs.declared.atom.Predicate.TheVariants as kind
use Rattle.mono_problem.specs.Holds.{Holds}
use Rattle.mono_theory.specs.Evidences.{Decides, shown_by}
use Rattle.mono_theory.specs.Supports.{atom_at}
use Rattle.mono_theory.specs.Worked.{reaches}

pub no_walk : Holds (parallel 1 1) neither (kind.Reach 0 1) → ⊥
no_walk h = cut_excludes (parallel 1 1) neither 0 1 (0 ∷ []) h.0 refl (and_parts (is_walk (parallel 1 1) neither 0 1 h.0) true h.1).0

pub none_owed : (a : ℕ) → a < 1 → Decides (parallel 1 1) neither (atom_at reaches a).predicate (shown_by (atom_at reaches a).predicate false)
none_owed zero lt = no_walk
none_owed (suc a) lt = absurd (omega (arith, lt))
