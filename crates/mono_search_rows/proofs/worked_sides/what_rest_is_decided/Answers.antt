use Rattle.std.proofs.Common.{ℕ, zero, suc, ◌<◌, true, [], ◌∷◌, refl, arith}
use Rattle.mono_graph.specs.Worked.{both, parallel}
use Rattle.mono_theory.specs.Evidences.{Decides, shown_by}
use Rattle.mono_theory.specs.Supports.{atom_at}
use Rattle.mono_theory.specs.Worked.{reaches}
use Rattle.mono_search_rows.proofs.NoWalks.{no_walk, none_owed}
use Rattle.mono_search_rows.proofs.worked_sides.what_rest_is_decided.Goals as goal

pub returns-clause-no_walk : goal.returns-clause-no_walk
returns-clause-no_walk c = record { each = λ a lt none. none_owed a lt }

pub returns-clause-walk_unknown : goal.returns-clause-walk_unknown
returns-clause-walk_unknown c = λ h. h.each 0 (omega arith) refl (0 ∷ [], refl)

walk_there : (a : ℕ) → a < 1 → Decides (parallel 1 1) both (atom_at reaches a).predicate (shown_by (atom_at reaches a).predicate true)
walk_there zero lt = (0 ∷ [], refl)
walk_there (suc a) lt = absurd (omega (arith, lt))

pub returns-clause-walk_possible : goal.returns-clause-walk_possible
returns-clause-walk_possible c = record { each = λ a lt none. walk_there a lt }

pub returns-clause-lack_unknown : goal.returns-clause-lack_unknown
returns-clause-lack_unknown c = λ h. no_walk (h.each 0 (omega arith) refl)
