use Rattle.std.proofs.Common.{ℕ, zero, suc, ◌<◌, true, [], ◌∷◌, refl, inr, arith}
use Rattle.mono_graph.specs.Worked.{both, parallel}
use Rattle.mono_theory.specs.Evidences.{Decides, shown_by}
use Rattle.mono_theory.specs.Supports.{atom_at}
use Rattle.mono_theory.specs.Worked.{reaches}
use Rattle.mono_search_rows.proofs.worked_keeping.quiet_with_possible_edges.Goals as goal

walk_there : (a : ℕ) → a < 1 → Decides (parallel 1 1) both (atom_at reaches a).predicate (shown_by (atom_at reaches a).predicate true)
walk_there zero lt = (0 ∷ [], refl)
walk_there (suc a) lt = absurd (omega (arith, lt))

pub returns : goal.returns
returns c = record { walk_possible = record { each = λ a lt. inr (walk_there a lt) } }
