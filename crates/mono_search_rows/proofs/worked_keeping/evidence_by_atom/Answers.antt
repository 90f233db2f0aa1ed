use Rattle.std.proofs.Common.{ℕ, ◌<◌, zero, suc, [], ◌∷◌, arith}
use Rattle.std.specs.Prelude.{Some, None}
use Rattle.mono_theory.specs.Sound.{evidence_at}
use Rattle.mono_theory.specs.Watching.{WatchesIts}
use Rattle.mono_search_rows.specs.Worked.{along_the_second}
use Rattle.mono_search_rows.proofs.worked_keeping.evidence_by_atom.Goals as goal

first_watches : (a : ℕ) → a < 1 → WatchesIts ([] ∷ [] ∷ []) a (evidence_at (None ∷ Some along_the_second ∷ []) a)
first_watches zero lt = tt
first_watches (suc a) lt = absurd (omega (arith, lt))

pub returns-clause-first_watches : goal.returns-clause-first_watches
returns-clause-first_watches c = record { each = first_watches }
