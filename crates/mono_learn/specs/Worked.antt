-- A trail that was worked by hand, for rows: 3 is decided and implies 4, 5 is decided and implies 6, 7 is decided and implies
-- 8 with 3 and 4, and 8 and 6 imply 9. The last clause is false.
use Rattle.std.specs.Prelude.{ℤ, pos, List, [], ◌∷◌}
use Rattle.mono_steps.specs.WorkedLemmas.{minus}
use Rattle.mono_trail.specs.declared.reason.Mark.{Mark}
use Rattle.mono_trail.specs.declared.reason.Reason.TheVariants.{Decided, Clause}
use Rattle.mono_trail.specs.TrailView.{TrailView}

abbrev pub worked_clauses : List (List ℤ)
worked_clauses =
    (minus 3 ∷ pos 4 ∷ []) ∷ (minus 5 ∷ pos 6 ∷ []) ∷ (minus 7 ∷ minus 3 ∷ minus 4 ∷ pos 8 ∷ []) ∷ (minus 8 ∷ minus 6 ∷ pos 9 ∷ [])
    ∷ (minus 8 ∷ minus 9 ∷ minus 4 ∷ minus 3 ∷ []) ∷ []

abbrev pub worked_marks : List Mark
worked_marks =
    record { level = 1; reason = Decided } ∷ record { level = 1; reason = Clause 1 }
    ∷ record { level = 2; reason = Decided } ∷ record { level = 2; reason = Clause 2 }
    ∷ record { level = 3; reason = Decided } ∷ record { level = 3; reason = Clause 3 } ∷ record { level = 3; reason = Clause 4 } ∷ []

abbrev pub worked_trail : TrailView
worked_trail = record { vars = 9; lits = pos 3 ∷ pos 4 ∷ pos 5 ∷ pos 6 ∷ pos 7 ∷ pos 8 ∷ pos 9 ∷ []; marks = worked_marks; level = 3; given = 0 }
