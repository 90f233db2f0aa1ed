-- Two small problems for the worked rows, and what a conflict of the first one teaches.
use Rattle.std.specs.Prelude.{ℕ, ℤ, pos, List, [], ◌∷◌}
use Rattle.mono_problem.specs.Instance.{Instance}
use Rattle.mono_steps.specs.Worked.{clauses_over}
use Rattle.mono_steps.specs.WorkedLemmas.{minus}
use Rattle.mono_trail.specs.declared.reason.Reason.TheVariants.{Decided}
use Rattle.mono_trail.specs.TrailView.{TrailView}
use Rattle.mono_learn.specs.declared.learn.Learnt.{Learnt}
use Rattle.mono_rows.specs.SmallTrail.{mark}

-- {1, 2} and {-2}
abbrev pub denied : Instance
denied = clauses_over 2 ((pos 1 ∷ pos 2 ∷ []) ∷ (minus 2 ∷ []) ∷ [])

-- -1 is decided
abbrev pub one_level : TrailView
one_level = record { vars = 2; lits = minus 1 ∷ []; marks = mark 1 Decided ∷ []; level = 1; given = 1 }

abbrev pub learnt : List ℤ → ℕ → ℕ → Learnt
learnt c back n = record { clause = c; back_to = back; number = n }

-- {1} and {-1}
abbrev pub one_sign : Instance
one_sign = clauses_over 1 ((pos 1 ∷ []) ∷ (minus 1 ∷ []) ∷ [])
