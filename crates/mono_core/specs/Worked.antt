-- A small problem for the worked rows.
use Rattle.std.specs.Prelude.{pos, [], ◌∷◌}
use Rattle.mono_problem.specs.Instance.{Instance}
use Rattle.mono_steps.specs.Worked.{clauses_over}

-- {1}
abbrev pub one_clause : Instance
one_clause = clauses_over 1 ((pos 1 ∷ []) ∷ [])
