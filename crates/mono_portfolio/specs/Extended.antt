-- A problem with clauses of a board of steps behind its own. Clauses are numbered as in an answer: those of the problem from 1,
-- and then those of the board's steps.
use Rattle.std.specs.Prelude.{ℕ, ◌-◌, Bool, true, false, nat_lt, ◌||◌, ℤ, List, [], ◌++◌, length, map, slice_index_or, Option, Some, None}
use Rattle.mono_base.specs.declared.limits.TheConstants.{MAX_CLAUSES, MAX_LITERALS}
use Rattle.mono_problem.specs.Instance.{Instance, numbered, literals_total}
use Rattle.mono_steps.specs.declared.step.Step.{Step}
use Rattle.mono_steps.specs.declared.step.Step.TheVariants as step
use Rattle.mono_steps.specs.Steps.{clauses_after}

-- the clause of a number, from 1
abbrev pub board_clause : Instance → List Step → ℕ → List ℤ
board_clause p board n = slice_index_or (clauses_after p board) (n - 1) []

-- p with the clause of each taken number behind its own, in order
abbrev pub extended : Instance → List Step → List ℕ → Instance
extended p board taken = record p { clauses = p.clauses ++ map (board_clause p board) taken }

-- a chain of the board has the number
abbrev pub is_some_chain : Option Step → Bool
is_some_chain None = false
is_some_chain (Some (step.Lemma l)) = false
is_some_chain (Some (step.Chain c)) = true

abbrev pub has_chain : Instance → List Step → ℕ → Bool
has_chain p board n = is_some_chain (numbered board (n - length p.clauses))

-- the problem has more clauses, or more literals in them, than an input may have
abbrev pub passes_limits : Instance → Bool
passes_limits p = nat_lt MAX_CLAUSES (length p.clauses) || nat_lt MAX_LITERALS (literals_total p)
