use Rattle.std.proofs.Common.{◌≡◌, ap, arith, length, List, pos, refl}
use Rattle.mono_base.specs.Literal.{lit_at}
use Rattle.mono_clauses.specs.Store.{Held, clause_at}
use Rattle.mono_rows.proofs.clauses.clauses_are_added.Goals as goal

pub returns-clause-first : goal.returns-clause-first
returns-clause-first c = record { vars = refl; clauses = refl }

pub returns-clause-second : goal.returns-clause-second
returns-clause-second c = record { vars = refl; clauses = refl }

pub returns-clause-other_number : goal.returns-clause-other_number
returns-clause-other_number c = λ a. let e : 4 ≡ 5 = ap (λ (cs : List Held). (clause_at cs 0).number) a.clauses in omega (arith, e)

pub returns-clause-other_clause : goal.returns-clause-other_clause
returns-clause-other_clause c = λ a. let e : pos 2 ≡ pos 3 = ap (λ (cs : List Held). lit_at (clause_at cs 0).lits 1) a.clauses in cc

pub returns-clause-more_variables : goal.returns-clause-more_variables
returns-clause-more_variables c = λ a. omega (arith, a.vars)

pub returns-clause-first_is_lost : goal.returns-clause-first_is_lost
returns-clause-first_is_lost c = λ a. let e : 1 ≡ 2 = ap (λ (cs : List Held). length cs) a.clauses in omega (arith, e)
