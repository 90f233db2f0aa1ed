use Rattle.std.proofs.Common.{◌||◌, Bool, length, ap, ◌∙◌, arith}
use Rattle.std.specs.Prelude.{nat_lt}
use Rattle.std.proofs.lemmas.Bool.{or_from, le-ltb, lt-ltb}
use Rattle.mono_base.specs.declared.limits.TheConstants.{MAX_CLAUSES, MAX_LITERALS}
use Rattle.mono_problem.specs.Instance.{literals_total}
use Rattle.mono_portfolio.proofs.worked.problems_beyond_the_limits.Goals as goal

pub returns-clause-just : goal.returns-clause-just
returns-clause-just c = λ p a b.
    or_from (nat_lt MAX_CLAUSES (length p.clauses)) (nat_lt MAX_LITERALS (literals_total p)) (le-ltb MAX_CLAUSES (length p.clauses) (omega (arith, a))) (le-ltb MAX_LITERALS (literals_total p) (omega (arith, b)))

pub returns-clause-clauses : goal.returns-clause-clauses
returns-clause-clauses c = λ p a. ap (λ (x : Bool). x || nat_lt MAX_LITERALS (literals_total p)) (lt-ltb MAX_CLAUSES (length p.clauses) (omega (arith, a)))

pub returns-clause-literals : goal.returns-clause-literals
returns-clause-literals c = λ p a b.
    ap (λ (x : Bool). x || nat_lt MAX_LITERALS (literals_total p)) (le-ltb MAX_CLAUSES (length p.clauses) (omega (arith, a))) ∙ lt-ltb MAX_LITERALS (literals_total p) (omega (arith, b))
