use Rattle.std.proofs.Common.{◌≡◌, ◌+◌, ℕ, false, true, codes, refl, ap, arith}
use Rattle.std.specs.Prelude.{length}
use Rattle.mono_problem.specs.Instance.{Instance}
use Rattle.mono_check.specs.declared.verdict.Verdict.TheVariants as verdict
use Rattle.mono_check.specs.Verdicts.{Outcome, Decided}
use Rattle.mono_rows.proofs.verdicts.fed_checkers.Goals as goal

-- the line that a rejection names, else 0
abbrev line_named : Outcome → ℕ
line_named (Decided (verdict.Rejected n r)) = n
line_named o = 0

pub returns-clause-line_uncounted : goal.returns-clause-line_uncounted
returns-clause-line_uncounted c = λ f. let e : 1 ≡ 2 = ap line_named (f.later (codes "x")) in omega (arith, e)

pub returns-clause-byte_uncounted : goal.returns-clause-byte_uncounted
returns-clause-byte_uncounted c = λ f.
    let one : length (codes "\n") ≡ 1 = refl in
    let e : 0 ≡ 0 + length (codes "\n") = f.fed in
    omega (arith, one, e)

pub returns-clause-other_problem : goal.returns-clause-other_problem
returns-clause-other_problem c = λ f. let e : 2 ≡ 1 = ap (λ (p : Instance). p.vars) f.problem in omega (arith, e)

pub returns-clause-dead : goal.returns-clause-dead
returns-clause-dead c = λ f. let e : false ≡ true = f.live refl in cc
