use Rattle.std.proofs.Common.{◌≤◌, arith, ◌∷◌, []}
use Rattle.std.specs.Prelude.{pos}
use Rattle.std.proofs.lemmas.List.Elements.{All-cons, All-nil}
use Rattle.mono_base.specs.declared.limits.TheConstants.{MAX_VARS}
use Rattle.mono_base.specs.Literal.{IsLitWithin}
use Rattle.mono_steps.specs.WorkedLemmas.{minus}
use Rattle.mono_words.specs.declared.command.TheConstants.{MAX_ROUNDS, MAX_WORKERS}
use Rattle.mono_cmd.proofs.worked_families.worked_ends_of_ranges.Goals as goal

pub returns-clause-least_budget : goal.returns-clause-least_budget
returns-clause-least_budget c = let least : 1 ≤ 1 = omega arith in least

pub returns-clause-least_size : goal.returns-clause-least_size
returns-clause-least_size c = λ k seed solve. let low : 2 ≤ 2 = omega arith in let high : 2 ≤ 100 = omega arith in (low, high)

pub returns-clause-greatest_size : goal.returns-clause-greatest_size
returns-clause-greatest_size c = λ k seed solve. let low : 2 ≤ 100 = omega arith in let high : 100 ≤ 100 = omega arith in (low, high)

pub returns-clause-least_team : goal.returns-clause-least_team
returns-clause-least_team c =
    let low : 1 ≤ 1 = omega arith in
    let workers : 1 ≤ MAX_WORKERS = omega arith in
    let rounds : 1 ≤ MAX_ROUNDS = omega arith in
    ((low, workers), (low, rounds))

pub returns-clause-greatest_team : goal.returns-clause-greatest_team
returns-clause-greatest_team c =
    let some : 1 ≤ 8 = omega arith in
    let workers : 8 ≤ MAX_WORKERS = omega arith in
    let many : 1 ≤ 100 = omega arith in
    let rounds : 100 ≤ MAX_ROUNDS = omega arith in
    ((some, workers), (many, rounds))

pub returns-clause-literals : goal.returns-clause-literals
returns-clause-literals c = All-cons (IsLitWithin MAX_VARS) (pos 1000000) (minus 1 ∷ []) (omega arith, omega arith) (All-cons (IsLitWithin MAX_VARS) (minus 1) [] (omega arith, omega arith) (All-nil (IsLitWithin MAX_VARS)))

pub returns-clause-no_number : goal.returns-clause-no_number
returns-clause-no_number c = tt
