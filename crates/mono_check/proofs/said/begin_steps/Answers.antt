use Rattle.std.proofs.Common.{◌+◌, ℕ, length, [], sym, ap, ◌∙◌}
use Rattle.mono_answer.specs.Versions.{items_by}
use Rattle.mono_check.specs.SoFar.{StepsSoFar, steps_behind, next_number, no_steps}
use Rattle.mono_check.proofs.Behind.{steps_walked}
use Rattle.mono_check.proofs.Versions.{first_number}
use Rattle.mono_check.proofs.said.begin_steps.Goals as goal

pub returns-clause-behind : goal.returns-clause-behind
returns-clause-behind c = λ ls.
    let p = c.args.problem.now in
    let v = c.args.version in
    let none = no_steps c.args.number in
    ap (λ (s : StepsSoFar). steps_behind p c.args.refutes s (items_by v (next_number p s.clauses) ls)) (c.in_ok-new.ensures.none c.args.number)
    ∙ ap (λ (k : ℕ). steps_behind p c.args.refutes none (items_by v k ls)) (first_number p)
    ∙ sym (steps_walked p c.args.refutes c.args.number [] (items_by v (length p.clauses + 1) ls))
