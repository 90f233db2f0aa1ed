use Rattle.std.proofs.Common.{◌≡◌, List, ℤ, Some, None, option_map, sym, ap, ◌∙◌}
use Rattle.mono_answer.specs.declared.item.Item.TheVariants as says
use Rattle.mono_check.specs.StepLines.{reason_of, step_line_fault}
use Rattle.mono_check.proofs.SeenMore.{steps_stay}
use Rattle.mono_check.proofs.step_lines.StepLines.add_step.Goals as goal

pub returns-clause-kept : goal.returns-clause-kept
returns-clause-kept c =
    let p = c.args.problem.now in
    let none : None ≡ step_line_fault p c.args.self.now.earlier.items (Some (says.Step c.args.step)) =
    ap (option_map reason_of) (sym c.in_default.is ∙ c.in_ok-fault.ensures.fault) ∙ ap (λ (cs : List (List ℤ)). step_line_fault p cs (Some (says.Step c.args.step))) c.as_slice.ensures.value in
    steps_stay p (record c.args.self.now { checker = c.fault.new.self }) c.keep.new.self c.args.number c.args.step
    (record { size = c.in_ok-fault.ensures.kept ∙ c.requires.size; known = c.requires.known; few = c.requires.few }) none c.in_ok-keep.ensures
