-- The lines of a refutation and of progress. `before` are the lines before a line and behind the status line, each beside its number.
use Rattle.std.specs.Prelude.{ℕ, Bool, true, false, ℤ, List, ◌++◌, map, filter_map, Option, Some, None, option_map}
use Rattle.mono_problem.specs.Instance.{Instance}
use Rattle.mono_steps.specs.declared.step.Step.{Step}
use Rattle.mono_steps.specs.declared.step.Step.TheVariants as step
use Rattle.mono_steps.specs.declared.fault.StepFault.{StepFault}
use Rattle.mono_steps.specs.declared.fault.StepFault.TheVariants as fault
use Rattle.mono_steps.specs.Steps.{step_fault, clause_of}
use Rattle.mono_answer.specs.declared.item.Item.{Item}
use Rattle.mono_answer.specs.declared.item.Item.TheVariants as says
use Rattle.mono_check.specs.declared.reason.Reason.{Reason}
use Rattle.mono_check.specs.declared.reason.Reason.TheVariants as reason

abbrev pub reason_of : StepFault → Reason
reason_of fault.UnknownAtom = reason.UnknownAtom
reason_of fault.WrongKind = reason.WrongKind
reason_of fault.UnknownNumber = reason.UnknownNumber
reason_of fault.WitnessFails = reason.WitnessFails
reason_of fault.MissingLiteral = reason.MissingLiteral
reason_of fault.ChainStuck = reason.ChainStuck
reason_of fault.NotCovered = reason.NotCovered

abbrev pub step_in : Option Item → Option Step
step_in (Some (says.Step s)) = Some s
step_in i = None

abbrev pub steps_in : List (ℕ × Option Item) → List Step
steps_in ls = filter_map (λ l. step_in l.1) ls

-- the clauses of the steps
abbrev pub clauses_in : List (ℕ × Option Item) → List (List ℤ)
clauses_in ls = map clause_of (steps_in ls)

-- the step is a chain
abbrev pub is_chain : Step → Bool
is_chain (step.Lemma l) = false
is_chain (step.Chain c) = true

-- the fault of a line behind steps with these clauses
abbrev pub step_line_fault : Instance → List (List ℤ) → Option Item → Option Reason
step_line_fault p earlier (Some (says.Step s)) = option_map reason_of (step_fault p (p.clauses ++ earlier) s)
step_line_fault p earlier i = Some reason.BadLine

abbrev pub steps_line_fault : Instance → List (ℕ × Option Item) → Option Item → Option Reason
steps_line_fault p before i = step_line_fault p (clauses_in before) i
