-- Problems of clauses alone, for rows that are worked out.
use Rattle.std.specs.Prelude.{ℕ, ℤ, List, [], Option}
use Rattle.mono_problem.specs.Instance.{Instance}
use Rattle.mono_steps.specs.declared.fault.StepFault.{StepFault}
use Rattle.mono_steps.specs.declared.step.Step.TheVariants as step
use Rattle.mono_steps.specs.Steps.{step_fault}

-- the problem of these clauses over the variables 1 to `vars`
abbrev pub clauses_over : ℕ → List (List ℤ) → Instance
clauses_over vars cs = record { vars = vars; graphs = []; atoms = []; clauses = cs }

-- the fault of a chain that is the first step: its clause, and the numbers that it names
abbrev pub fault_of : ℕ → List (List ℤ) → List ℤ → List ℕ → Option StepFault
fault_of vars cs c ns = step_fault (clauses_over vars cs) cs (step.Chain (record { clause = c; used = ns }))
