-- The first fault of several checks.
use Rattle.std.specs.Prelude.{Bool, List, Option, find, option_map}
use Rattle.mono_steps.specs.declared.fault.StepFault.{StepFault}

-- the fault of the first check that fails. Each check stands as whether it fails, and its fault
abbrev pub first_failed : List (Bool × StepFault) → Option StepFault
first_failed checks = option_map (λ c. c.1) (find (λ c. c.0) checks)
