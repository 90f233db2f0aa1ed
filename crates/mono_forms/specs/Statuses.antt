-- How a run ends, as the number that the process ends with.
use Rattle.std.specs.Prelude.{ℕ}
use Rattle.mono_forms.specs.declared.status.Status.{Status}
use Rattle.mono_forms.specs.declared.status.Status.TheVariants as status

abbrev pub code_of : Status → ℕ
code_of status.Satisfiable = 10
code_of status.Unsatisfiable = 20
code_of status.Unknown = 0
code_of status.Accepted = 0
code_of status.Printed = 0
code_of status.Rejected = 1
code_of status.Words = 2
code_of status.Refused = 3
code_of status.ReadFault = 4
code_of status.WriteFault = 5
code_of status.Memory = 6
code_of status.TooLong = 7
