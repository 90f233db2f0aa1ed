-- What the calls of the reader answer.
use Rattle.std.specs.Prelude.{◌≡◌, [], Result, Ok, Err}
use Rattle.mono_problem.specs.Instance.{Instance}
use Rattle.mono_gnf.specs.declared.fault.GnfFault.{GnfFault}
use Rattle.mono_gnf.specs.declared.refusal.Stop.{Stop}
use Rattle.mono_gnf.specs.declared.refusal.Stop.TheVariants as stop
use Rattle.mono_gnf.specs.declared.refusal.GnfRefusal.{GnfRefusal}
use Rattle.mono_gnf.specs.declared.refusal.GnfRefusal.TheVariants as refusal
use Rattle.mono_gnf.specs.Reading.{Seen, read_lines}

-- a call made the step, or found its fault, unless memory ran out
abbrev pub Moves : Result Seen GnfFault → Seen → Result (Unit {0}) Stop → Type 0
Moves step new (Ok u) = step ≡ Ok new
Moves step new (Err stop.Memory) = Unit {0}
Moves step new (Err (stop.Fault f)) = step ≡ Err f

-- what is made of what was seen, when no line is left
abbrev pub Finishes : Seen → Result Instance GnfRefusal → Type 0
Finishes s (Ok p) = read_lines s [] ≡ Ok p
Finishes s (Err refusal.Memory) = Unit {0}
Finishes s (Err (refusal.At line f)) = read_lines s [] ≡ Err (line, f)
