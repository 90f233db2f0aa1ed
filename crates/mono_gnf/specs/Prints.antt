-- What is printed of what was read.
use Rattle.std.specs.Prelude.{◌≡◌, ℕ, List}
use Rattle.mono_problem.specs.Instance.{Instance}
use Rattle.mono_gnf.specs.Stands.{Stands}
use Rattle.mono_gnf.specs.Printed.{printed}

-- the text stands for a problem, and `out` is that problem's printed form
abbrev pub Prints : List ℕ → List ℕ → Type 0
Prints text out = (p : Instance) × Stands text p × (printed p ≡ out)
