-- The surely present edges of the first literals seen.
use Rattle.std.specs.Prelude.{ℕ, Bool, List, take}
use Rattle.mono_problem.specs.Quiet.{under}
use Rattle.mono_theory.specs.Theories.{Facts}

-- the surely present edges of the first m literals
abbrev pub sure_parts : Facts → ℕ → List Bool
sure_parts f m = under f.graph (take m f.seen)
