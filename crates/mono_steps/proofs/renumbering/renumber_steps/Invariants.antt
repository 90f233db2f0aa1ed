use Rattle.std.proofs.Common.{◌≡◌, ℕ, ◌++◌, map, drop}
use Rattle.mono_steps.specs.Renumbering.{pick, with_numbers, steps_with_numbers, IsTable}
use Rattle.mono_steps.proofs.renumbering.renumber_steps.Given as goal

abbrev pub invariant-loop-place : goal.invariant-loop-place
invariant-loop-place l = (f : ℕ → ℕ) → IsTable l.count l.numbers f → l.new.items ++ pick (drop l.place l.flags) (drop l.place (map (with_numbers f) l.steps)) ≡ steps_with_numbers f l.flags l.steps
