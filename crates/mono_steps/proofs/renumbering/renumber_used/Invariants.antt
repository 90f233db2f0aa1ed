use Rattle.std.proofs.Common.{◌≡◌, ℕ, map, take}
use Rattle.mono_steps.specs.Renumbering.{IsTable}
use Rattle.mono_steps.proofs.renumbering.renumber_used.Given as goal

abbrev pub invariant-loop-number : goal.invariant-loop-number
invariant-loop-number l = (f : ℕ → ℕ) → IsTable l.count l.numbers f → l.new.items ≡ map f (take l.number-index l.used)
