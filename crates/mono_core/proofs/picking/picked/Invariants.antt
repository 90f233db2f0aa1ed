use Rattle.std.proofs.Common.{◌≡◌, ◌++◌, drop}
use Rattle.mono_steps.specs.Renumbering.{pick}
use Rattle.mono_core.proofs.picking.picked.Given as goal

abbrev pub invariant-loop-place : goal.invariant-loop-place
invariant-loop-place l = l.some.items ++ pick (drop l.place l.flags) (drop l.place l.lits) ≡ pick l.flags l.lits
