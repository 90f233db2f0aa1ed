use Rattle.std.proofs.Common.{All, length}
use Rattle.mono_base.specs.Literal.{IsLitWithin}
use Rattle.mono_search.specs.Signs.{AreSigns}
use Rattle.mono_search.proofs.signs.signs_of.Given as goal

abbrev pub invariant-loop-place : goal.invariant-loop-place
invariant-loop-place l = All (IsLitWithin (length l.model)) l.lits.items × AreSigns l.model l.place l.lits.items
