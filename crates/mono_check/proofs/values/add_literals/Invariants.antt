use Rattle.std.proofs.Common.{◌≡◌, ◌++◌, take, List, ℤ}
use Rattle.mono_check.specs.Values.{literals_among}
use Rattle.mono_check.specs.Seen.{AreMembers}
use Rattle.mono_check.proofs.values.add_literals.Given as goal

abbrev pub invariant-loop-number : goal.invariant-loop-number
invariant-loop-number l =
    (l.set.vars ≡ l.fn.set.vars) × ((lits : List ℤ) → AreMembers l.problem lits l.fn.set → AreMembers l.problem (lits ++ literals_among (take l.number-index l.numbers)) l.set)
