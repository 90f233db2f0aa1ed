-- Terms of Luby's sequence.
use Rattle.std.proofs.Common.{arith}
use Rattle.mono_trail.specs.Luby.{Luby}
use Rattle.mono_trail.proofs.Terms.{one_term}

pub second : Luby 2 1
second = Luby.again 1 2 1 (omega arith) (omega arith) (Luby.whole 0)

pub sixth : Luby 6 2
sixth = Luby.again 2 6 2 (omega arith) (omega arith) (Luby.whole 1)

pub eighth : Luby 8 1
eighth = Luby.again 3 8 1 (omega arith) (omega arith) (Luby.whole 0)

pub sixth_alone : Luby 6 1 → ⊥
sixth_alone h = omega (arith, one_term 6 1 2 h sixth)
