use Rattle.std.proofs.Common.{◌≤◌, ℕ, ℤ, List, All, arith}
use Rattle.std.proofs.lemmas.List.{length-take}
use Rattle.mono_base.specs.Literal.{IsLitWithin}
use Rattle.mono_core.proofs.searching.signs_within.Goals as goal

-- literals of fewer variables are literals of more
wider : (n m : ℕ) (ls : List ℤ) → n ≤ m → All (IsLitWithin n) ls → All (IsLitWithin m) ls
wider n m ls le all = λ k d lt. let one = all k d lt in (one.0, omega (arith, one.1, le))

pub returns : goal.returns
returns c = wider _ c.args.vars c.in_ok-signs.signs.items (omega (arith, length-take c.min-known.result c.args.values.now, c.min-known.ensures)) c.in_ok-signs.ensures.within
