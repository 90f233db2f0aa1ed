-- What is kept on a side: rows, or what searches found.
use Rattle.std.specs.Prelude.{◌≡◌, ℕ, Bool, ℤ, min}
use Rattle.mono_problem.specs.declared.atom.Predicate.{Predicate}
use Rattle.mono_theory.specs.Stages.{NoneWaits}
use Rattle.mono_theory.specs.Supports.{IsKeptBy, IsSideFor, gone_back}
use Rattle.mono_theory.specs.Theories.{Facts}
use Rattle.mono_theory.specs.declared.either_side.EitherSide.{EitherSide}
use Rattle.mono_theory.specs.declared.either_side.EitherSide.TheVariants as side
use Rattle.mono_theory.specs.RowSides.{AreRowsFor, AreUpToDate}

-- whether the side is that of the possibly present edges, where its rows would be of this one
abbrev pub is_either_possible : {R : Type 0} → Bool → EitherSide R → Bool
is_either_possible of_rows (side.Rows s) = of_rows
is_either_possible of_rows (side.Searches s) = s.possible

-- what is kept is right
abbrev pub IsEitherRight : {R : Type 0} → (Predicate → Bool) → Bool → Bool → (R → Facts → Type 0) → (R → ℕ → Bool) → Facts → EitherSide R → Type 0
IsEitherRight covers possible thorough are_right shown f (side.Rows s) = AreRowsFor covers possible are_right shown f s
IsEitherRight covers possible thorough are_right shown f (side.Searches s) = IsSideFor f possible thorough s

-- rows stay while literals come, and so does what searches found, but for what it says of the atoms that rest on their edges
abbrev pub IsEitherKept : {R : Type 0} → Facts → ℤ → EitherSide R → EitherSide R → Type 0
IsEitherKept f l (side.Rows s) (side.Rows r) = r ≡ s
IsEitherKept f l (side.Searches s) (side.Searches r) = IsKeptBy f.graph s.possible l s r
IsEitherKept f l s r = ⊥

-- rows go back to those of the first `kept` literals and no further, and what searches found to what it was
abbrev pub IsEitherBack : {R : Type 0} → ℕ → EitherSide R → EitherSide R → Type 0
IsEitherBack kept (side.Rows s) (side.Rows r) = r.looked ≡ min s.looked kept
IsEitherBack kept (side.Searches s) (side.Searches r) = r ≡ gone_back kept s
IsEitherBack kept s r = ⊥

-- what is kept shows of each atom whether its predicate holds
abbrev pub IsEitherDecided : {R : Type 0} → (R → Facts → Type 0) → Facts → EitherSide R → Type 0
IsEitherDecided stand f (side.Rows s) = AreUpToDate stand f s
IsEitherDecided stand f (side.Searches s) = NoneWaits s.stages
