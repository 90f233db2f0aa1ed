use Rattle.std.proofs.Common.{refl}
use Rattle.std.specs.Fmt.{digits}
use Rattle.mono_gnf.specs.Statements.{statement_of}
use Rattle.mono_gnf.proofs.print_worked.worked_clauses.Goals as goal

pub returns : goal.returns
unfolding statement_of digits
returns c = record { empty = (_, (refl, refl), refl); comment = (_, (refl, refl), refl); repeats = (_, (refl, refl), refl); advice = (_, (refl, refl), refl); signs = (_, (refl, refl), refl) }
