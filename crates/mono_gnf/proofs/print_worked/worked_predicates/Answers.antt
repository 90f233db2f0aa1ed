use Rattle.std.proofs.Common.{refl}
use Rattle.std.specs.Fmt.{digits}
use Rattle.mono_gnf.specs.Statements.{statement_of}
use Rattle.mono_gnf.proofs.print_worked.worked_predicates.Goals as goal

pub returns : goal.returns
unfolding statement_of digits
returns c = record { one_less = (_, (refl, refl), refl); never = (_, (refl, refl), refl); one_more = (_, (refl, refl), refl); beyond = (_, (refl, refl), refl); largest = (_, (refl, refl), refl); light = (_, (refl, refl), refl); trees = (_, (refl, refl), refl); acyclic = (_, (refl, refl), refl) }
