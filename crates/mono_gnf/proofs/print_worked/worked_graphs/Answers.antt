use Rattle.std.proofs.Common.{refl}
use Rattle.std.specs.Fmt.{digits}
use Rattle.mono_gnf.specs.Statements.{statement_of}
use Rattle.mono_gnf.proofs.print_worked.worked_graphs.Goals as goal

pub returns : goal.returns
unfolding statement_of digits
returns c = record { weights = (_, (refl, refl), refl); heavy = (_, (refl, refl), refl); interleaved = (_, (refl, refl), refl) }
