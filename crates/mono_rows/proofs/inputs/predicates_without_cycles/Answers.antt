use Rattle.std.proofs.Common.{refl}
use Rattle.std.specs.Fmt.{digits}
use Rattle.mono_gnf.specs.Statements.{statement_of}
use Rattle.mono_rows.proofs.inputs.predicates_without_cycles.Goals as goal

pub returns : goal.returns
unfolding statement_of digits
returns c = record { word = refl; no_number = refl; identity_large = refl; within_a_clause = refl; greatest = refl; twice = (_, (refl, refl), refl) }
