use Rattle.std.proofs.Common.{refl}
use Rattle.mono_gnf.specs.Statements.{statement_of}
use Rattle.mono_rows.proofs.inputs.weighted_distances.Goals as goal

pub returns : goal.returns
unfolding statement_of
returns c = record { within = (refl, refl) }
