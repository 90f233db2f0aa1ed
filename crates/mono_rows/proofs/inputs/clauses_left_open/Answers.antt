use Rattle.std.proofs.Common.{refl}
use Rattle.mono_gnf.specs.Statements.{statement_of}
use Rattle.mono_rows.proofs.inputs.clauses_left_open.Goals as goal

pub returns : goal.returns
unfolding statement_of
returns c = record { behind_another = refl; behind_an_empty_one = refl; behind_three = refl; word_within = refl; none = refl }
