use Rattle.mono_trail.specs.Luby.{Luby}
use Rattle.mono_rows.proofs.LubyRows.{second, sixth, eighth, sixth_alone}
use Rattle.mono_rows.proofs.trail.first_terms_of_lubys_sequence.Goals as goal

pub returns-clause-first : goal.returns-clause-first
returns-clause-first c = Luby.whole 0

pub returns-clause-second : goal.returns-clause-second
returns-clause-second c = second

pub returns-clause-third : goal.returns-clause-third
returns-clause-third c = Luby.whole 1

pub returns-clause-sixth : goal.returns-clause-sixth
returns-clause-sixth c = sixth

pub returns-clause-seventh : goal.returns-clause-seventh
returns-clause-seventh c = Luby.whole 2

pub returns-clause-eighth : goal.returns-clause-eighth
returns-clause-eighth c = eighth

pub returns-clause-no_other : goal.returns-clause-no_other
returns-clause-no_other c = sixth_alone
