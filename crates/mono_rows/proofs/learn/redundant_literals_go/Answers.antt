use Rattle.std.proofs.Common.{◌≡◌, true, false}
use Rattle.mono_rows.proofs.LearnRows.{redundant_goes, other_stays, redundant_stays}
use Rattle.mono_rows.proofs.learn.redundant_literals_go.Goals as goal

pub returns-clause-exact : goal.returns-clause-exact
returns-clause-exact c = redundant_goes

pub returns-clause-more : goal.returns-clause-more
returns-clause-more c = other_stays

pub returns-clause-fewer : goal.returns-clause-fewer
returns-clause-fewer c = redundant_stays

pub returns-clause-foreign : goal.returns-clause-foreign
returns-clause-foreign c = λ m. let e : false ≡ true = m.part in cc
