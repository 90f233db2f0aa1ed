use Rattle.mono_rows.proofs.PointRows.{all_stay, forced_goes}
use Rattle.mono_rows.proofs.learn.forced_literal_stays.Goals as goal

pub returns-clause-stays : goal.returns-clause-stays
returns-clause-stays c = all_stay

pub returns-clause-goes : goal.returns-clause-goes
returns-clause-goes c = forced_goes
