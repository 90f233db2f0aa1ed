use Rattle.std.proofs.Common.{◌≡◌, true, false}
use Rattle.mono_theory.proofs.WorkedRows.{walk_forces}
use Rattle.mono_theory.proofs.worked.literals_that_are_forced.Goals as goal

pub returns-clause-forced : goal.returns-clause-forced
returns-clause-forced c = walk_forces

pub returns-clause-true_already : goal.returns-clause-true_already
returns-clause-true_already c = λ h. let e : true ≡ false = h.not_yet in cc

pub returns-clause-no_atom : goal.returns-clause-no_atom
returns-clause-no_atom c = λ h. h.forces
