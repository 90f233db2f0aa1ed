use Rattle.mono_rows.proofs.ReasonRows.{not_shown_later, not_shown_fewer, no_atom_forces}
use Rattle.mono_rows.proofs.learn.atoms_were_shown_what_came_before.Goals as goal

pub returns-clause-came_later : goal.returns-clause-came_later
returns-clause-came_later c = not_shown_later

pub returns-clause-fewer : goal.returns-clause-fewer
returns-clause-fewer c = not_shown_fewer

pub returns-clause-no_atom : goal.returns-clause-no_atom
returns-clause-no_atom c = λ shown is f. f.forces

pub returns-clause-no_atom_of_a_reason : goal.returns-clause-no_atom_of_a_reason
returns-clause-no_atom_of_a_reason c = no_atom_forces
