use Rattle.mono_theory.proofs.possible_rows.PossibleRowsRows.of_frame.Goals as goal

pub returns : goal.returns
returns g c = rw c.in_ok-atoms.ensures (rw c.as_slice.ensures.value at c.in_ok-rows.ensures)
