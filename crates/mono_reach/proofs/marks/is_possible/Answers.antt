use Rattle.mono_reach.proofs.marks.is_possible.Goals as goal

pub returns-in-Rows-clause-value : goal.returns-in-Rows-clause-value
returns-in-Rows-clause-value c = rw c.in-Rows.is c.is_in_reach.ensures.value

pub returns-in-Rows-clause-decides : goal.returns-in-Rows-clause-decides
returns-in-Rows-clause-decides c = rw c.in-Rows.is c.is_in_reach.ensures.decides

pub returns-in-Searches-clause-value : goal.returns-in-Searches-clause-value
returns-in-Searches-clause-value c = rw c.in-Searches.is c.is_uncut.ensures.value

pub returns-in-Searches-clause-decides : goal.returns-in-Searches-clause-decides
returns-in-Searches-clause-decides c = rw c.in-Searches.is c.is_uncut.ensures.decides
