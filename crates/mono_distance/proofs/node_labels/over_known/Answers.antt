use Rattle.mono_distance.proofs.node_labels.over_known.Goals as goal

pub returns-in-Rows-clause-value : goal.returns-in-Rows-clause-value
returns-in-Rows-clause-value c = rw c.in-Rows.is c.over_by_rows.ensures.value

pub returns-in-Rows-clause-decides : goal.returns-in-Rows-clause-decides
returns-in-Rows-clause-decides c = rw c.in-Rows.is c.over_by_rows.ensures.decides

pub returns-in-Searches-clause-value : goal.returns-in-Searches-clause-value
returns-in-Searches-clause-value c = rw c.in-Searches.is c.over_by_searches.ensures.value

pub returns-in-Searches-clause-decides : goal.returns-in-Searches-clause-decides
returns-in-Searches-clause-decides c = rw c.in-Searches.is c.over_by_searches.ensures.decides
