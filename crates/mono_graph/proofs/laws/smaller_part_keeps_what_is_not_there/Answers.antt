use Rattle.mono_graph.proofs.Subparts.{is_cut-smaller, is_labelling-smaller, is_flow_cut-smaller, is_split-smaller, is_least-smaller}
use Rattle.mono_graph.proofs.laws.smaller_part_keeps_what_is_not_there.Goals as goal

pub returns-clause-cut : goal.returns-clause-cut
returns-clause-cut c = is_cut-smaller

pub returns-clause-labelling : goal.returns-clause-labelling
returns-clause-labelling c = is_labelling-smaller

pub returns-clause-flow_cut : goal.returns-clause-flow_cut
returns-clause-flow_cut c = is_flow_cut-smaller

pub returns-clause-split : goal.returns-clause-split
returns-clause-split c = is_split-smaller

pub returns-clause-least : goal.returns-clause-least
returns-clause-least c = is_least-smaller
