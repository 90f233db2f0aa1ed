use Rattle.mono_any.proofs.any.AnyTheoryTheory.propagate.Goals as goal

pub returns-in-Reach-clause-finding : goal.returns-in-Reach-clause-finding
returns-in-Reach-clause-finding c = rw c.in-Reach.is c.propagate.ensures.finding

pub returns-in-Distance-clause-finding : goal.returns-in-Distance-clause-finding
returns-in-Distance-clause-finding c = rw c.in-Distance.is c.propagate-in-Distance.ensures.finding

pub returns-in-Flow-clause-finding : goal.returns-in-Flow-clause-finding
returns-in-Flow-clause-finding c = rw c.in-Flow.is c.propagate-in-Flow.ensures.finding

pub returns-in-Tree-clause-finding : goal.returns-in-Tree-clause-finding
returns-in-Tree-clause-finding c = rw c.in-Tree.is c.propagate-in-Tree.ensures.finding

pub returns-in-Acyclic-clause-finding : goal.returns-in-Acyclic-clause-finding
returns-in-Acyclic-clause-finding c = rw c.in-Acyclic.is c.propagate-in-Acyclic.ensures.finding
