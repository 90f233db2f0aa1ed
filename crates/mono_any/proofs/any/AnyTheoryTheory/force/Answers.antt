use Rattle.mono_any.proofs.any.AnyTheoryTheory.force.Goals as goal

pub returns-in-Reach-clause-answer : goal.returns-in-Reach-clause-answer
returns-in-Reach-clause-answer c = rw c.in-Reach.is c.force.ensures.answer

pub returns-in-Distance-clause-answer : goal.returns-in-Distance-clause-answer
returns-in-Distance-clause-answer c = rw c.in-Distance.is c.force-in-Distance.ensures.answer

pub returns-in-Flow-clause-answer : goal.returns-in-Flow-clause-answer
returns-in-Flow-clause-answer c = rw c.in-Flow.is c.force-in-Flow.ensures.answer

pub returns-in-Tree-clause-answer : goal.returns-in-Tree-clause-answer
returns-in-Tree-clause-answer c = rw c.in-Tree.is c.force-in-Tree.ensures.answer

pub returns-in-Acyclic-clause-answer : goal.returns-in-Acyclic-clause-answer
returns-in-Acyclic-clause-answer c = rw c.in-Acyclic.is c.force-in-Acyclic.ensures.answer
