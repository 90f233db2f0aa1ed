use Rattle.mono_theory.proofs.graph_theory.GraphTheoryTheory.explain.Goals as goal

pub returns-clause-lemma : goal.returns-clause-lemma
returns-clause-lemma g c = rw (← c.self.view_is) (c.explanation.ensures.lemma c.args.atom c.place_of-place.ensures.is (rw (← c.self.view_is) at c.requires.forces))
