use Rattle.mono_theory.specs.Owners.{facts_of}
use Rattle.mono_search.proofs.Owners.{can_explain}
use Rattle.mono_search.proofs.HandedOn.{explained_ok}
use Rattle.mono_search.proofs.KnownOwners.{forcing_is_there}
use Rattle.mono_search.proofs.theories.TheoriesExplainer.explain.Goals as goal

pub explain_by_owner-requires-clause-once : goal.explain_by_owner-requires-clause-once
explain_by_owner-requires-clause-once g c =
    let forces = rw (← c.self.view_is) at c.requires.forces in
    let there = forcing_is_there c.self.inside.problem.now c.args.atom c.args.lit _ forces in
    c.self.invariant.owns.once c.args.atom there.0 there.1

pub explain_by_owner-requires-clause-can : goal.explain_by_owner-requires-clause-can
explain_by_owner-requires-clause-can g c =
    let within = rw (← c.self.view_is) at c.requires.within in
    let forces = rw (← c.self.view_is) at c.requires.forces in
    can_explain c.self.inside.problem.now _ c.args.atom c.args.kept c.args.lit c.self.invariant.owns within forces

pub returns-clause-lemma : goal.returns-clause-lemma
returns-clause-lemma g c =
    let t = g.T.Theory in
    let forces = rw (← c.self.view_is) at c.requires.forces in
    rw (← c.self.view_is) (explained_ok c.explain_by_owner.result c.self.inside.problem.now (facts_of t.graph t.atoms t.seen c.self.inside.theories.items) c.args.atom c.args.kept c.args.lit c.known.ensures.problem c.self.invariant.owns forces c.explain_by_owner.ensures.lemma)
