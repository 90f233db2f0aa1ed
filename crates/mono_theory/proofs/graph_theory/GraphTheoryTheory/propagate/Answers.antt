use Rattle.mono_theory.specs.Theories.{IsForced}
use Rattle.mono_theory.proofs.ForcedAndExplained.{finding_by}
use Rattle.mono_theory.proofs.graph_theory.GraphTheoryTheory.propagate.Goals as goal

pub returns-in_ok-explain-in-Literal-clause-finding : goal.returns-in_ok-explain-in-Literal-clause-finding
returns-in_ok-explain-in-Literal-clause-finding g c =
    let f = c.args.self.now in
    let forced : IsForced f.graph f.atoms f.seen c.in-Literal.atom c.in-Literal.lit = rw c.in-Literal.is at c.in_ok-force.ensures.answer in
    finding_by f.graph f.atoms f.seen c.in-Literal.atom c.in-Literal.lit c.in_ok-explain-in-Literal.field-0 c.seen-kept.result (rw c.frame.ensures at c.seen-kept.ensures.partial) forced
    (rw c.frame.ensures at c.seen-kept.ensures.count) (rw (c.in_ok-force.ensures.graph, c.in_ok-force.ensures.atoms, c.in_ok-force.ensures.seen) at c.in_ok-explain-in-Literal.ensures.lemma)
