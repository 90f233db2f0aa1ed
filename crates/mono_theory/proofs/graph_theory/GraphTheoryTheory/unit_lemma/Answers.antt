use Rattle.std.proofs.Common.{false}
use Rattle.mono_theory.specs.Threats.{IsThreat}
use Rattle.mono_theory.proofs.graph_theory.GraphTheoryTheory.unit_lemma.Goals as goal

pub unit_lemma_of-requires : goal.unit_lemma_of-requires
unit_lemma_of-requires g c =
    let its : IsThreat c.self.inside.frame false c.in-Some.threat = rw (c.in-Some.is, c.self.invariant.surely.sign) at c.in_ok-threat.ensures.threat in
    its

pub returns-clause-lemma : goal.returns-clause-lemma
returns-clause-lemma g c = rw (← c.self.view_is) c.in_ok-unit.ensures
