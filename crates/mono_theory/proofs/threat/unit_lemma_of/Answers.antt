use Rattle.std.proofs.Common.{◌∙◌, ℤ, true, false, refl, sym, ap, subst}
use Rattle.mono_graph.specs.declared.edge.Edge.{Edge}
use Rattle.mono_graph.specs.Digraph.{Digraph, edge_at}
use Rattle.mono_problem.specs.declared.atom.Atom.{Atom}
use Rattle.mono_steps.specs.declared.lemma.Lemma.{Lemma}
use Rattle.mono_steps.specs.Switching.{literal_of}
use Rattle.mono_steps.specs.Witnesses.{is_positive}
use Rattle.mono_theory.specs.Evidences.{lemma_by}
use Rattle.mono_theory.specs.Theories.{IsUnitLemma}
use Rattle.mono_theory.proofs.EvidenceDecides.{by_value, sided_unit}
use Rattle.mono_theory.proofs.ForcedAndExplained.{own_var}
use Rattle.mono_theory.proofs.threat.unit_lemma_of.Goals as goal

pub returns : goal.returns
returns c =
    let f = c.args.frame.now in
    let r = c.args.threat in
    let x : Atom = c.atom_at-owner.result in
    let its = c.atom_at-owner.ensures in
    let e = r.evidence in
    let same = c.graph-graph.ensures.graph in
    let right = rw (← its.atom) at c.requires.right in
    let denied = rw (← its.atom) at c.requires.denied in
    let unit = sided_unit x f.atoms f.seen r.edge (is_positive e.witness) true its.found (own_var f.atoms x.number x its.found) refl (by_value c.requires.rests right) c.requires.used c.requires.is_open denied in
    let lit = c.literal-lit.ensures ∙ ap (λ (d : Edge). literal_of false d.var) c.edge.ensures.edge ∙ ap (λ (g : Digraph). literal_of false (edge_at g r.edge).var) same in
    let lemma = c.in_ok-lemma.ensures ∙ ap (λ (g : Digraph). lemma_by g x e) same in
    subst (λ (m : Lemma). IsUnitLemma f.graph f.atoms f.seen c.literal-lit.result m) (sym lemma)
    (subst (λ (l : ℤ). IsUnitLemma f.graph f.atoms f.seen l (lemma_by f.graph x e)) (sym lit) unit)
