use Rattle.std.proofs.Common.{Bool, sym, subst}
use Rattle.std.proofs.lemmas.Option.{IfSome_then}
use Rattle.mono_graph.specs.Digraph.{Digraph}
use Rattle.mono_problem.specs.declared.atom.Predicate.{Predicate}
use Rattle.mono_steps.specs.Witnesses.{rests_on_present}
use Rattle.mono_theory.specs.declared.evidence.Evidence.{Evidence}
use Rattle.mono_theory.specs.Sound.{IsSound}
use Rattle.mono_theory.proofs.looking.evidence_of.Goals as goal

-- evidence is sound on edges of the value on which its witness rests
by_its_own : (g : Digraph) (q : Predicate) (value : Bool) (e : Evidence) → IsSound g q value e → IsSound g q (rests_on_present e.witness) e
by_its_own g q value e h = subst (λ (b : Bool). IsSound g q b e) (sym h.rests) h

pub mend-requires-clause-kept : goal.mend-requires-clause-kept
mend-requires-clause-kept g c = rw (c.graph-graph.ensures.graph, c.atom_at-predicate.ensures.atom)
    (IfSome_then c.support-kept.result c.support-kept.ensures (λ e sound. by_its_own _ _ _ e.now sound))
