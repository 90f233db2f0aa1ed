use Rattle.std.proofs.Common.{◌≡◌, sym, subst, ◌∙◌}
use Rattle.std.proofs.lemmas.List.{take_all}
use Rattle.std.proofs.lemmas.List.Elements.{All-more}
use Rattle.mono_graph.specs.Digraph.{present}
use Rattle.mono_theory.specs.Sound.{AllHave}
use Rattle.mono_theory.proofs.KeptEvidenceDecides.{not_unlike}
use Rattle.mono_theory.proofs.kept_evidence.have.Goals as goal

pub loop-edge-preserved : goal.loop-edge-preserved
loop-edge-preserved c = All-more (λ k. present c.args.part.now k ≡ c.args.value) c.args.edges.now c.loop-edge.edge-index 0 c.loop-edge-test.true c.loop-edge.invariant (sym c.has.ensures ∙ not_unlike c.has.result c.args.value c.if-has-value.false)

pub returns : goal.returns
returns c = λ _. subst (AllHave c.args.part.now c.args.value) (take_all c.loop-edge.edge-index c.args.edges.now c.loop-edge-test.false) c.loop-edge.invariant
