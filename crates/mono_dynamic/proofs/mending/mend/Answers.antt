use Rattle.std.proofs.Common.{ℕ, ◌⊎◌, [], ◌∷◌, get_or, sym, ap, subst, ◌∙◌, arith}
use Rattle.std.specs.Prelude.{IsTrue}
use Rattle.mono_dynamic.specs.Arrivals.{at_source, is_reached}
use Rattle.mono_dynamic.specs.Mending.{AreOut, IsOut}
use Rattle.mono_dynamic.specs.Reached.{Reached}
use Rattle.mono_dynamic.proofs.ComingBack.{mended_all, mended_more, out_alone}
use Rattle.mono_dynamic.proofs.mending.mend.Goals as goal

pub returns-clause-tree : goal.returns-clause-tree
returns-clause-tree c = mended_all c.args.graph.now c.args.part.now c.args.tree.now.source c.args.targets.now c.loop-target.target-index c.loop-target.tree c.loop-target.invariant.mended c.loop-target-test.false

pub loop-target-init : goal.loop-target-init
loop-target-init c = record {
  mended = record { tree = c.regrow.ensures.tree; told = λ j lt. absurd (omega arith) };
  out = subst (λ (r : Reached). AreOut c.args.graph.now c.args.part.now c.args.tree.now.source r.arrivals) (sym c.restart.ensures)
      (subst (λ (u : ℕ). AreOut c.args.graph.now c.args.part.now c.args.tree.now.source (at_source u ∷ [])) (sym (c.source-source.ensures.source ∙ c.regrow.ensures.source)) (out_alone c.args.graph.now c.args.part.now c.args.tree.now.source));
  size = ap (λ (r : Reached). r.nodes) c.restart.ensures;
  nodes = c.regrow.ensures.nodes;
  source = c.regrow.ensures.source;
  stamps = c.regrow.ensures.stamps;
}

pub loop-target-preserved : goal.loop-target-preserved
loop-target-preserved c =
    let grown = c.mend_to.ensures.grown in
    let same = c.loop-target.invariant.source in
    record {
      mended = mended_more c.args.graph.now c.args.part.now c.args.tree.now.source c.args.targets.now c.loop-target.target-index c.loop-target.tree c.mend_to.new.tree c.loop-target.invariant.mended grown
          (subst (λ (u : ℕ). IsTrue (is_reached c.mend_to.new.tree.arrivals (get_or c.args.targets.now c.loop-target.target-index 0)) ⊎ IsOut c.args.graph.now c.args.part.now u (get_or c.args.targets.now c.loop-target.target-index 0)) same c.mend_to.ensures.told);
      out = subst (λ (u : ℕ). AreOut c.args.graph.now c.args.part.now u c.mend_to.new.behind.arrivals) same c.mend_to.ensures.out;
      size = c.mend_to.ensures.nodes ∙ c.loop-target.invariant.size;
      nodes = grown.nodes ∙ c.loop-target.invariant.nodes;
      source = grown.source ∙ same;
      stamps = grown.stamps;
    }
