use Rattle.std.proofs.Common.{length, refl, ap, subst, ◌∙◌, arith}
use Rattle.mono_graph.specs.declared.limit.Limit.{Limit}
use Rattle.mono_paths.specs.Searches.{IsLabelSearch, source_of}
use Rattle.mono_paths.proofs.Reached.{answer_more}
use Rattle.mono_paths.proofs.asked.which_are_reached.Goals as goal

pub loop-target-init : goal.loop-target-init
loop-target-init c = record {
  len = c.in_ok-begin.ensures.len;
  cap = refl;
  source = c.in_ok-begin.ensures.source;
  search = subst (λ (l : Limit). IsLabelSearch c.args.graph.now c.args.part.now l c.begin.new.self) c.limit.ensures (c.in_ok-begin.ensures.begun c.args.part.now);
  count = ap length c.new-answers.ensures.items;
  each = λ i lt. absurd (omega arith);
}

pub loop-target-preserved : goal.loop-target-preserved
loop-target-preserved c =
    let e = c.in_ok-reached.ensures in
    record {
      len = e.len ∙ c.loop-target.invariant.len;
      cap = e.cap ∙ c.loop-target.invariant.cap;
      source = e.source ∙ c.loop-target.invariant.source;
      search = e.search;
      count = let n = c.loop-target.invariant.count in let len = c.in_ok-push.ensures.len in omega arith;
      each =
          answer_more c.args.graph.now c.args.part.now c.args.measure c.args.from (source_of c.loop-target.search) c.args.targets.now c.loop-target.answers.items c.push.new.self.items c.loop-target.target-index
          _ _ c.in_ok-reached.reached c.loop-target.invariant.source c.loop-target-test.true refl c.loop-target.invariant.count c.in_ok-push.ensures.items c.loop-target.invariant.each e.reached;
    }
