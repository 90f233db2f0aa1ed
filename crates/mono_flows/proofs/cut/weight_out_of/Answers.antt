use Rattle.std.proofs.Common.{◌≡◌, ◌+◌, ◌<◌, ℕ, Vec, Bool, true, false, get_or, set, sym, ◌∙◌, subst, refl, arith}
use Rattle.std.specs.declared.alloc.Global.{Global}
use Rattle.std.proofs.lemmas.List.{get_or_read}
use Rattle.mono_flows.proofs.CutWeights.{Weighed, weighed_none, weighed_new, weighed_again}
use Rattle.mono_flows.proofs.cut.weight_out_of.Goals as goal
use Rattle.mono_flows.proofs.cut.weight_out_of.Goals.{then-not-index, else-not-index}

pub loop-node-init : goal.loop-node-init
loop-node-init c = weighed_none c.args.network.now.graph.now c.args.network.now.part.now c.args.inside.now c.args.counted.now.items c.args.nodes.now (let len = c.requires.counted in omega arith) c.requires.clear

pub loop-node-preserved : goal.loop-node-preserved
loop-node-preserved c =
    let i : ℕ = c.loop-node.node-index in
    let u : ℕ = get_or c.args.nodes.now i 0 in
    let within : u < c.args.network.now.graph.now.nodes = c.requires.nodes i 0 c.loop-node-test.true in
    let read : c.index.result.now ≡ get_or c.loop-node.counted.items u false = get_or_read c.loop-node.counted.items u c.index.result.now (let len = c.loop-node.invariant.len in omega arith) c.index.ensures false in
    elim c.if-not-index.branch [
      | then-not-index w ↦
          subst (λ (v : Vec Bool Global). Weighed c.args.network.now.graph.now c.args.network.now.part.now c.args.inside.now v.items c.args.nodes.now (i + 1) c.if-not-index.weight) (sym w.counted-is)
          (subst (λ (n : ℕ). Weighed c.args.network.now.graph.now c.args.network.now.part.now c.args.inside.now (set c.loop-node.counted.items u true) c.args.nodes.now (i + 1) n) (sym w.weight-is)
          (weighed_new c.args.network.now.graph.now c.args.network.now.part.now c.args.inside.now c.loop-node.counted.items c.args.nodes.now i c.loop-node.weight w.weight_leaving-weight.result u c.loop-node-test.true refl within (sym read ∙ w.if-not-index.true)
          w.weight_leaving-weight.ensures.exact w.weight_leaving-weight.ensures.bound c.loop-node.invariant))
      | else-not-index w ↦
          subst (λ (v : Vec Bool Global). Weighed c.args.network.now.graph.now c.args.network.now.part.now c.args.inside.now v.items c.args.nodes.now (i + 1) c.if-not-index.weight) (sym w.counted-is)
          (subst (λ (n : ℕ). Weighed c.args.network.now.graph.now c.args.network.now.part.now c.args.inside.now c.loop-node.counted.items c.args.nodes.now (i + 1) n) (sym w.weight-is)
          (weighed_again c.args.network.now.graph.now c.args.network.now.part.now c.args.inside.now c.loop-node.counted.items c.args.nodes.now i c.loop-node.weight u c.loop-node-test.true refl (sym read ∙ w.if-not-index.false) c.loop-node.invariant))
    ]
