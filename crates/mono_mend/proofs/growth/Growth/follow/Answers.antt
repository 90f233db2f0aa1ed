use Rattle.std.proofs.Common.{◌<◌, ℕ, sym, subst}
use Rattle.mono_mend.proofs.growth.Growth.follow.Goals as goal
use Rattle.mono_mend.proofs.growth.Growth.follow.Goals.{then-onward, else-onward}

pub returns-in_err-reach-in-Unreached : goal.returns-in_err-reach-in-Unreached
returns-in_err-reach-in-Unreached c =
    let g = c.args.torn.now.graph.now in
    c.reach.ensures g (c.by.ensures g c.requires.place) c.requires.growth

pub returns-in_err-enqueue-in-Unreached : goal.returns-in_err-enqueue-in-Unreached
returns-in_err-enqueue-in-Unreached c =
    let g = c.args.torn.now.graph.now in
    let known : c.if-onward.other < g.nodes = elim c.if-onward.branch [
      | then-onward w ↦ subst (λ (u : ℕ). u < g.nodes) (sym w.other-is) c.edge-edge.ensures.to
      | else-onward w ↦ subst (λ (u : ℕ). u < g.nodes) (sym w.other-is) c.edge-edge.ensures.from
    ] in
    c.enqueue.ensures g known (c.reach.ensures g (c.by.ensures g c.requires.place) c.requires.growth)

pub returns-in-Unreached : goal.returns-in-Unreached
returns-in-Unreached c =
    let g = c.args.torn.now.graph.now in
    let known : c.if-onward.other < g.nodes = elim c.if-onward.branch [
      | then-onward w ↦ subst (λ (u : ℕ). u < g.nodes) (sym w.other-is) c.edge-edge.ensures.to
      | else-onward w ↦ subst (λ (u : ℕ). u < g.nodes) (sym w.other-is) c.edge-edge.ensures.from
    ] in
    c.enqueue.ensures g known (c.reach.ensures g (c.by.ensures g c.requires.place) c.requires.growth)
