use Rattle.std.proofs.Common.{◌≡◌, ◌<◌, ◌+◌, ℕ, Vec, Bool, false, get_or, sym, ◌∙◌, subst, refl, arith}
use Rattle.std.specs.declared.alloc.Global.{Global}
use Rattle.std.proofs.lemmas.List.{get_or_read}
use Rattle.mono_paths.specs.Stays.{stays_at}
use Rattle.mono_graph.proofs.Seen.{AreSeen, seen_new, seen_again, seen_marked}
use Rattle.mono_paths.proofs.cut.all_stay.Goals as goal
use Rattle.mono_paths.proofs.cut.all_stay.Goals.{then-not-index+else-not-stays, else-not-index}

pub returns-then-not-stays-clause-marked : goal.returns-then-not-stays-clause-marked
returns-then-not-stays-clause-marked c =
    let i : ℕ = c.loop-node.node-index in
    seen_marked (stays_at c.args.inside.now c.args.graph.now c.args.part.now) c.args.graph.now.nodes c.loop-node.seen.items c.args.nodes.now i (get_or c.args.nodes.now i 0) c.loop-node-test.true refl
    (c.requires.nodes i 0 c.loop-node-test.true) c.loop-node.invariant

pub loop-node-preserved : goal.loop-node-preserved
loop-node-preserved c =
    let i : ℕ = c.loop-node.node-index in
    let u : ℕ = get_or c.args.nodes.now i 0 in
    let stays : ℕ → Bool = stays_at c.args.inside.now c.args.graph.now c.args.part.now in
    let within : u < c.args.graph.now.nodes = c.requires.nodes i 0 c.loop-node-test.true in
    let read : c.index.result.now ≡ get_or c.loop-node.seen.items u false = get_or_read c.loop-node.seen.items u c.index.result.now (let len = c.loop-node.invariant.len in omega arith) c.index.ensures false in
    elim c.if-not-index.branch [
      | then-not-index+else-not-stays w ↦
          subst (λ (v : Vec Bool Global). AreSeen stays c.args.graph.now.nodes v.items c.args.nodes.now (i + 1)) (sym w.seen-is)
          (seen_new stays c.args.graph.now.nodes c.loop-node.seen.items c.args.nodes.now i u c.loop-node-test.true refl within (sym w.stays.ensures ∙ w.if-not-stays.false) c.loop-node.invariant)
      | else-not-index w ↦
          subst (λ (v : Vec Bool Global). AreSeen stays c.args.graph.now.nodes v.items c.args.nodes.now (i + 1)) (sym w.seen-is)
          (seen_again stays c.args.graph.now.nodes c.loop-node.seen.items c.args.nodes.now i u c.loop-node-test.true refl (sym read ∙ w.if-not-index.false) c.loop-node.invariant)
    ]
