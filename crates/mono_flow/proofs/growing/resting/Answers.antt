use Rattle.std.proofs.Common.{ℕ, List, ◌++◌, filter, ap, ◌∙◌}
use Rattle.std.specs.Prelude.{flat_map}
use Rattle.mono_graph.specs.Digraph.{leaving}
use Rattle.mono_flow.specs.Growing.{is_open}
use Rattle.mono_flow.proofs.GrownSets.{fresh_open}
use Rattle.mono_flow.proofs.growing.resting.Goals as goal

pub replace_closed-requires-clause-fresh : goal.replace_closed-requires-clause-fresh
replace_closed-requires-clause-fresh c =
    let g = c.args.graph.now in
    let P = c.args.part.now in
    let o = c.args.marks.now in
    fresh_open g P o c.args.nodes.now c.push_leaving.new.edges.items
    (c.in_ok-push_leaving.ensures ∙ ap (λ (ks : List ℕ). ks ++ flat_map (λ u. filter (is_open g P o) (leaving g u)) c.args.nodes.now) c.new-fresh.ensures.items)
