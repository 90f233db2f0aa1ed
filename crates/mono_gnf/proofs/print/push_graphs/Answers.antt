use Rattle.std.proofs.Common.{◌++◌, ◌∙◌, ap, List, ℕ, ◌<◌, length, arith}
use Rattle.mono_text.specs.Text.{spaced}
use Rattle.mono_graph.specs.Digraph.{Digraph}
use Rattle.mono_problem.specs.Instance.{no_graph}
use Rattle.mono_gnf.specs.Printed.{graph_line}
use Rattle.mono_gnf.proofs.Printing.{lines-take}
use Rattle.std.specs.Prelude.{slice_index_or}
use Rattle.mono_problem.specs.Instance.{Instance}
use Rattle.mono_gnf.proofs.print.push_graphs.Goals as goal

abbrev graph_entry : Instance → ℕ → ℕ × Digraph
graph_entry p k = slice_index_or p.graphs k no_graph

pub loop-place-preserved : goal.loop-place-preserved
loop-place-preserved c =
    let p = c.args.problem.now in
    let k = c.loop-place.place in
    let named = ap (λ (id : ℕ). c.loop-place.out.items ++ spaced (graph_line (id, c.graph.result.now))) c.graph_id.ensures in
    let read = ap (λ (g : Digraph). c.loop-place.out.items ++ spaced (graph_line ((graph_entry p k).0, g))) c.graph.ensures in
    let before = ap (λ (t : List ℕ). t ++ spaced (graph_line (graph_entry p k))) c.loop-place.invariant in
    let less : k < length p.graphs = omega (arith, c.loop-place-test.true, c.graph_count-place-end.ensures) in
    c.in_ok-push_graph.ensures ∙ (named ∙ (read ∙ (before ∙ lines-take graph_line c.args.out.now.items p.graphs k no_graph less)))
