use Rattle.std.proofs.Common.{◌++◌, ◌∙◌, ap, List, ℕ, ◌+◌, arith}
use Rattle.std.proofs.lemmas.Grind.{common_steps}
use Rattle.mono_text.specs.Text.{spaced}
use Rattle.mono_gnf.specs.Printed.{edge_line, edge_numbered}
use Rattle.mono_gnf.proofs.Printing.{lines-edges}
use Rattle.mono_gnf.proofs.print.push_edges.Goals as goal

pub loop-done-preserved : goal.loop-done-preserved
loop-done-preserved c = record {
  graphs = grind (arith, common_steps, c.in_ok-push_edge_numbered.ensures.graphs, c.loop-done.invariant.graphs, c.as_mut_slice.ensures.len, c.as_mut_slice.ensures.value);
  written = c.in_ok-push_edge_numbered.ensures.line
      ∙ (ap (λ (t : List ℕ). t ++ spaced (edge_line (edge_numbered c.args.problem.now (c.loop-done.done + 1)))) c.loop-done.invariant.written
      ∙ lines-edges c.args.out.now.items c.args.problem.now c.loop-done.done);
}
