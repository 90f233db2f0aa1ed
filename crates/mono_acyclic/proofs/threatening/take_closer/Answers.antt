use Rattle.std.proofs.Common.{subst}
use Rattle.mono_graph.specs.Digraph.{Digraph}
use Rattle.mono_acyclic.specs.Together.{HasSameEdges}
use Rattle.mono_acyclic.proofs.Closers.{ordered_kept}
use Rattle.mono_acyclic.proofs.threatening.take_closer.Goals as goal

pub returns-clause-ordered : goal.returns-clause-ordered
returns-clause-ordered c =
    ordered_kept c.requires (subst (λ (g : Digraph). HasSameEdges g c.args.ordered.now c.take_closing.new.ordered) c.graph-graph.ensures.graph c.take_closing.ensures.same)

pub returns-clause-closing : goal.returns-clause-closing
returns-clause-closing c = rw (c.graph-graph.ensures.graph, c.over.ensures) at c.take_closing.ensures.closing
