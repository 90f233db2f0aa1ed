use Rattle.mono_acyclic.proofs.Together.{same_edges, same_edges_on}
use Rattle.mono_acyclic.proofs.threatening.take_closing.Goals as goal

pub loop-left-init : goal.loop-left-init
loop-left-init c = same_edges c.args.graph.now c.args.ordered.now

pub returns-then-closes-clause-same : goal.returns-then-closes-clause-same
returns-then-closes-clause-same c = same_edges_on c.loop-left.invariant c.closes.ensures.same

pub loop-left-preserved : goal.loop-left-preserved
loop-left-preserved c = same_edges_on c.loop-left.invariant c.closes.ensures.same
