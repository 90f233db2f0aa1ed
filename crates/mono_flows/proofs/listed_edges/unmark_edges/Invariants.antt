use Rattle.std.proofs.Common.{take, false}
use Rattle.mono_flows.specs.Listed.{edges_of}
use Rattle.mono_graph.proofs.Prefixes.{Cleared}
use Rattle.mono_flows.proofs.listed_edges.unmark_edges.Given as goal

abbrev pub invariant-loop-amount : goal.invariant-loop-amount
invariant-loop-amount l = Cleared false l.fn.listed.items l.listed.items (edges_of (take l.amount-index l.amounts))
