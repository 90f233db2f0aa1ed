use Rattle.std.proofs.Common.{false, map, take}
use Rattle.mono_graph.proofs.Prefixes.{Cleared}
use Rattle.mono_flows.proofs.search.unmark_visits.Given as goal

abbrev pub invariant-loop-visit : goal.invariant-loop-visit
invariant-loop-visit l = Cleared false l.fn.marks.items l.marks.items (map (λ v. v.node) (take l.visit-index l.visits))
