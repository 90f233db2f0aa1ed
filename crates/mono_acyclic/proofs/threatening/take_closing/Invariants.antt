use Rattle.mono_acyclic.specs.Together.{HasSameEdges}
use Rattle.mono_acyclic.proofs.threatening.take_closing.Given as goal

abbrev pub invariant-loop-left : goal.invariant-loop-left
invariant-loop-left l = HasSameEdges l.graph l.fn.ordered l.ordered
