use Rattle.std.proofs.Common.{◌<◌, List, sym, subst}
use Rattle.std.specs.Prelude.{All}
use Rattle.std.specs.BinaryHeap.{heap_items}
use Rattle.mono_mend.specs.declared.frontier.Open.{Open}
use Rattle.mono_mend.proofs.Guided.{within_popped}
use Rattle.mono_mend.proofs.frontier.Frontier.pop.Goals as goal

pub returns-in_default-clause-others : goal.returns-in_default-clause-others
returns-in_default-clause-others c = λ n old. subst (λ (os : List Open). All (λ (o : Open). o.node < n) os) (sym c.in_default.ensures.unchanged.0) old

pub returns-clause-node : goal.returns-clause-node
returns-clause-node c = λ n old. (within_popped n (heap_items c.args.self.now.waiting) (heap_items c.pop.new.self) c.in-Some.next c.in-Some.ensures.permutation old).0

pub returns-clause-others : goal.returns-clause-others
returns-clause-others c = λ n old. (within_popped n (heap_items c.args.self.now.waiting) (heap_items c.pop.new.self) c.in-Some.next c.in-Some.ensures.permutation old).1
