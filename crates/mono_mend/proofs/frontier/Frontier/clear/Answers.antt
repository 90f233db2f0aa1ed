use Rattle.std.specs.BinaryHeap.{heap_items}
use Rattle.mono_mend.proofs.Guided.{none_within}
use Rattle.mono_mend.proofs.frontier.Frontier.clear.Goals as goal

pub returns : goal.returns
returns c = λ n. none_within n (heap_items c.clear.new.self) c.clear.ensures.items
