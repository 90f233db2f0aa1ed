use Rattle.std.specs.BinaryHeap.{heap_items}
use Rattle.mono_mend.proofs.Guided.{none_within}
use Rattle.mono_mend.proofs.frontier.Frontier.new.Goals as goal

pub returns : goal.returns
returns c = λ n. none_within n (heap_items c.new.result) c.new.ensures.items
