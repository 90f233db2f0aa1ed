-- The nodes from which a search may go on.
use Rattle.std.specs.Prelude.{ℕ, ◌<◌, All}
use Rattle.std.specs.BinaryHeap.{heap_items}
use Rattle.mono_mend.specs.declared.frontier.Frontier.{Frontier}

-- each of them is a node of a graph with so many
abbrev pub AreWithin : ℕ → Frontier → Type 0
AreWithin n frontier = All (λ o. o.node < n) (heap_items frontier.waiting)
