-- What is kept of the surely present edges: an order of the nodes in which each of them rises, or a cycle that one closed.
use Rattle.std.specs.Prelude.{◌≡◌, ℕ, ◌+◌, ◌<◌, Bool, Option, Some, None, length, IsTrue}
use Rattle.std.specs.Option.{is_some}
use Rattle.mono_graph.specs.Digraph.{present}
use Rattle.mono_graph.specs.Cycles.{is_cycle, is_order}
use Rattle.mono_cycles.specs.Kept.{PartWithOrder}
use Rattle.mono_theory.specs.Theories.{Facts}
use Rattle.mono_theory.specs.SureParts.{sure_parts}
use Rattle.mono_acyclic.specs.declared.ordered_edges.Closing.{Closing}

-- edges with an order of the nodes, and the literal that closed a cycle, if one did
pub record OrderedView : Type 0 where
  pub ordered : PartWithOrder
  pub closing : Option Closing

-- the part has the edges of the first m literals, and the order is one of it
pub record IsOrderedTo (f : Facts) (m : ℕ) (o : PartWithOrder) : Type 0 where
  pub size : length o.order ≡ f.graph.nodes
  pub part_size : length o.part ≡ length f.graph.edges
  pub part : (k : ℕ) → present o.part k ≡ present (sure_parts f m) k
  pub order : IsTrue (is_order f.graph o.part o.order)

-- one of the first n literals closed the cycle, and the part has the edges of the literals before it
pub record IsClosed (f : Facts) (n : ℕ) (o : PartWithOrder) (c : Closing) : Type 0 where
  pub within : c.at < n
  pub cycle : IsTrue (is_cycle f.graph (sure_parts f (c.at + 1)) c.cycle.items)
  pub ordered : IsOrderedTo f c.at o

-- of how many of the first n literals the edges are in the part
abbrev pub ordered_count : ℕ → Option Closing → ℕ
ordered_count n None = n
ordered_count n (Some c) = c.at

-- the first n literals have an order, or a cycle
abbrev pub IsKeptTo : Facts → ℕ → PartWithOrder → Option Closing → Type 0
IsKeptTo f n o None = IsOrderedTo f n o
IsKeptTo f n o (Some c) = IsClosed f n o c

-- what is kept is right for the first n literals
pub record AreEdgesTo (f : Facts) (n : ℕ) (s : OrderedView) : Type 0 where
  pub kept : IsKeptTo f n s.ordered s.closing

-- what is kept is right for all literals seen
abbrev pub AreEdgesOf : OrderedView → Facts → Type 0
AreEdgesOf s f = AreEdgesTo f (length f.seen) s

-- a cycle is shown, of each atom alike
abbrev pub shows_cycle : OrderedView → ℕ → Bool
shows_cycle s a = is_some s.closing
