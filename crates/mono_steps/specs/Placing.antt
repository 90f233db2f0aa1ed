-- The edges that a witness names, by their places in the graph.
use Rattle.std.specs.Prelude.{◌≡◌, ℕ, ◌<◌, List, [], length, All, IsTrue}
use Rattle.mono_graph.specs.declared.amount.Amount.{Amount}
use Rattle.mono_graph.specs.Digraph.{Digraph}
use Rattle.mono_graph.specs.declared.limit.Limit.{Limit}
use Rattle.mono_graph.specs.declared.limit.Limit.TheVariants as limit
use Rattle.mono_problem.specs.declared.atom.Predicate.{Predicate}
use Rattle.mono_problem.specs.declared.atom.Predicate.TheVariants as kind
use Rattle.mono_problem.specs.WellFormed.{IsOver}
use Rattle.mono_steps.specs.declared.lemma.Witness.{Witness}
use Rattle.mono_steps.specs.declared.lemma.Witness.TheVariants as by
use Rattle.mono_steps.specs.declared.placing.PlacedEdges.{PlacedEdges}
use Rattle.mono_steps.specs.Witnesses.{names_known, placed, placed_amounts}

-- the numbers of edges that the witness lists, and the amounts
abbrev pub edges_listed : Witness → List ℕ
edges_listed (by.Path es) = es
edges_listed (by.Tree es) = es
edges_listed (by.Least es) = es
edges_listed (by.Cycle es) = es
edges_listed w = []

abbrev pub amounts_listed : Witness → List Amount
amounts_listed (by.Flow ms) = ms
amounts_listed w = []

-- the places and amounts are those of the witness in the graph, which has all that it lists
pub record ArePlaced (g : Digraph) (w : Witness) (p : PlacedEdges) : Type 0 where
  pub places_are : p.places.items ≡ placed g (edges_listed w)
  pub amounts_are : p.amounts.items ≡ placed_amounts g (amounts_listed w)
  pub places_held : All (λ k. k < length g.edges) p.places.items
  pub amounts_held : All (λ m. m.edge < length g.edges) p.amounts.items

-- the witness can be tested for the predicate: the graph has all that the two name, and the edges are placed
pub record IsTestable (g : Digraph) (q : Predicate) (w : Witness) (p : PlacedEdges) : Type 0 where
  pub over : IsOver g q
  pub known : IsTrue (names_known g w)
  pub placed : ArePlaced g w p

-- that a walk within the limit leads from u to v
abbrev pub walk_predicate : ℕ → ℕ → Limit → Predicate
walk_predicate u v limit.Free = kind.Reach u v
walk_predicate u v (limit.Steps most) = kind.Steps u v most
walk_predicate u v (limit.Weight most) = kind.Distance u v most
