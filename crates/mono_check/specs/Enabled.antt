-- The part of a graph that an assignment enables, and what searches it.
use Rattle.std.specs.Prelude.{◌≡◌, ◌<◌, ◌↔◌, ℕ, Bool, List, Option, None, IfSome, IsTrue, length, slice_index_or}
use Rattle.mono_graph.specs.Digraph.{Digraph, enabled}
use Rattle.mono_problem.specs.declared.atom.Predicate.TheVariants as kind
use Rattle.mono_problem.specs.Instance.{Instance, graph_at}
use Rattle.mono_problem.specs.Holds.{Holds}
use Rattle.mono_check.specs.declared.enabled.EnabledPart.{EnabledPart}

-- the part has a mark for each edge of the graph, the searches have room for its nodes, and what is known of cycles is so
pub record FitsGraph (g : Digraph) (e : EnabledPart) : Type 0 where
  pub part : length e.part ≡ length g.edges
  pub walks : e.walks ≡ g.nodes
  pub flows : e.flows ≡ g.nodes
  pub trees : e.trees ≡ g.nodes
  pub cycles : e.cycles ≡ g.nodes
  pub acyclic : IfSome e.acyclic (λ b. IsTrue b ↔ Holds g e.part kind.Acyclic)

pub record IsEnabled (p : Instance) (a : ℕ → Bool) (e : EnabledPart) : Type 0 where
  pub known : e.graph < length p.graphs
  pub part : e.part ≡ enabled a (graph_at p e.graph)
  pub fits : FitsGraph (graph_at p e.graph) e

-- it is that of the graph at a place
pub record IsPartAt (p : Instance) (a : ℕ → Bool) (place : ℕ) (e : EnabledPart) : Type 0 where
  pub graph : e.graph ≡ place
  pub enabled : IsEnabled p a e

-- by the graphs' places, those that are there
pub record AreEnabled (p : Instance) (a : ℕ → Bool) (parts : List (Option EnabledPart)) : Type 0 where
  pub len : length parts ≡ length p.graphs
  pub each : (k : ℕ) → IfSome (slice_index_or parts k None) (IsPartAt p a k)
