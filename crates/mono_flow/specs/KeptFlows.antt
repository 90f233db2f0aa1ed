-- What a theory of flows keeps of the edges, for an atom: a flow along the surely present edges and one along the possibly
-- present ones. They are in the evidence that is kept of the atom, and carry nothing where that isn't known to be right.
use Rattle.std.specs.Prelude.{◌≡◌, ℕ, ◌<◌, Bool, false, ℤ, pos, int_lt, List, [], Option, Some, IsTrue, int_le, length, ◌↔◌}
use Rattle.mono_base.specs.Literal.{var_of}
use Rattle.mono_graph.specs.declared.amount.Amount.{Amount}
use Rattle.mono_graph.specs.Digraph.{Digraph, edge_at}
use Rattle.mono_graph.specs.Flows.{amount_at, is_flow, value_of}
use Rattle.mono_problem.specs.declared.atom.Predicate.{Predicate}
use Rattle.mono_problem.specs.declared.atom.Predicate.TheVariants as kind
use Rattle.mono_problem.specs.Holds.{Holds}
use Rattle.mono_steps.specs.declared.lemma.Witness.{Witness}
use Rattle.mono_steps.specs.declared.lemma.Witness.TheVariants as by
use Rattle.mono_theory.specs.declared.evidence.Evidence.{Evidence}
use Rattle.mono_theory.specs.declared.stage.Stage.{Stage}
use Rattle.mono_theory.specs.declared.stage.Stage.TheVariants as stage
use Rattle.mono_theory.specs.AtomPlaces.{place_of_atom}
use Rattle.mono_theory.specs.Sound.{evidence_at}
use Rattle.mono_theory.specs.Stages.{NoneWaits, stage_at}
use Rattle.mono_theory.specs.Supports.{GraphTheoryView, SideView}
use Rattle.mono_flow.specs.declared.flows.Flows.{Flows}

-- the amounts of a flow, with edges by their numbers
abbrev pub amounts_in : Witness → List Amount
amounts_in (by.Flow amounts) = amounts
amounts_in w = []

-- those of the support while an atom stands on it, and those of what is shown while it shows
abbrev pub supporting : Stage → Option Evidence → List Amount
supporting stage.Stands (Some e) = amounts_in e.witness
supporting at o = []

abbrev pub showing : Stage → Option Evidence → List Amount
showing (stage.Shows m) (Some e) = amounts_in e.witness
showing at o = []

-- the flow along the possibly present edges, and the one along the surely present ones, of the atom at a place
abbrev pub over_flow : SideView → ℕ → List Amount
over_flow s a = supporting (stage_at s.stages a) (evidence_at s.supports a)

abbrev pub under_flow : SideView → ℕ → List Amount
under_flow s a = showing (stage_at s.stages a) (evidence_at s.shown a)

-- what it gives to the edge at a place
abbrev pub carried_at : Digraph → List Amount → ℕ → ℕ
carried_at g amounts k = amount_at amounts (edge_at g k).number

-- what is kept of the edge at a place for the atom at a place, and for the atom of a number
abbrev pub flows_at : GraphTheoryView SideView SideView → ℕ → ℕ → Flows
flows_at s a k = record { under = carried_at s.graph (under_flow s.surely a) k; over = carried_at s.graph (over_flow s.possibly a) k }

abbrev pub flows_in : GraphTheoryView SideView SideView → ℕ → ℕ → Flows
flows_in s n k = flows_at s (place_of_atom s.atoms n) k

-- a flow in the part between the nodes of a predicate on flows
abbrev pub IsFlowFor : Digraph → List Bool → Predicate → (ℕ → ℕ) → Type 0
IsFlowFor g P (kind.Flow s t least) f = IsTrue (is_flow g P s t f)
IsFlowFor g P q f = Unit {0}

-- the predicate holds in the part exactly where the value of the flow is at least its bound
abbrev pub IsDecidedBy : Digraph → List Bool → Predicate → (ℕ → ℕ) → Type 0
IsDecidedBy g P (kind.Flow s t least) f = Holds g P (kind.Flow s t least) ↔ IsTrue (int_le least (value_of g s f))
IsDecidedBy g P q f = Unit {0}

-- no atom waits on either side
pub record AreBothDecided (s : GraphTheoryView SideView SideView) : Type 0 where
  pub surely : NoneWaits s.surely.stages
  pub possibly : NoneWaits s.possibly.stages

-- a flow gives something to an edge that the literal takes away
pub record GivesToLost (g : Digraph) (l : ℤ) (flow : ℕ → ℕ) : Type 0 where
  pub edge : ℕ
  pub held : edge < length g.edges
  pub var : (edge_at g edge).var ≡ var_of l
  pub absent : int_lt (pos 0) l ≡ false
  pub carried : 0 < flow edge

-- the flow along the possibly present edges does
abbrev pub LosesFlow : Digraph → ℤ → SideView → ℕ → Type 0
LosesFlow g l s a = GivesToLost g l (carried_at g (over_flow s a))
