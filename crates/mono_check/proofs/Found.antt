-- What a search finds shows whether the predicate holds.
use Rattle.std.proofs.Common.{ℕ, ℤ, ◌<◌, Bool, not, List, int_le, refl}
use Rattle.std.specs.Prelude.{IsTrue, ◌↔◌}
use Rattle.std.proofs.lemmas.Bool.{and_parts, and_from}
use Rattle.mono_graph.specs.Digraph.{Digraph, HasEnds}
use Rattle.mono_graph.specs.Flows.{is_flow, value_of, amount_at}
use Rattle.mono_graph.proofs.CutsBoundFlows.{flow_cut_excludes}
use Rattle.mono_graph.proofs.RisingRanks.{cycle_cyclic, order_acyclic}
use Rattle.mono_cycles.specs.declared.finder.CycleOrOrder.{CycleOrOrder}
use Rattle.mono_cycles.specs.declared.finder.CycleOrOrder.TheVariants as cycles
use Rattle.mono_cycles.specs.Found.{IsCycleOrOrder, is_cycle_found}
use Rattle.mono_flows.specs.declared.found.FlowOrCut.{FlowOrCut}
use Rattle.mono_flows.specs.declared.found.FlowOrCut.TheVariants as found
use Rattle.mono_flows.specs.Answers.{Passes, is_flow_found}
use Rattle.mono_problem.specs.declared.atom.Predicate.TheVariants as kind
use Rattle.mono_problem.specs.Holds.{Holds}

pub flow_decides : (g : Digraph) (P : List Bool) (s t : ℕ) (least : ℤ) (f : FlowOrCut) → HasEnds g → s < g.nodes → Passes g P s t least f → IsTrue (is_flow_found f) ↔ Holds g P (kind.Flow s t least)
flow_decides g P s t least (found.Flow amounts) ends low passes = (λ yes. there, λ holds. refl)
  where
    there : Holds g P (kind.Flow s t least)
    there =
        let f : ℕ → ℕ = amount_at amounts.items in
        let a = and_parts _ (int_le least (value_of g s f)) passes in
        let b = and_parts _ (is_flow g P s t f) a.0 in
        (f, and_from (is_flow g P s t f) (int_le least (value_of g s f)) b.1 a.1)
flow_decides g P s t least (found.Cut set) ends low passes = (λ yes. absurd cc, λ holds. absurd (flow_cut_excludes g P s t least holds.0 set.items ends low passes holds.1))

pub acyclic_decides : (g : Digraph) (P : List Bool) (f : CycleOrOrder) → IsCycleOrOrder g P f → IsTrue (not (is_cycle_found f)) ↔ Holds g P kind.Acyclic
acyclic_decides g P (cycles.Cycle ks) passes = (λ yes. absurd cc, λ acyclic. absurd (cycle_cyclic g P ks.items passes acyclic))
acyclic_decides g P (cycles.Order us) passes = (λ yes. order_acyclic g P us.items passes, λ acyclic. refl)
