-- What was found decides whether there is a cycle.
use Rattle.std.proofs.Common.{◌≡◌, List, Bool, false, refl}
use Rattle.std.specs.Prelude.{IsTrue, ◌↔◌}
use Rattle.mono_graph.specs.Digraph.{Digraph}
use Rattle.mono_graph.specs.Cycles.{IsAcyclic}
use Rattle.mono_cycles.specs.Found.{IsCycleOrOrder, is_cycle_found}
use Rattle.mono_cycles.specs.declared.finder.CycleOrOrder.{CycleOrOrder}
use Rattle.mono_cycles.specs.declared.finder.CycleOrOrder.TheVariants as found
use Rattle.mono_graph.proofs.RisingRanks.{cycle_cyclic, order_acyclic}

pub cycle_decides : (g : Digraph) (P : List Bool) (f : CycleOrOrder) → IsCycleOrOrder g P f → IsTrue (is_cycle_found f) ↔ ¬ IsAcyclic g P
cycle_decides g P (found.Cycle ks) passes = (λ yes. cycle_cyclic g P ks.items passes, λ cyclic. refl)
cycle_decides g P (found.Order ns) passes = (λ yes. absurd cc, λ cyclic. absurd (cyclic (order_acyclic g P ns.items passes)))

pub order_decides : (g : Digraph) (P : List Bool) (f : CycleOrOrder) → IsCycleOrOrder g P f → (is_cycle_found f ≡ false) ↔ IsAcyclic g P
order_decides g P (found.Cycle ks) passes = (λ off. absurd cc, λ acyclic. absurd (cycle_cyclic g P ks.items passes acyclic))
order_decides g P (found.Order ns) passes = (λ off. order_acyclic g P ns.items passes, λ acyclic. refl)
