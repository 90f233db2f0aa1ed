use Rattle.std.proofs.Common.{◌≡◌, ℕ, ◌<◌, Bool, List, length, subst}
use Rattle.std.specs.Prelude.{IsTrue}
use Rattle.mono_graph.specs.Digraph.{Digraph}
use Rattle.mono_graph.specs.Walks.{is_walk}
use Rattle.mono_dynamic.specs.declared.arrival.Arrival.{Arrival}
use Rattle.mono_dynamic.specs.Arrivals.{arrival_at, is_reached, within, IsTree}
use Rattle.mono_dynamic.specs.Reached.{Reached}
use Rattle.mono_dynamic.proofs.Listed.{arrival_within}
use Rattle.mono_dynamic.proofs.reached_nodes.ReachedNodes.walk_to.Goals as goal

pub returns : goal.returns
returns c =
    let walk : List ℕ = c.in_ok-walk-in-Some.walk.items in
    let found = subst (λ (xs : List Arrival). (c.in-Some.last < length xs) × ((arrival_at xs c.in-Some.last).node ≡ c.args.node)) c.deref-2.ensures.value c.in-Some.ensures in
    let way = subst (λ (xs : List Arrival). (g : Digraph) (P : List Bool) (m : ℕ) → IsTree g P c.self.inside.source (within m xs) → c.in-Some.last < length (within m xs) → IsTrue (is_walk g P c.self.inside.source (arrival_at xs c.in-Some.last).node walk)) c.deref-in-Some.ensures.value c.in_ok-walk-in-Some.ensures in
    subst (λ (r : Reached). (g : Digraph) (P : List Bool) (m : ℕ) → IsTree g P r.source (within m r.arrivals) → IsTrue (is_reached (within m r.arrivals) c.args.node) → IsTrue (is_walk g P r.source c.args.node walk)) c.self.view_is
    (λ g P m t h. subst (λ (v : ℕ). IsTrue (is_walk g P c.self.inside.source v walk)) found.1
    (way g P m t (arrival_within c.self.inside.source m c.self.inside.positions.items c.self.inside.arrivals.items c.args.node c.in-Some.last _ c.self.invariant found.0 found.1 h)))
