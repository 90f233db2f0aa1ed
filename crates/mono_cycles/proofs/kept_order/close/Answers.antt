use Rattle.std.proofs.Common.{◌∙◌, ◌++◌, ◌∷◌, [], ℕ, List, length, get_or, sym, ap, subst, arith, length-append}
use Rattle.std.specs.Prelude.{IsTrue}
use Rattle.mono_graph.specs.Walks.{is_walk}
use Rattle.mono_graph.specs.Digraph.{edge_at}
use Rattle.mono_graph.specs.declared.edge.Edge.{Edge}
use Rattle.mono_graph.proofs.RisingRanks.{is_cycle_of}
use Rattle.mono_graph.proofs.GrownWalks.{walk_none}
use Rattle.mono_cycles.proofs.Walking.{walk_step}
use Rattle.mono_cycles.proofs.kept_order.close.Goals as goal

pub returns-clause-cycle : goal.returns-clause-cycle
returns-clause-cycle c =
    let g = c.args.graph.now in
    let P = c.args.part.now in
    let y : ℕ = (edge_at g c.args.place).to in
    let first : IsTrue (is_walk g P y (edge_at g c.args.closing).to c.push_reserved.new.self.items) =
    subst (λ (ks : List ℕ). IsTrue (is_walk g P y (edge_at g c.args.closing).to ks)) (sym (c.push_reserved.ensures.items ∙ ap (λ (ks : List ℕ). ks ++ c.args.closing ∷ []) c.clear.ensures.items))
    (walk_step g P y y (edge_at g c.args.closing).to c.args.closing [] (walk_none g P y) c.requires.closing) in
    let on = c.walk_on.ensures.walk y (subst (λ (e : Edge). IsTrue (is_walk g P y e.to c.push_reserved.new.self.items)) (sym c.edge.ensures.edge) first) in
    let whole : IsTrue (is_walk g P y y c.push_reserved-2.new.self.items) =
    subst (λ (ks : List ℕ). IsTrue (is_walk g P y y ks)) (sym c.push_reserved-2.ensures.items) (walk_step g P y (get_or c.args.behind.now.nodes.items 0 0) y c.args.place c.walk_on.new.walk.items on c.requires.place) in
    is_cycle_of g P y c.push_reserved-2.new.self.items (let len = ap (λ (ks : List ℕ). length ks) c.push_reserved-2.ensures.items in omega (arith, len, length-append c.walk_on.new.walk.items (c.args.place ∷ []))) whole
