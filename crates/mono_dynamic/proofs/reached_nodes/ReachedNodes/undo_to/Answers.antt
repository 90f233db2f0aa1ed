use Rattle.std.proofs.Common.{ℕ, List, sym, subst}
use Rattle.std.specs.Prelude.{vec_capacity}
use Rattle.mono_dynamic.specs.declared.arrival.Arrival.{Arrival}
use Rattle.mono_dynamic.specs.Arrivals.{within, AreReachedAlong}
use Rattle.mono_dynamic.specs.Reached.{IsKept, Reached}
use Rattle.mono_dynamic.proofs.Listed.{kept_within}
use Rattle.mono_dynamic.proofs.Exact.{along_undone}
use Rattle.mono_dynamic.proofs.reached_nodes.ReachedNodes.undo_to.Goals as goal

pub invariant_of-self : goal.invariant_of-self
invariant_of-self c =
    subst (λ (n : ℕ). IsKept c.self.inside.source c.self.inside.positions.items c.drop_later.new.arrivals.items n) (sym c.drop_later.ensures.capacity)
    (subst (λ (xs : List Arrival). IsKept c.self.inside.source c.self.inside.positions.items xs (vec_capacity c.self.inside.arrivals)) (sym c.drop_later.ensures.arrivals)
    (kept_within c.args.kept c.self.inside.source c.self.inside.positions.items c.self.inside.arrivals.items (vec_capacity c.self.inside.arrivals) c.self.invariant))

pub returns-clause-along : goal.returns-clause-along
returns-clause-along c = λ g parts n le r.
    subst (λ (xs : List Arrival). AreReachedAlong g parts c.args.kept c.args.self.now.source xs) (sym c.drop_later.ensures.arrivals)
    (subst (λ (s : Reached). AreReachedAlong g parts c.args.kept c.args.self.now.source (within c.args.kept s.arrivals)) (sym c.self.view_is)
    (along_undone g parts c.args.kept n c.args.self.now.source c.args.self.now.arrivals le r))
