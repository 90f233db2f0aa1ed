use Rattle.std.proofs.Common.{◌≤◌, length}
use Rattle.mono_bounds.proofs.BoundsStay.{by_own_vars}
use Rattle.mono_theory.proofs.FramesStay.{IsFrame-take}
use Rattle.mono_bounds.proofs.SpansStay.{seen_cut}
use Rattle.mono_theory.proofs.frame.Frame.undo_to.Goals as goal

pub undo_to-requires-clause-kept : goal.undo_to-requires-clause-kept
undo_to-requires-clause-kept c = rw c.as_slice.ensures.value (rw (← c.self.view_is) at c.requires)

pub undo_to-requires-clause-partial : goal.undo_to-requires-clause-partial
undo_to-requires-clause-partial c = rw c.as_slice.ensures.value c.self.invariant.partial

pub undo_to-requires-clause-bound : goal.undo_to-requires-clause-bound
undo_to-requires-clause-bound c = rw c.as_slice.ensures.value (by_own_vars c.self.invariant.edges.bound)

pub undo_to-requires-clause-spans : goal.undo_to-requires-clause-spans
undo_to-requires-clause-spans c = rw c.as_slice.ensures.value c.self.invariant.edges.spans

pub undo_to-requires-2-clause-kept : goal.undo_to-requires-2-clause-kept
undo_to-requires-2-clause-kept c = rw c.as_slice-2.ensures.value (rw (← c.self.view_is) at c.requires)

pub undo_to-requires-2-clause-partial : goal.undo_to-requires-2-clause-partial
undo_to-requires-2-clause-partial c = rw c.as_slice-2.ensures.value c.self.invariant.partial

pub undo_to-requires-2-clause-bound : goal.undo_to-requires-2-clause-bound
undo_to-requires-2-clause-bound c = rw c.as_slice-2.ensures.value (by_own_vars c.self.invariant.own.bound)

pub undo_to-requires-2-clause-spans : goal.undo_to-requires-2-clause-spans
undo_to-requires-2-clause-spans c = rw c.as_slice-2.ensures.value c.self.invariant.own.spans

pub invariant_of-self : goal.invariant_of-self
invariant_of-self c =
    let t = c.self.inside.lits.items in
    let le : c.args.kept ≤ length t = rw (← c.self.view_is) at c.requires in
    let edges = c.undo_to.ensures in
    let own = c.undo_to-2.ensures in
    rw (c.truncate.ensures.capacity, c.truncate.ensures.items)
    (IsFrame-take c.undo_to.new.self c.undo_to-2.new.self c.args.kept c.self.invariant
    (seen_cut _ _ _ t c.args.kept le (rw c.as_slice.ensures.value at edges.bound) edges.places edges.spans c.self.invariant.edges)
    (seen_cut _ _ _ t c.args.kept le (rw c.as_slice-2.ensures.value at own.bound) own.places own.spans c.self.invariant.own) edges.cells own.cells)
