use Rattle.std.proofs.Common.{take}
use Rattle.mono_theory.proofs.BothSidesStay.{kept_with}
use Rattle.mono_theory.proofs.graph_theory.GraphTheoryTheory.undo_to.Goals as goal

pub invariant_of-self : goal.invariant_of-self
invariant_of-self g c =
    rw c.undo_to-3.ensures (kept_with (take c.args.kept c.self.inside.frame.seen) c.undo_to.ensures.right c.undo_to.ensures.sign c.undo_to-2.ensures.right c.undo_to-2.ensures.sign c.self.invariant)
