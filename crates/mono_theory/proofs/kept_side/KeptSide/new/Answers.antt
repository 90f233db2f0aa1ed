use Rattle.std.proofs.Common.{not, refl, sym, ◌∙◌}
use Rattle.mono_theory.proofs.SidesStay.{side_new}
use Rattle.mono_theory.proofs.kept_side.KeptSide.new.Goals as goal

pub returns-clause-side : goal.returns-clause-side
returns-clause-side c = λ f atoms edges.
    let b = c.args.possible in
    side_new f b c.args.atoms _ refl atoms (c.in_ok-supports.ensures.sound f.graph f.atoms b atoms) (c.in_ok-shown.ensures.sound f.graph f.atoms (not b) atoms)
    (c.in_ok-watchers.ensures.len ∙ sym edges) (rw c.in_ok-supports.ensures.len at c.in_ok-watchers.ensures.below) (rw c.in_ok-supports.ensures.len at c.in_ok-watchers.ensures.watch) c.in_ok-stages.ensures
