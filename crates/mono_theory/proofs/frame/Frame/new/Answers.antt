use Rattle.std.proofs.Common.{[], List, subst}
use Rattle.std.specs.Prelude.{vec_capacity}
use Rattle.mono_problem.specs.declared.atom.Atom.{Atom}
use Rattle.mono_theory.specs.Frames.{IsFrame}
use Rattle.mono_theory.proofs.frame.Frame.new.Goals as goal

pub invariant_of-result : goal.invariant_of-result
invariant_of-result c =
    let t = c.in_ok-tables.tables in
    rw c.in_ok-tables.ensures.unseen
    (subst (λ (xs : List Atom). IsFrame c.args.graph xs [] t.edges t.own t.numbers.keys t.vars.items (vec_capacity t.lits)) c.as_slice.ensures.value c.in_ok-tables.ensures.frame)
