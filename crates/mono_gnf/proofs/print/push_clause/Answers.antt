use Rattle.std.proofs.Common.{◌++◌, ◌∙◌, ap, List, ℕ, codes}
use Rattle.mono_text.proofs.Beginnings.{starts_behind, starts_same, stays_behind}
use Rattle.mono_gnf.proofs.Printing.{line_of_literals}
use Rattle.mono_gnf.proofs.print.push_clause.Goals as goal

pub returns-clause-ok : goal.returns-clause-ok
returns-clause-ok c =
    c.in_ok-extend_from_slice.ensures.items
    ∙ (ap (λ (t : List ℕ). t ++ codes "0\n") c.in_ok-push_literals.ensures.ok ∙ line_of_literals c.args.out.now.items c.args.lits.now)

pub returns-in_err-extend_from_slice-clause-err : goal.returns-in_err-extend_from_slice-clause-err
returns-in_err-extend_from_slice-clause-err c =
    stays_behind _ _ c.push_literals.new.out.items _ (starts_behind _ c.in_ok-push_literals.ensures.ok) (starts_same c.in_err-extend_from_slice.ensures.items)
