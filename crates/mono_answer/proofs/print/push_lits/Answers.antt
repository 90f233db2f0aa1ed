use Rattle.std.proofs.Common.{◌++◌, ◌∙◌, ℕ, ℤ, List, codes, ap, arith}
use Rattle.std.proofs.lemmas.List.{take_all}
use Rattle.mono_text.proofs.Beginnings.{starts_behind, starts_same, stays_behind}
use Rattle.mono_answer.specs.Behind.{behind}
use Rattle.mono_answer.specs.Printed.{numbers_text}
use Rattle.mono_answer.proofs.Printing.{behind_zero}
use Rattle.mono_answer.proofs.print.push_lits.Goals as goal

pub returns-clause-ok : goal.returns-clause-ok
returns-clause-ok c =
    let out = c.args.out.now.items in
    let lits = c.args.lits.now in
    c.in_ok-extend_from_slice.ensures.items
    ∙ (ap (λ (t : List ℕ). t ++ codes " 0") (c.loop-lit.invariant ∙ ap (λ (zs : List ℤ). out ++ behind (numbers_text zs)) (take_all c.loop-lit.lit-index lits (omega arith)))
    ∙ behind_zero out lits)

pub returns-in_err-push_lit-clause-err : goal.returns-in_err-push_lit-clause-err
returns-in_err-push_lit-clause-err c = stays_behind _ _ c.loop-lit.out.items _ (starts_behind _ c.loop-lit.invariant) c.in_err-push_lit.ensures.err

pub returns-in_err-extend_from_slice-clause-err : goal.returns-in_err-extend_from_slice-clause-err
returns-in_err-extend_from_slice-clause-err c = stays_behind _ _ c.loop-lit.out.items _ (starts_behind _ c.loop-lit.invariant) (starts_same c.in_err-extend_from_slice.ensures.items)
