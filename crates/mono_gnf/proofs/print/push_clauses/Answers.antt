use Rattle.std.proofs.Common.{◌≡◌, ◌++◌, ◌∙◌, ap, List, [], ℕ, ◌+◌, ◌-◌, ◌<◌, length, get_or, arith, ℤ}
use Rattle.mono_text.specs.Text.{spaced}
use Rattle.mono_gnf.specs.Printed.{clause_line}
use Rattle.mono_gnf.proofs.Printing.{lines-take}
use Rattle.mono_gnf.proofs.print.push_clauses.Goals as goal

pub loop-done-preserved : goal.loop-done-preserved
loop-done-preserved c =
    let cs = c.args.problem.now.clauses in
    let k = c.loop-done.done in
    let less : k < length cs = omega (arith, c.loop-done-test.true, c.clause_count-done-end.ensures) in
    let back : k + 1 - 1 ≡ k = omega arith in
    let read = ap (λ (lits : List ℤ). c.loop-done.out.items ++ spaced (clause_line lits)) (c.clause.ensures.clause ∙ ap (λ (k : ℕ). get_or cs k []) back) in
    let before = ap (λ (t : List ℕ). t ++ spaced (clause_line (get_or cs k []))) c.loop-done.invariant in
    c.in_ok-push_clause.ensures.ok ∙ (read ∙ (before ∙ lines-take clause_line c.args.out.now.items cs k [] less))
