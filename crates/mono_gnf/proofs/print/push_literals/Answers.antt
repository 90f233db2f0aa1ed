use Rattle.mono_text.proofs.Beginnings.{starts_behind, stays_behind}
use Rattle.mono_gnf.proofs.print.push_literals.Goals as goal

pub returns-in_err-push_literal-clause-err : goal.returns-in_err-push_literal-clause-err
returns-in_err-push_literal-clause-err c = stays_behind _ _ c.loop-lit.out.items _ (starts_behind _ c.loop-lit.invariant) c.in_err-push_literal.ensures.err
