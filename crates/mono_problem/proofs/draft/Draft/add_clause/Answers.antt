use Rattle.std.proofs.Common.{rules}
use Rattle.mono_problem.proofs.draft.Draft.add_clause.Goals as goal

pub returns-in_err-push-clause-err : goal.returns-in_err-push-clause-err
returns-in_err-push-clause-err c = search rules
