use Rattle.mono_steps.proofs.Digits.{code_below, same_code, code_zero}
use Rattle.mono_steps.proofs.new_laws.codes_tell_clauses.Goals as goal

pub returns-clause-below : goal.returns-clause-below
returns-clause-below c = code_below

pub returns-clause-same : goal.returns-clause-same
returns-clause-same c = same_code

pub returns-clause-zero : goal.returns-clause-zero
returns-clause-zero c = code_zero
