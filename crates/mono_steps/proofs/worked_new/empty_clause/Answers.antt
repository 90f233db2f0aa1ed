use Rattle.mono_steps.proofs.worked_new.empty_clause.Goals as goal

pub returns-clause-not_new : goal.returns-clause-not_new
returns-clause-not_new c = λ h. let e = h.none_empty in cc

pub returns-clause-left_out : goal.returns-clause-left_out
returns-clause-left_out c = ((λ full. absurd cc), tt)
