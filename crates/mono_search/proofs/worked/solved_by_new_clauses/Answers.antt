use Rattle.mono_search.proofs.worked.solved_by_new_clauses.Goals as goal

pub returns : goal.returns
returns c = λ h. c.wider_and_repeated_clauses.ensures.again h.new
