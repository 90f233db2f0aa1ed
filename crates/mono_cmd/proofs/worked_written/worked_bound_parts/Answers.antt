use Rattle.mono_cmd.proofs.worked_written.worked_bound_parts.Goals as goal

pub returns-clause-best_or_beyond : goal.returns-clause-best_or_beyond
returns-clause-best_or_beyond c = λ p n text h. h

pub returns-clause-never : goal.returns-clause-never
returns-clause-never c = λ p n text h. h

pub returns-clause-spent : goal.returns-clause-spent
returns-clause-spent c = λ p n text h. h
