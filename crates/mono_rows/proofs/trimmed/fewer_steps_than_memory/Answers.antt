use Rattle.mono_rows.proofs.trimmed.fewer_steps_than_memory.Goals as goal

pub returns-clause-refutation : goal.returns-clause-refutation
returns-clause-refutation c = λ p steps h. h.short

pub returns-clause-progress : goal.returns-clause-progress
returns-clause-progress c = λ p budget steps h. h.short
