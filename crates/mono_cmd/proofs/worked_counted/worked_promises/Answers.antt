use Rattle.mono_cmd.proofs.worked_counted.worked_promises.Goals as goal

pub returns-clause-families : goal.returns-clause-families
returns-clause-families c = λ run h. (
  h.counts,
  h.completes,
  h.refuses,
  h.solves,
  h.generates,
  h.narrows,
  h.bounds,
  h.prints,
  h.migrates,
  h.asks,
  h.teams,
  h.judges,
  h.judges_with,
)

pub returns-clause-runs : goal.returns-clause-runs
returns-clause-runs c = λ run h. h.runs
