use Rattle.mono_portfolio.proofs.RoundsLaws.{TookSome}
use Rattle.mono_portfolio.proofs.rounds.take_short_by_all.Given as goal

abbrev pub invariant-loop-worker : goal.invariant-loop-worker
invariant-loop-worker l = TookSome l.fn.team l.from l.worker l.team
