use Rattle.std.proofs.Common.{◌≡◌, replicate}
use Rattle.mono_portfolio.specs.Workers.{idle_over}
use Rattle.mono_portfolio.proofs.team.idle_workers.Given as goal

abbrev pub invariant-loop : goal.invariant-loop
invariant-loop l = l.workers.items ≡ replicate l.counter (idle_over l.problem)
