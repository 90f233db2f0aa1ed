use Rattle.mono_portfolio.proofs.Tables.{IsFilled}
use Rattle.mono_portfolio.proofs.moving.numbers_on_board.Given as goal

abbrev pub invariant-loop-step : goal.invariant-loop-step
invariant-loop-step l = IsFilled l.count l.taken l.board l.step l.numbers.items
