use Rattle.std.proofs.Common.{rules}
use Rattle.mono_portfolio.proofs.worker.Worker.clear_made.Goals as goal

pub returns : goal.returns
returns c = search rules
