use Rattle.std.proofs.Common.{◌∙◌, ap}
use Rattle.std.specs.Prelude.{◌==◌}
use Rattle.std.specs.List.{list_any}
use Rattle.mono_portfolio.specs.Workers.{WorkerState}
use Rattle.mono_portfolio.proofs.worker.Worker.has_taken.Goals as goal

pub returns : goal.returns
returns c = c.contains.ensures ∙ ap (λ (x : WorkerState). list_any (λ n. c.args.step == n) x.taken) c.self.view_is
