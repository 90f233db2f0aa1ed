use Rattle.std.proofs.Common.{◌+◌}
use Rattle.std.proofs.lemmas.Result.{on_ok_weaker}
use Rattle.mono_learn.proofs.Asking.{come_asked}
use Rattle.mono_learn.proofs.analysis.Analysis.resolve_next.Goals as goal

pub resolve-requires-clause-come : goal.resolve-requires-clause-come
resolve-requires-clause-come g c = come_asked c.args.problem.now c.args.trail.now c.reason_of.new.trail c.args.journal.now c.reason_of.new.journal c.args.self.now.start (c.args.place + 1) c.args.self.now.resolvent c.args.self.now.used.items c.reason_of.ensures.asks c.requires.come

pub returns-clause-goes_on : goal.returns-clause-goes_on
returns-clause-goes_on g c = on_ok_weaker c.resolve.result (λ pushed. record { number = c.in_ok-number.number; pushed = pushed; why = c.in_ok-number.ensures.why; reason = c.in_ok-number.ensures.is.clause; is = c.in_ok-number.ensures.is.is }) c.resolve.ensures.pushed
