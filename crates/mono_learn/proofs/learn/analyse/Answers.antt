use Rattle.std.proofs.lemmas.Result.{IfOk-weaker, on_err_weaker}
use Rattle.mono_learn.proofs.Asking.{are_asked, adds_lemmas}
use Rattle.mono_learn.proofs.Learning.{learns_after, settles_grown, asked_grown, reasons_grown, minimal_grown, adds_same, on_err, all_of}
use Rattle.mono_learn.proofs.Points.{taught_grown}
use Rattle.mono_learn.proofs.learn.analyse.Goals as goal

pub returns-in_err-derived-clause-err : goal.returns-in_err-derived-clause-err
returns-in_err-derived-clause-err g c = on_err c.from_residual.result (adds_lemmas c.args.problem.now c.args.trail.now c.derive.new.trail c.args.journal.now c.derive.new.journal c.derive.ensures.asks)

pub returns-in_err-derived-clause-asked : goal.returns-in_err-derived-clause-asked
returns-in_err-derived-clause-asked g c = are_asked c.args.problem.now c.args.trail.now c.derive.new.trail c.args.journal.now c.derive.new.journal c.derive.ensures.asks

pub returns-clause-learns : goal.returns-clause-learns
returns-clause-learns g c = all_of c.push.result _ _ _ (λ r pushed learnt. learns_after c.args.problem.now c.args.trail.now c.derive.new.trail c.args.journal.now c.derive.new.journal c.push.new.journal r c.derive.ensures.asks pushed learnt) c.push.ensures.pushes c.push.ensures.learnt

pub returns-clause-minimal : goal.returns-clause-minimal
returns-clause-minimal g c = IfOk-weaker c.push.result _ _ (λ r m. minimal_grown c.args.problem.now c.derive.new.journal c.push.new.journal (g.E.Explainer.shown c.args.by.now) c.derive.new.trail r.clause c.derive.ensures.reasons c.push.ensures.grows m) c.push.ensures.minimal

pub returns-clause-settles : goal.returns-clause-settles
returns-clause-settles g c = settles_grown c.args.problem.now c.args.trail.now c.derive.new.trail c.args.journal.now c.derive.new.journal c.push.new.journal c.derive.ensures.asks c.push.ensures.grows

pub returns-clause-asked : goal.returns-clause-asked
returns-clause-asked g c = asked_grown c.args.problem.now c.args.trail.now c.derive.new.trail c.args.journal.now c.derive.new.journal c.push.new.journal c.derive.ensures.asks c.push.ensures.grows

pub returns-clause-reasons : goal.returns-clause-reasons
returns-clause-reasons g c = reasons_grown c.args.problem.now c.derive.new.journal c.push.new.journal (g.E.Explainer.shown c.args.by.now) c.derive.new.trail c.push.ensures.grows c.derive.ensures.reasons

pub returns-clause-err : goal.returns-clause-err
returns-clause-err g c = on_err_weaker c.push.result (λ same. adds_same c.args.problem.now c.args.trail.now c.derive.new.trail c.args.journal.now c.derive.new.journal c.push.new.journal c.derive.ensures.asks same) c.push.ensures.err

pub returns-clause-taught : goal.returns-clause-taught
returns-clause-taught g c = IfOk-weaker c.push.result _ _ (λ r e. taught_grown c.args.problem.now c.derive.new.journal c.push.new.journal (g.E.Explainer.shown c.args.by.now) c.derive.new.trail c.args.conflict c.in_ok-derived.derived.lits.items r.clause c.derive.ensures.reasons c.push.ensures.grows e c.in_ok-derived.ensures.taught) c.push.ensures.same
