use Rattle.std.proofs.lemmas.Result.{IfOk-weaker, on_err_weaker}
use Rattle.mono_learn.proofs.Asking.{are_asked, adds_lemmas}
use Rattle.mono_learn.proofs.Learning.{refutes_after, settles_grown, asked_grown, reasons_grown, adds_same, on_err}
use Rattle.mono_learn.proofs.refuting.refute.Goals as goal

pub returns-in_err-used-clause-err : goal.returns-in_err-used-clause-err
returns-in_err-used-clause-err g c = on_err c.from_residual.result (adds_lemmas c.args.problem.now c.args.trail.now c.empty_chain.new.trail c.args.journal.now c.empty_chain.new.journal c.empty_chain.ensures.asks)

pub returns-in_err-used-clause-asked : goal.returns-in_err-used-clause-asked
returns-in_err-used-clause-asked g c = are_asked c.args.problem.now c.args.trail.now c.empty_chain.new.trail c.args.journal.now c.empty_chain.new.journal c.empty_chain.ensures.asks

pub returns-clause-refutes : goal.returns-clause-refutes
returns-clause-refutes g c = IfOk-weaker c.push_empty.result _ _ (λ n pushed. refutes_after c.args.problem.now c.args.trail.now c.empty_chain.new.trail c.args.journal.now c.empty_chain.new.journal c.push_empty.new.journal n c.empty_chain.ensures.asks pushed) c.push_empty.ensures.pushes

pub returns-clause-settles : goal.returns-clause-settles
returns-clause-settles g c = settles_grown c.args.problem.now c.args.trail.now c.empty_chain.new.trail c.args.journal.now c.empty_chain.new.journal c.push_empty.new.journal c.empty_chain.ensures.asks c.push_empty.ensures.grows

pub returns-clause-asked : goal.returns-clause-asked
returns-clause-asked g c = asked_grown c.args.problem.now c.args.trail.now c.empty_chain.new.trail c.args.journal.now c.empty_chain.new.journal c.push_empty.new.journal c.empty_chain.ensures.asks c.push_empty.ensures.grows

pub returns-clause-reasons : goal.returns-clause-reasons
returns-clause-reasons g c = reasons_grown c.args.problem.now c.empty_chain.new.journal c.push_empty.new.journal (g.E.Explainer.shown c.args.by.now) c.empty_chain.new.trail c.push_empty.ensures.grows c.empty_chain.ensures.reasons

pub returns-clause-err : goal.returns-clause-err
returns-clause-err g c = on_err_weaker c.push_empty.result (λ same. adds_same c.args.problem.now c.args.trail.now c.empty_chain.new.trail c.args.journal.now c.empty_chain.new.journal c.push_empty.new.journal c.empty_chain.ensures.asks same) c.push_empty.ensures.err
