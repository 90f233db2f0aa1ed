use Rattle.std.proofs.Common.{sym, subst, List}
use Rattle.mono_steps.specs.declared.step.Step.{Step}
use Rattle.mono_portfolio.specs.Searched.{Tells}
use Rattle.mono_portfolio.specs.Workers.{WorkerState}
use Rattle.mono_portfolio.proofs.Kept.{told_by, kept_runs}
use Rattle.mono_portfolio.proofs.worker.Worker.run.Goals as goal

pub returns-clause-kept : goal.returns-clause-kept
returns-clause-kept g c = λ p board h.
    let x : WorkerState = c.args.self.now in
    let q = c.args.over.now in
    let made = c.into_vec.result.items in
    let tells : Tells p q c.args.slice c.in_ok-told.told.reply made =
    subst (λ (ss : List Step). Tells p q c.args.slice c.in_ok-told.told.reply ss) (sym c.into_vec.ensures) (c.in_ok-told.ensures p (told_by p board x q h)) in
    let kept = kept_runs p board x q c.args.slice c.in_ok-told.told.reply made h tells in
    rw (← c.self.view_is) at kept

pub returns-clause-ok : goal.returns-clause-ok
returns-clause-ok g c = λ p board h.
    subst (λ (ss : List Step). Tells p c.args.over.now c.args.slice c.in_ok-told.told.reply ss) (sym c.into_vec.ensures) (c.in_ok-told.ensures p (told_by p board c.args.self.now c.args.over.now h))
