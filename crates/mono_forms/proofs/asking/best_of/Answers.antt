use Rattle.std.proofs.lemmas.Result.{IfOk-weaker}
use Rattle.mono_words.specs.declared.command.TheConstants.{DEFAULT_BUDGET}
use Rattle.mono_forms.proofs.Bests.{outcome_bounds}
use Rattle.mono_forms.proofs.asking.best_of.Goals as goal

pub returns : goal.returns
returns c = IfOk-weaker c.best.result _ _ (λ o h. outcome_bounds c.args.problem.now DEFAULT_BUDGET c.args.atom o c.requires.problem c.requires.atom c.requires.room h) c.best.ensures
