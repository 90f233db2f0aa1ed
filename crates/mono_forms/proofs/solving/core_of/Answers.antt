use Rattle.std.proofs.lemmas.Result.{IfOk-weaker}
use Rattle.mono_words.specs.declared.command.TheConstants.{DEFAULT_BUDGET}
use Rattle.mono_forms.proofs.Cores.{outcome_narrows}
use Rattle.mono_forms.proofs.solving.core_of.Goals as goal

pub returns : goal.returns
returns c = IfOk-weaker c.core.result _ _ (λ o h. outcome_narrows c.args.problem.now DEFAULT_BUDGET c.args.lits.now o c.requires.problem c.requires.literals c.requires.room h) c.core.ensures
