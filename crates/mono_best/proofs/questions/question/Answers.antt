use Rattle.mono_best.proofs.questions.question.Goals as goal

pub returns-in-Model : goal.returns-in-Model
returns-in-Model g c = c.met.ensures c.args.budget
