use Rattle.std.proofs.Common.{List, All, sym, subst}
use Rattle.std.proofs.lemmas.List.Elements.{All-push}
use Rattle.mono_check.specs.declared.question.WalkQuestion.{WalkQuestion}
use Rattle.mono_check.specs.Questions.{IsQuestion}
use Rattle.mono_check.proofs.Questions.{question_known}
use Rattle.mono_check.proofs.question.add_question.Goals as goal

pub returns-in_ok-push : goal.returns-in_ok-push
returns-in_ok-push c = λ before.
    let known = question_known c.args.problem.now c.atom.result c.args.place c.in-Some.question c.known.ensures.problem c.requires.place c.atom.ensures c.in-Some.ensures in
    subst (λ (qs : List WalkQuestion). All (IsQuestion c.args.problem.now) qs) (sym c.in_ok-push.ensures.items)
    (All-push (IsQuestion c.args.problem.now) c.args.questions.now.items c.in-Some.question before known)
