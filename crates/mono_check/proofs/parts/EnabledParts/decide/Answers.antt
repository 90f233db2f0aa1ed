use Rattle.std.proofs.Common.{ℕ, Bool, List, sym, ap, subst, ◌∙◌, arith}
use Rattle.std.proofs.lemmas.List.{get_or_default}
use Rattle.mono_base.specs.Literal.{value_in}
use Rattle.mono_graph.specs.Digraph.{enabled}
use Rattle.mono_paths.specs.Asked.{AreAnswers}
use Rattle.mono_problem.specs.Instance.{graph_at}
use Rattle.mono_check.specs.declared.question.WalkQuestion.{WalkQuestion}
use Rattle.mono_check.specs.Questions.{no_question, question_at}
use Rattle.mono_check.proofs.PartsByGraph.{fits_there, stays_enabled}
use Rattle.mono_check.proofs.Questions.{targets_known, truths_more}
use Rattle.mono_check.proofs.parts.EnabledParts.decide.Goals as goal

pub which_are_reached-requires-clause-targets : goal.which_are_reached-requires-clause-targets
which_are_reached-requires-clause-targets c =
    let p = c.args.problem.now in
    let qs : List WalkQuestion = c.args.questions.now in
    targets_known p qs c.graph-graph.result.now c.deref.result.now c.known.ensures.problem c.requires.questions c.requires.alike
    (c.graph-graph.ensures ∙ ap (λ (q : WalkQuestion). graph_at p q.graph) (get_or_default qs 0 _ no_question c.requires.some)) (c.deref.ensures.value ∙ c.in_ok-targets.ensures)

pub which_are_reached-requires-clause-fits : goal.which_are_reached-requires-clause-fits
which_are_reached-requires-clause-fits c =
    fits_there c.args.problem.now (value_in c.args.model.now) _ c.graph-graph.result.now c.in_ok-part.part c.in_ok-part.ensures.part c.graph-graph.ensures

pub returns-clause-parts : goal.returns-clause-parts
returns-clause-parts c =
    let p = c.args.problem.now in
    let a = value_in c.args.model.now in
    let e = c.which_are_reached.ensures in
    c.put.ensures p a
    (stays_enabled p a _ c.graph-graph.result.now c.in_ok-part.part c.which_are_reached.new.self c.in_ok-part.ensures.part c.graph-graph.ensures e.graph e.part e.fits)
    c.take.ensures.parts

pub returns-clause-truths : goal.returns-clause-truths
returns-clause-truths c =
    let p = c.args.problem.now in
    let a = value_in c.args.model.now in
    let qs : List WalkQuestion = c.args.questions.now in
    let at = c.in_ok-part.ensures.part in
    let right =
    subst (λ (answers : List Bool). AreAnswers c.graph-graph.result.now c.in_ok-part.part.part (question_at qs 0).measure (question_at qs 0).from c.deref.result.now answers) (sym c.deref-2.ensures.value)
    (subst (λ (q : WalkQuestion). AreAnswers c.graph-graph.result.now c.in_ok-part.part.part q.measure q.from c.deref.result.now c.in_ok-answers.answers.items) (get_or_default qs 0 _ no_question c.requires.some) c.in_ok-answers.ensures.answers) in
    truths_more p a qs c.graph-graph.result.now c.in_ok-part.part.part c.deref.result.now c.deref-2.result.now c.args.truths.now.items c.keep_answers.new.truths.items
    c.requires.questions c.requires.alike
    (c.graph-graph.ensures ∙ ap (λ (q : WalkQuestion). graph_at p q.graph) (get_or_default qs 0 _ no_question c.requires.some))
    (at.enabled.part ∙ ap (λ (k : ℕ). enabled a (graph_at p k)) (at.graph ∙ ap (λ (q : WalkQuestion). q.graph) (get_or_default qs 0 _ no_question c.requires.some)))
    (c.deref.ensures.value ∙ c.in_ok-targets.ensures)
    right (omega (arith, c.keep_answers.ensures.len)) c.keep_answers.ensures.kept c.requires.truths
