use Rattle.std.proofs.Common.{◌≡◌, ◌++◌, [], sym, ap, append-nil, ◌∙◌}
use Rattle.std.proofs.lemmas.Result.{IfOk-weaker}
use Rattle.mono_check.specs.Checking.{later_by}
use Rattle.mono_check.specs.Judges.{judging}
use Rattle.mono_check.specs.Verdicts.{outcome_of}
use Rattle.mono_check.proofs.judge.verdict_with_values.Goals as goal

pub feed-requires-clause-kept : goal.feed-requires-clause-kept
feed-requires-clause-kept c = c.new-judge.ensures.kept c.args.problem.now

pub returns-clause-values : goal.returns-clause-values
returns-clause-values c =
    let p = c.args.problem.now in
    let text = c.args.answer.now in
    let whole : later_by p (judging c.feed.new.self) [] ≡ outcome_of p text = c.in_ok-feed.ensures.later [] ∙ c.new-judge.ensures.later p (text ++ []) ∙ ap (outcome_of p) (append-nil text) in
    IfOk-weaker c.end_with_values.result _ _ (λ found values model. let ended = values model in (ended.0, ended.1, sym whole ∙ ended.2)) c.end_with_values.ensures.values
