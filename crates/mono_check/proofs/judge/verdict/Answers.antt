use Rattle.mono_check.proofs.judge.verdict.Goals as goal

pub feed-requires-clause-kept : goal.feed-requires-clause-kept
feed-requires-clause-kept c = c.new-judge.ensures.kept c.args.problem.now
