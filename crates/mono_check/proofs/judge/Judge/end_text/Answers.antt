use Rattle.std.proofs.Common.{◌<◌, length, rules}
use Rattle.mono_check.specs.Judges.{so_far}
use Rattle.mono_check.proofs.Cuts.{text_ended}
use Rattle.mono_check.proofs.judge.Judge.end_text.Goals as goal

pub returns-clause-end : goal.returns-clause-end
returns-clause-end c =
    let unfinished = c.args.self.now.unfinished.items in
    let some : 0 < length unfinished = search rules in
    text_ended c.args.problem.now (so_far c.args.self.now.said) (so_far c.judge_line.new.said) c.args.self.now.lines unfinished c.as_slice.result.now
    some c.requires.kept.one_line c.as_slice.ensures.value c.in_ok-judge_line.ensures.behind
