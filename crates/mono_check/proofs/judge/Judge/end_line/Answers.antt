use Rattle.std.proofs.Common.{◌≡◌, ◌∙◌, ◌++◌, List, ℕ, length, ap, sym, rules}
use Rattle.std.proofs.lemmas.List.{nil_from_length}
use Rattle.mono_check.specs.Judges.{so_far}
use Rattle.mono_check.proofs.Cuts.{line_ended}
use Rattle.mono_check.proofs.judge.Judge.end_line.Goals as goal

pub returns-clause-later : goal.returns-clause-later
returns-clause-later c =
    line_ended c.args.problem.now (so_far c.args.self.now.said) (so_far c.judge_line-2.new.said) c.args.self.now.lines c.args.self.now.unfinished.items c.args.end.now c.as_slice.result.now c.clear.new.self.items
    c.requires.kept.one_line c.requires.one_line (c.as_slice.ensures.value ∙ c.in_ok-extend_from_slice.ensures.items) c.clear.ensures.items c.in_ok-judge_line-2.ensures.behind

pub returns-then-is_empty-clause-later : goal.returns-then-is_empty-clause-later
returns-then-is_empty-clause-later c =
    let zero : length c.args.self.now.unfinished.items ≡ 0 = search rules in
    let none = nil_from_length c.args.self.now.unfinished.items zero in
    line_ended c.args.problem.now (so_far c.args.self.now.said) (so_far c.judge_line.new.said) c.args.self.now.lines c.args.self.now.unfinished.items c.args.end.now c.args.end.now c.args.self.now.unfinished.items
    c.requires.kept.one_line c.requires.one_line (ap (λ (bytes : List ℕ). bytes ++ c.args.end.now) (sym none)) none c.in_ok-judge_line.ensures.behind
