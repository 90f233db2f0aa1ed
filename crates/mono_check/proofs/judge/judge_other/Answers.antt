use Rattle.std.proofs.Common.{◌≡◌, Bool, false, None, ◌&&◌, sym, ap}
use Rattle.mono_text.specs.Text.{tokens_of}
use Rattle.mono_answer.specs.Versions.{is_version_two}
use Rattle.mono_check.specs.Judges.{is_nothing}
use Rattle.mono_check.proofs.Versions.{line_added, neither}
use Rattle.mono_check.proofs.judge.judge_other.Goals as goal
use Rattle.mono_check.proofs.judge.judge_other.Goals.{else-is_nothing-via-then-is_nothing+else-is_version_line, else-is_nothing-via-else-is_nothing}

pub returns-clause-behind : goal.returns-clause-behind
returns-clause-behind c =
    let ts = tokens_of c.args.line.text.now in
    let other : (is_nothing c.args.said.now && is_version_two ts) ≡ false = elim c.else-is_nothing.branch [
      | else-is_nothing-via-then-is_nothing+else-is_version_line w ↦ neither (is_nothing c.args.said.now) (is_version_two ts) (sym w.if-is_version_line.ensures)
      | else-is_nothing-via-else-is_nothing w ↦ ap (λ (b : Bool). b && is_version_two ts) (sym w.if-is_nothing.ensures)
    ] in
    line_added c.args.problem.now c.args.said.now c.add.new.self c.add.result c.args.line.number c.args.line.text.now None c.requires.kept c.requires.other other c.add.ensures.begun c.add.ensures.behind
