use Rattle.std.proofs.Common.{Some, Option, ap, subst, ◌∙◌}
use Rattle.std.specs.Prelude.{Result, Ok}
use Rattle.mono_text.specs.Text.{tokens_of}
use Rattle.mono_answer.specs.declared.item.Item.{Item}
use Rattle.mono_answer.specs.declared.item.ItemRefusal.{ItemRefusal}
use Rattle.mono_answer.specs.Readings.{IsReading}
use Rattle.mono_answer.specs.Versions.{is_version_two}
use Rattle.mono_check.specs.Judges.{is_nothing}
use Rattle.mono_check.proofs.Versions.{item_is_no_version, line_added, neither}
use Rattle.mono_check.proofs.judge.judge_line.Goals as goal

pub returns-in-Ok-Some-clause-behind : goal.returns-in-Ok-Some-clause-behind
returns-in-Ok-Some-clause-behind c =
    let ts = tokens_of c.args.line.text.now in
    let i = c.in-Ok-Some.item in
    let read : IsReading ts (Ok (Some i)) = subst (λ (r : Result (Option Item) ItemRefusal). IsReading ts r) (c.in-Ok-Some.is ∙ ap Ok c.in-Ok-Some.field-0-is) c.read.ensures in
    line_added c.args.problem.now c.args.said.now c.add.new.self c.add.result c.args.line.number c.args.line.text.now (Some i) read.0 read.1 (neither (is_nothing c.args.said.now) (is_version_two ts) (item_is_no_version ts i read.1)) c.add.ensures.begun c.add.ensures.behind
