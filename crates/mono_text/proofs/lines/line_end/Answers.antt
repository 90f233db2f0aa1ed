use Rattle.mono_text.proofs.Fronts.{line_end-some, line_end-none}
use Rattle.mono_text.proofs.lines.line_end.Goals as goal

pub returns-in-Some : goal.returns-in-Some
returns-in-Some c = line_end-some c.args.text.now c.in-Some.end c.in-Some.ensures

pub returns-in-None : goal.returns-in-None
returns-in-None c = line_end-none c.args.text.now c.in-None.ensures
