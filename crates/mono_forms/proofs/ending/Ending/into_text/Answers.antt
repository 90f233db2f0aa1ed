use Rattle.std.proofs.Common.{ap, rules, sym, ◌∙◌}
use Rattle.mono_forms.specs.Endings.{text_of}
use Rattle.mono_forms.proofs.ending.Ending.into_text.Goals as goal

-- the line of a verdict takes no memory
pub returns-in-Judged : goal.returns-in-Judged
returns-in-Judged c = record { ok = c.verdict_text.ensures ∙ sym (ap text_of c.in-Judged.is); err = tt; found = search rules }
