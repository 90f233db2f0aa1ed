use Rattle.std.proofs.Common.{string_bytes, sym, ◌∙◌}
use Rattle.mono_words.proofs.Literals.{counted_assumptions}
use Rattle.mono_words.proofs.words.are_assumptions.Goals as goal

pub returns-then-is_number : goal.returns-then-is_number
returns-then-is_number c = c.are_lits.ensures ∙ counted_assumptions string_bytes c.args.words.now (sym c.is_number.ensures ∙ c.if-is_number.true)
