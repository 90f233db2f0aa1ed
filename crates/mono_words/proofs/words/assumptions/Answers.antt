use Rattle.std.proofs.Common.{map, string_bytes, sym, ◌∙◌}
use Rattle.mono_words.specs.Commands.{assumptions_of}
use Rattle.mono_words.proofs.Literals.{assumptions_none}
use Rattle.mono_words.proofs.words.assumptions.Goals as goal

pub returns-clause-ok : goal.returns-clause-ok
returns-clause-ok c = assumptions_none (assumptions_of (map string_bytes c.args.words.now)) (sym c.are_assumptions.ensures ∙ c.if-are_assumptions.false)
