use Rattle.std.proofs.Common.{rules}
use Rattle.std.specs.List.{before_first}
use Rattle.mono_text.specs.Text.{is_blank}
use Rattle.mono_text.proofs.Splits.{none_left, first_left}
use Rattle.mono_text.proofs.tokens.Tokens.next_natural.Goals as goal

pub returns-then-is_empty-clause-first : goal.returns-then-is_empty-clause-first
returns-then-is_empty-clause-first c = none_left c.args.self.now c.self.inside.rest.now c.without_blanks-self-inside.result.now (cc) c.without_blanks-self-inside.ensures (search rules)

pub returns-clause-first : goal.returns-clause-first
returns-clause-first c =
    let first = first_left c.args.self.now c.self.inside.rest.now c.without_blanks-self-inside.result.now c.natural_front-number.result.1.now (cc) c.without_blanks-self-inside.ensures (search rules) c.natural_front-number.ensures.rest in
    (before_first is_blank c.without_blanks-self-inside.result.now, first, c.natural_front-number.ensures.value)
