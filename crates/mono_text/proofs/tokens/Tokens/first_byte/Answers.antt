use Rattle.std.proofs.Common.{◌≡◌, ◌<◌, length, ap, sym, ◌∙◌, rules}
use Rattle.mono_text.specs.Text.{tokens_of, first_byte}
use Rattle.mono_text.proofs.Splits.{tokens_of-from, first_byte-some, first_byte-none, from_token}
use Rattle.mono_text.proofs.tokens.Tokens.first_byte.Goals as goal

pub returns-then-is_empty-clause-same : goal.returns-then-is_empty-clause-same
returns-then-is_empty-clause-same c =
    let now : c.args.self.now ≡ tokens_of c.self.inside.rest.now = cc in
    rw c.without_blanks-self-inside.ensures (tokens_of-from c.self.inside.rest.now ∙ sym now)

pub returns-then-is_empty-clause-byte : goal.returns-then-is_empty-clause-byte
returns-then-is_empty-clause-byte c =
    let none : length (from_token c.self.inside.rest.now) ≡ 0 = search rules in
    let now : c.args.self.now ≡ tokens_of c.self.inside.rest.now = cc in
    sym (ap first_byte now ∙ first_byte-none c.self.inside.rest.now none)

pub returns-clause-same : goal.returns-clause-same
returns-clause-same c =
    let now : c.args.self.now ≡ tokens_of c.self.inside.rest.now = cc in
    rw c.without_blanks-self-inside.ensures (tokens_of-from c.self.inside.rest.now ∙ sym now)

pub returns-clause-byte : goal.returns-clause-byte
returns-clause-byte c =
    let some : 0 < length (from_token c.self.inside.rest.now) = search rules in
    let now : c.args.self.now ≡ tokens_of c.self.inside.rest.now = cc in
    rw c.without_blanks-self-inside.ensures (sym (ap first_byte now ∙ first_byte-some c.self.inside.rest.now 0 some))
