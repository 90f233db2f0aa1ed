use Rattle.std.proofs.Common.{◌≡◌, ◌∷◌, length, ap, rules}
use Rattle.mono_text.specs.Text.{tokens_of}
use Rattle.mono_text.proofs.Splits.{none_left, first_left}
use Rattle.mono_text.proofs.tokens.TokensIterator.next.Goals as goal

pub returns-then-is_empty-clause-steps : goal.returns-then-is_empty-clause-steps
returns-then-is_empty-clause-steps c = none_left c.args.self.now c.self.inside.rest.now c.without_blanks-self-inside.result.now (cc) c.without_blanks-self-inside.ensures (search rules)

first_token : (c : goal.After-rest-2-1) → c.args.self.now ≡ c.split_at_blank.result.0.now ∷ tokens_of c.split_at_blank.result.1.now
first_token c =
    rw c.split_at_blank.ensures.before
    (first_left c.args.self.now c.self.inside.rest.now c.without_blanks-self-inside.result.now c.split_at_blank.result.1.now (cc) c.without_blanks-self-inside.ensures (search rules) c.split_at_blank.ensures.after)

pub returns-clause-steps : goal.returns-clause-steps
returns-clause-steps c = first_token c

pub returns-clause-goes : goal.returns-clause-goes
returns-clause-goes c = let shorter = ap length (first_token c) in search rules
