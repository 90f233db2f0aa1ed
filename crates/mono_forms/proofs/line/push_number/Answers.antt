use Rattle.std.proofs.Common.{◌++◌, ◌∷◌, ◌∙◌, [], ℕ, List, ap, arith, rules}
use Rattle.mono_answer.specs.Behind.{behind}
use Rattle.mono_forms.proofs.line.push_number.Goals as goal

pub push_token-requires : goal.push_token-requires
push_token-requires g c = (search rules, (c.format.ensures.fits, omega arith))

pub returns-clause-bytes : goal.returns-clause-bytes
returns-clause-bytes g c =
    c.push_token.ensures.bytes ∙ ap (λ (t : List ℕ). c.args.out.now.bytes ++ behind (t ∷ [])) c.format.ensures.text
