use Rattle.std.proofs.Common.{◌++◌, ◌∙◌, ℕ, List, ap}
use Rattle.mono_forms.proofs.Lines.{token_behind}
use Rattle.mono_forms.proofs.line.push_token.Goals as goal

pub returns-clause-bytes : goal.returns-clause-bytes
returns-clause-bytes g c =
    let token = c.args.token.now in
    c.push_str-2.ensures.bytes ∙ (ap (λ (t : List ℕ). t ++ token) c.push_str.ensures.bytes ∙ token_behind c.args.out.now.bytes token)
