use Rattle.std.proofs.Common.{◌++◌, ◌∙◌, ℕ, List, codes, ap, append_assoc}
use Rattle.mono_forms.specs.Endings.{verdict_text}
use Rattle.mono_forms.proofs.summary.push_verdict.Goals as goal

pub returns : goal.returns
returns c =
    let out = c.args.out.now.items in
    c.in_ok-extend_from_slice-2.ensures.items
    ∙ (ap (λ (t : List ℕ). t ++ c.as_slice.result.now) c.in_ok-extend_from_slice.ensures.items
    ∙ (ap (λ (t : List ℕ). (out ++ codes "verdict ") ++ t) (c.as_slice.ensures ∙ c.verdict_text.ensures)
    ∙ append_assoc out (codes "verdict ") (verdict_text c.args.verdict)))
