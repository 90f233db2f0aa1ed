use Rattle.std.proofs.Common.{◌++◌, ◌∷◌, ◌∙◌, [], ℕ, List, codes, ap}
use Rattle.mono_text.specs.Text.{spaced}
use Rattle.mono_forms.specs.Endings.{result_word, verdict_text}
use Rattle.mono_forms.proofs.summary.Summary.text.Goals as goal

pub returns : goal.returns
returns c =
    let summary = c.args.self.now in
    let result = spaced (codes "result" ∷ result_word summary.answer ∷ []) in
    let verdict = codes "verdict " ++ verdict_text summary.verdict in
    let lines = c.in_ok-push_verdict.ensures ∙ ap (λ (t : List ℕ). t ++ verdict) (c.in_ok-push_result.ensures ∙ ap (λ (t : List ℕ). t ++ result) c.in_ok-out.ensures) in
    c.in_ok-extend_from_slice.ensures.items ∙ (ap (λ (t : List ℕ). c.push_verdict.new.out.items ++ t) c.as_slice.ensures ∙ ap (λ (t : List ℕ). t ++ summary.progress) lines)
