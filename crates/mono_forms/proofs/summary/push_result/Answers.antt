use Rattle.std.proofs.Common.{◌++◌, ◌∷◌, ◌∙◌, [], ℕ, List, codes, ap, append_assoc}
use Rattle.mono_forms.specs.Endings.{result_word}
use Rattle.mono_forms.proofs.summary.push_result.Goals as goal

pub returns : goal.returns
returns c =
    let out = c.args.out.now.items in
    let word = result_word c.args.answer.now in
    c.in_ok-push.ensures.items
    ∙ (ap (λ (t : List ℕ). t ++ 10 ∷ []) (c.in_ok-extend_from_slice-2.ensures.items ∙ (ap (λ (t : List ℕ). t ++ c.result_word.result.now) c.in_ok-extend_from_slice.ensures.items ∙ ap (λ (t : List ℕ). (out ++ codes "result ") ++ t) c.result_word.ensures))
    ∙ (append_assoc (out ++ codes "result ") word (10 ∷ []) ∙ append_assoc out (codes "result ") (word ++ 10 ∷ [])))
