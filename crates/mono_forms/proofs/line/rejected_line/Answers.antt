use Rattle.std.proofs.Common.{◌≡◌, ◌++◌, ◌∷◌, ◌∙◌, [], ℕ, List, codes, decimal, ap}
use Rattle.mono_answer.specs.Behind.{behind}
use Rattle.mono_answer.proofs.Printing.{line_of_two}
use Rattle.mono_forms.specs.Endings.{reason_words}
use Rattle.mono_forms.proofs.line.rejected_line.Goals as goal

pub returns : goal.returns
returns c =
    let number = decimal c.args.line ∷ [] in
    let words = reason_words c.args.reason in
    let begun : c.push_str.new.self.bytes ≡ codes "rejected" = c.push_str.ensures.bytes ∙ ap (λ (t : List ℕ). t ++ codes "rejected") c.new-out.ensures in
    let numbered : c.push_number.new.out.bytes ≡ codes "rejected" ++ behind number = c.push_number.ensures.bytes ∙ ap (λ (t : List ℕ). t ++ behind number) begun in
    let named : c.push_reason.new.out.bytes ≡ (codes "rejected" ++ behind number) ++ behind words = c.push_reason.ensures.bytes ∙ ap (λ (t : List ℕ). t ++ behind words) numbered in
    c.push_str-2.ensures.bytes ∙ (ap (λ (t : List ℕ). t ++ 10 ∷ []) named ∙ line_of_two [] (codes "rejected") number words)
