use Rattle.std.proofs.Common.{◌≡◌, ◌++◌, ◌∷◌, ◌∙◌, [], ℕ, List, codes, decimal, ap}
use Rattle.mono_answer.specs.Behind.{behind}
use Rattle.mono_answer.proofs.Printing.{end_line}
use Rattle.mono_forms.proofs.line.progress_line.Goals as goal

pub returns : goal.returns
returns c =
    let number = decimal c.args.count ∷ [] in
    let begun : c.push_str.new.self.bytes ≡ codes "accepted progress" = c.push_str.ensures.bytes ∙ ap (λ (t : List ℕ). t ++ codes "accepted progress") c.new-out.ensures in
    let numbered : c.push_number.new.out.bytes ≡ codes "accepted progress" ++ behind number = c.push_number.ensures.bytes ∙ ap (λ (t : List ℕ). t ++ behind number) begun in
    c.push_str-2.ensures.bytes ∙ (ap (λ (t : List ℕ). t ++ 10 ∷ []) numbered ∙ end_line [] (codes "accepted progress") number)
