use Rattle.std.proofs.Common.{◌≡◌, ◌≤◌, ◌++◌, ◌∷◌, ◌∙◌, [], ℕ, List, length, codes, decimal, sym, ap, subst, arith}
use Rattle.mono_answer.specs.Behind.{behind}
use Rattle.mono_answer.proofs.Printing.{line_of_two}
use Rattle.mono_gnf.specs.Names.{fault_name}
use Rattle.mono_forms.proofs.Lines.{short_fault}
use Rattle.mono_forms.proofs.line.refused_line.Goals as goal

pub push_token-requires : goal.push_token-requires
push_token-requires c =
    let begun : length c.new-out.result.bytes ≡ 0 = ap length c.new-out.ensures in
    (omega arith, (subst (λ (t : List ℕ). length t ≤ 20) (sym c.name.ensures) (short_fault c.args.fault), omega (arith, begun)))

pub returns : goal.returns
returns c =
    let number = decimal c.args.line ∷ [] in
    let name = fault_name c.args.fault ∷ [] in
    let begun : c.push_str.new.self.bytes ≡ codes "refused" = c.push_str.ensures.bytes ∙ ap (λ (t : List ℕ). t ++ codes "refused") c.new-out.ensures in
    let numbered : c.push_number.new.out.bytes ≡ codes "refused" ++ behind number = c.push_number.ensures.bytes ∙ ap (λ (t : List ℕ). t ++ behind number) begun in
    let named : c.push_token.new.out.bytes ≡ (codes "refused" ++ behind number) ++ behind name =
    c.push_token.ensures.bytes ∙ (ap (λ (t : List ℕ). c.push_number.new.out.bytes ++ behind (t ∷ [])) c.name.ensures ∙ ap (λ (t : List ℕ). t ++ behind name) numbered) in
    c.push_str-2.ensures.bytes ∙ (ap (λ (t : List ℕ). t ++ 10 ∷ []) named ∙ line_of_two [] (codes "refused") number name)
