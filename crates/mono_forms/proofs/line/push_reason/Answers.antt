use Rattle.std.proofs.Common.{◌≡◌, ◌≤◌, ◌++◌, ◌∷◌, ◌∙◌, [], ℕ, List, length, codes, decimal, sym, ap, subst, arith, rules}
use Rattle.mono_answer.specs.Behind.{behind}
use Rattle.mono_check.specs.Names.{reason_name}
use Rattle.mono_forms.specs.Endings.{reason_words}
use Rattle.mono_forms.proofs.Lines.{short_reason, with_number, without_number}
use Rattle.mono_forms.proofs.line.push_reason.Goals as goal

pub push_token-requires : goal.push_token-requires
push_token-requires g c = (search rules, (subst (λ (t : List ℕ). length t ≤ 20) (sym c.name.ensures) (short_reason c.args.reason), omega arith))

pub returns-in-ClauseFalse-clause-bytes : goal.returns-in-ClauseFalse-clause-bytes
returns-in-ClauseFalse-clause-bytes g c =
    let out = c.args.out.now.bytes in
    let arm = c.in-ClauseFalse in
    let named : c.push_token.new.out.bytes ≡ out ++ behind (codes "ClauseFalse" ∷ []) = c.push_token.ensures.bytes ∙ ap (λ (t : List ℕ). out ++ behind (t ∷ [])) (c.name.ensures ∙ ap reason_name arm.is) in
    let numbered = c.push_number.ensures.bytes ∙ ap (λ (n : ℕ). c.push_token.new.out.bytes ++ behind (decimal n ∷ [])) c.from.ensures in
    with_number out _ _ c.args.reason (codes "ClauseFalse") arm.number (ap reason_words arm.is) named numbered

pub returns-in-AtomWrong-clause-bytes : goal.returns-in-AtomWrong-clause-bytes
returns-in-AtomWrong-clause-bytes g c =
    let out = c.args.out.now.bytes in
    let arm = c.in-AtomWrong in
    let named : c.push_token.new.out.bytes ≡ out ++ behind (codes "AtomWrong" ∷ []) = c.push_token.ensures.bytes ∙ ap (λ (t : List ℕ). out ++ behind (t ∷ [])) (c.name.ensures ∙ ap reason_name arm.is) in
    let numbered = c.push_number-in-AtomWrong.ensures.bytes ∙ ap (λ (n : ℕ). c.push_token.new.out.bytes ++ behind (decimal n ∷ [])) c.from-in-AtomWrong.ensures in
    with_number out _ _ c.args.reason (codes "AtomWrong") arm.number (ap reason_words arm.is) named numbered

pub returns-in_default-clause-bytes : goal.returns-in_default-clause-bytes
returns-in_default-clause-bytes g c =
    let out = c.args.out.now.bytes in
    let words = without_number c.args.reason c.in_default.not-ClauseFalse c.in_default.not-AtomWrong in
    c.push_token.ensures.bytes ∙ (ap (λ (t : List ℕ). out ++ behind (t ∷ [])) c.name.ensures ∙ ap (λ (ts : List (List ℕ)). out ++ behind ts) (sym words))
