use Rattle.std.proofs.Common.{◌≡◌, ◌∷◌, [], List, ℕ, Option, Some, None, codes, refl, sym, ap, subst, arith}
use Rattle.mono_problem.specs.Instance.{Instance}
use Rattle.mono_gnf.specs.Stands.{Stands}
use Rattle.mono_io.specs.Shelf.{Texts, told_text}
use Rattle.mono_core.specs.Worked.{one_clause}
use Rattle.mono_cmd.specs.Worked.{empty_problem}
use Rattle.mono_forms.proofs.Replies.{same_problem}
use Rattle.mono_cmd.proofs.worked_judged.worked_judges.Goals as goal

-- what is told of the two names
abbrev both : Option Texts
both = Some ((codes "f", codes "") ∷ (codes "a", codes "x") ∷ [])

pub returns-clause-judges : goal.returns-clause-judges
returns-clause-judges c = record { file = codes "f"; answer = codes "a"; is = refl; text = codes ""; told = refl; stands = (refl, refl); answered = refl }

pub returns-clause-judges_with : goal.returns-clause-judges_with
returns-clause-judges_with c = record { file = codes "f"; answer = codes "a"; is = refl; text = codes ""; told = refl; stands = (refl, refl); answered = refl }

pub returns-clause-other_answer : goal.returns-clause-other_answer
returns-clause-other_answer c = λ h.
    let name : codes "a" ≡ h.answer = let e = h.is in cc in
    let told : told_text both (codes "a") ≡ Some (codes "") = subst (λ (n : List ℕ). told_text both n ≡ Some (codes "")) (sym name) h.answered in
    let same : Some (codes "x") ≡ Some (codes "") = told in cc

pub returns-clause-missing_answer : goal.returns-clause-missing_answer
returns-clause-missing_answer c = λ h.
    let name : codes "a" ≡ h.answer = let e = h.is in cc in
    let told : ◌≡◌ {A = Option (List ℕ)} None (Some (codes "")) = subst (λ (n : List ℕ). told_text (Some ((codes "f", codes "") ∷ [])) n ≡ Some (codes "")) (sym name) h.answered in
    cc

pub returns-clause-missing_file : goal.returns-clause-missing_file
returns-clause-missing_file c = λ h.
    let file : codes "f" ≡ h.file = let e = h.is in cc in
    let told : ◌≡◌ {A = Option (List ℕ)} None (Some h.text) = subst (λ (name : List ℕ). told_text (Some ((codes "a", codes "x") ∷ [])) name ≡ Some h.text) (sym file) h.told in
    cc

pub returns-clause-other_problem : goal.returns-clause-other_problem
returns-clause-other_problem c = λ h.
    let file : codes "f" ≡ h.file = let e = h.is in cc in
    let told : Some (codes "") ≡ Some h.text = subst (λ (name : List ℕ). told_text both name ≡ Some h.text) (sym file) h.told in
    let text : codes "" ≡ h.text = cc in
    let same = same_problem (codes "") empty_problem one_clause (refl, refl) (subst (λ (t : List ℕ). Stands t one_clause) (sym text) h.stands) in
    let vars : 0 ≡ 1 = ap (λ (p : Instance). p.vars) same in omega (arith, vars)

pub returns-clause-migrated : goal.returns-clause-migrated
returns-clause-migrated c = λ h. let e = h.is in cc

pub returns-clause-other_literals : goal.returns-clause-other_literals
returns-clause-other_literals c = λ h. let e = h.is in cc
