use Rattle.std.proofs.Common.{◌≡◌, ◌∷◌, [], List, ℕ, Option, Some, None, codes, refl, sym, ap, subst, arith}
use Rattle.mono_problem.specs.Instance.{Instance}
use Rattle.mono_gnf.specs.Stands.{Stands}
use Rattle.mono_io.specs.Shelf.{Texts, told_text}
use Rattle.mono_core.specs.Worked.{one_clause}
use Rattle.mono_cmd.specs.Worked.{empty_problem}
use Rattle.mono_forms.proofs.Replies.{same_problem}
use Rattle.mono_cmd.proofs.worked.worked_told.Goals as goal

pub returns-clause-solve : goal.returns-clause-solve
returns-clause-solve c = record { file = codes "f"; is = refl; text = codes ""; told = refl; stands = (refl, refl) }

pub returns-clause-other_budget : goal.returns-clause-other_budget
returns-clause-other_budget c = λ h. let e = h.is in cc

pub returns-clause-other_command : goal.returns-clause-other_command
returns-clause-other_command c = λ h. let e = h.is in cc

pub returns-clause-other_problem : goal.returns-clause-other_problem
returns-clause-other_problem c = λ h.
    let file : codes "f" ≡ h.file = let e = h.is in cc in
    let told : Some (codes "") ≡ Some h.text = subst (λ (name : List ℕ). told_text (Some ((codes "f", codes "") ∷ [])) name ≡ Some h.text) (sym file) h.told in
    let text : codes "" ≡ h.text = cc in
    let same = same_problem (codes "") empty_problem one_clause (refl, refl) (subst (λ (t : List ℕ). Stands t one_clause) (sym text) h.stands) in
    let vars : 0 ≡ 1 = ap (λ (p : Instance). p.vars) same in omega (arith, vars)

pub returns-clause-untold : goal.returns-clause-untold
returns-clause-untold c = λ h. let e = h.told in cc

pub returns-clause-missing : goal.returns-clause-missing
returns-clause-missing c = λ h. let e = h.told in cc

pub returns-clause-print : goal.returns-clause-print
returns-clause-print c = record { file = codes "f"; is = refl; text = codes ""; told = refl; stands = (refl, refl) }

pub returns-clause-print_of_another : goal.returns-clause-print_of_another
returns-clause-print_of_another c = λ h.
    let file : codes "g" ≡ h.file = let e = h.is in cc in
    let told : ◌≡◌ {A = Option (List ℕ)} None (Some h.text) = subst (λ (name : List ℕ). told_text (Some ((codes "f", codes "") ∷ [])) name ≡ Some h.text) (sym file) h.told in
    cc

pub returns-clause-print_of_none : goal.returns-clause-print_of_none
returns-clause-print_of_none c = λ h. let e = h.is in cc

pub returns-clause-migrate : goal.returns-clause-migrate
returns-clause-migrate c = record { file = codes "f"; answer = codes "a"; is = refl; text = codes ""; told = refl; stands = (refl, refl); answered = refl }

pub returns-clause-other_version : goal.returns-clause-other_version
returns-clause-other_version c = λ h. let e = h.is in cc

-- what is told of the two names
abbrev both : Option Texts
both = Some ((codes "f", codes "") ∷ (codes "a", codes "x") ∷ [])

pub returns-clause-other_answer : goal.returns-clause-other_answer
returns-clause-other_answer c = λ h.
    let name : codes "a" ≡ h.answer = let e = h.is in cc in
    let told : told_text both (codes "a") ≡ Some (codes "") = subst (λ (n : List ℕ). told_text both n ≡ Some (codes "")) (sym name) h.answered in
    let same : Some (codes "x") ≡ Some (codes "") = told in cc

pub returns-clause-missing_answer : goal.returns-clause-missing_answer
returns-clause-missing_answer c = λ h.
    let name : codes "a" ≡ h.answer = let e = h.is in cc in
    let told : ◌≡◌ {A = Option (List ℕ)} None (Some (codes "")) = subst (λ (n : List ℕ). told_text (Some ((codes "f", codes "") ∷ [])) n ≡ Some (codes "")) (sym name) h.answered in
    cc

pub returns-clause-answer_to_another : goal.returns-clause-answer_to_another
returns-clause-answer_to_another c = λ h.
    let file : codes "f" ≡ h.file = let e = h.is in cc in
    let told : Some (codes "") ≡ Some h.text = subst (λ (name : List ℕ). told_text both name ≡ Some h.text) (sym file) h.told in
    let text : codes "" ≡ h.text = cc in
    let same = same_problem (codes "") empty_problem one_clause (refl, refl) (subst (λ (t : List ℕ). Stands t one_clause) (sym text) h.stands) in
    let vars : 0 ≡ 1 = ap (λ (p : Instance). p.vars) same in omega (arith, vars)

pub returns-clause-missing_file : goal.returns-clause-missing_file
returns-clause-missing_file c = λ h.
    let file : codes "f" ≡ h.file = let e = h.is in cc in
    let told : ◌≡◌ {A = Option (List ℕ)} None (Some h.text) = subst (λ (name : List ℕ). told_text (Some ((codes "a", codes "x") ∷ [])) name ≡ Some h.text) (sym file) h.told in
    cc

pub returns-clause-judged_alone : goal.returns-clause-judged_alone
returns-clause-judged_alone c = λ h. let e = h.is in cc

pub returns-clause-team : goal.returns-clause-team
returns-clause-team c = record { file = codes "f"; is = refl; text = codes ""; told = refl; stands = (refl, refl) }

pub returns-clause-exchanged : goal.returns-clause-exchanged
returns-clause-exchanged c = λ h. let e = h.is in cc

pub returns-clause-not_solved : goal.returns-clause-not_solved
returns-clause-not_solved c = λ p h. let e = h.is in cc
