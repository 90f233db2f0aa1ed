use Rattle.std.proofs.Common.{◌≡◌, ◌<◌, ◌+◌, ℕ, suc, min, List, ◌++◌, length, take, Option, Some, None, codes, refl, sym, ap, subst, ◌∙◌, length-append, length-take, arith}
use Rattle.std.specs.Prelude.{slice_index}
use Rattle.std.proofs.lemmas.Option.{same_Some}
use Rattle.mono_io.specs.Shelf.{told_text}
use Rattle.mono_problem.specs.Instance.{Instance}
use Rattle.mono_gnf.specs.Stands.{Stands}
use Rattle.mono_check.proofs.Accepted.{same_verdict}
use Rattle.mono_check.specs.declared.verdict.Verdict.TheVariants as verdict
use Rattle.mono_core.specs.Worked.{one_clause}
use Rattle.mono_forms.specs.Endings.{verdict_text}
use Rattle.mono_cmd.specs.Worked.{empty_problem, one_file}
use Rattle.mono_forms.proofs.Replies.{same_problem}
use Rattle.mono_cmd.proofs.worked_written.worked_wrote.Goals as goal

-- a part of nine bytes, and not all of them, is shorter than they are
pub returns-clause-whole_text_is_no_part : goal.returns-clause-whole_text_is_no_part
returns-clause-whole_text_is_no_part c = λ h.
    let text : codes "xtoo long\n" ≡ codes "x" ++ take h.count (codes "too long\n") = h.appended in
    let ten : 10 ≡ suc (length (take h.count (codes "too long\n"))) = ap (λ (t : List ℕ). length t) text in
    let front : length (take h.count (codes "too long\n")) ≡ min h.count 9 = length-take h.count (codes "too long\n") in
    let few : h.count < 9 = h.within in
    omega (arith, ten, front, few)

pub returns-clause-judged_falsely : goal.returns-clause-judged_falsely
returns-clause-judged_falsely c = λ p given right h.
    let same : verdict.Model ≡ h.judged = same_verdict p given verdict.Model h.judged right h.right in
    let text : codes "accepted refutation\n" ≡ codes "accepted model\n" = h.is ∙ ap verdict_text (sym same) in
    let byte : 114 ≡ 109 = ap (λ (t : List ℕ). slice_index t 9) text in
    omega (arith, byte)

pub returns-clause-room_to_judge : goal.returns-clause-room_to_judge
returns-clause-room_to_judge c = λ p lits written room h. h.0 room

pub returns-clause-wrote_by_another : goal.returns-clause-wrote_by_another
returns-clause-wrote_by_another c = λ h. let e = h.is in cc

pub returns-clause-wrote_of_another_problem : goal.returns-clause-wrote_of_another_problem
returns-clause-wrote_of_another_problem c = λ h.
    let file : codes "f" ≡ h.file = let e = h.is in cc in
    let told : Some (codes "") ≡ Some h.text = subst (λ (name : List ℕ). told_text (Some (one_file (codes ""))) name ≡ Some h.text) (sym file) h.told in
    let text : codes "" ≡ h.text = cc in
    let same = same_problem (codes "") empty_problem one_clause (refl, refl) (subst (λ (t : List ℕ). Stands t one_clause) (sym text) h.stands) in
    let vars : 0 ≡ 1 = ap (λ (p : Instance). p.vars) same in omega (arith, vars)

pub returns-clause-wrote_behind_the_untold : goal.returns-clause-wrote_behind_the_untold
returns-clause-wrote_behind_the_untold c = λ h. let none : ◌≡◌ {A = Option (List ℕ)} None (Some h.there) = h.held in cc

pub returns-clause-wrote_another : goal.returns-clause-wrote_another
returns-clause-wrote_another c = λ h.
    let there : codes "x" ≡ h.there = same_Some (codes "x") h.there h.held in
    let text : codes "xaccepted refutation\n" ≡ h.there ++ codes "accepted model\n" = same_Some (codes "xaccepted refutation\n") (h.there ++ codes "accepted model\n") h.wrote in
    let one : 1 ≡ length h.there = ap (λ (t : List ℕ). length t) there in
    let all : 21 ≡ length (h.there ++ codes "accepted model\n") = ap (λ (t : List ℕ). length t) text in
    let sum : length (h.there ++ codes "accepted model\n") ≡ length h.there + 15 = length-append h.there (codes "accepted model\n") in
    omega (arith, one, all, sum)

pub returns-clause-wrote_with_other_literals : goal.returns-clause-wrote_with_other_literals
returns-clause-wrote_with_other_literals c = λ h. let e = h.is in cc
