use Rattle.std.proofs.Common.{◌≡◌, ℕ, true, List, [], ◌++◌, length, length-append, Option, Some, None, codes, refl, ap, sym, subst, arith, ◌∙◌, inl, inr}
use Rattle.std.specs.Fmt.{digits}
use Rattle.std.specs.Prelude.{slice_index}
use Rattle.mono_problem.specs.Instance.{Instance}
use Rattle.mono_gnf.specs.Stands.{Stands}
use Rattle.mono_check.specs.declared.verdict.Verdict.{Verdict}
use Rattle.mono_check.specs.declared.verdict.Verdict.TheVariants as verdict
use Rattle.mono_forms.specs.Endings.{verdict_status, verdict_text}
use Rattle.mono_best.specs.Worked.{weighed}
use Rattle.mono_words.specs.declared.command.Command.{Command}
use Rattle.mono_words.specs.declared.command.Command.TheVariants as command
use Rattle.mono_forms.specs.declared.status.Status.TheVariants as status
use Rattle.mono_forms.specs.Runs.{IsBestBy, SolvesGenerated}
use Rattle.mono_gen.specs.Generated.{generated}
use Rattle.mono_gen.specs.declared.kind.GenKind.{GenKind}
use Rattle.mono_gen.specs.declared.kind.GenKind.TheVariants as kind
use Rattle.mono_cmd.proofs.worked_runs.worked_written.Goals as goal

pub returns-clause-generated : goal.returns-clause-generated
returns-clause-generated c = λ p stands. record { kind = kind.Wall; size = 2; seed = 7; is = refl; stands = stands }

pub returns-clause-generated_for_none : goal.returns-clause-generated_for_none
returns-clause-generated_for_none c = λ p h. let e = h.is in cc

-- the input that a command generates
abbrev generated_by : Option Command → List ℕ
generated_by (Some (command.Gen k size seed solve)) = generated k size seed
generated_by found = []

its_problem : (k : GenKind) (size seed : ℕ) (p : Instance) → SolvesGenerated (Some (command.Gen k size seed true)) p → Stands (generated k size seed) p
its_problem k size seed p h =
    let same : generated k size seed ≡ generated h.kind h.size h.seed = ap generated_by h.is in
    subst (λ (text : List ℕ). Stands text p) (sym same) h.stands

pub returns-clause-problem_of_the_generated : goal.returns-clause-problem_of_the_generated
returns-clause-problem_of_the_generated c = its_problem kind.Wall 2 7

pub returns-clause-best : goal.returns-clause-best
returns-clause-best c = λ b model steps best optimum accepted. inl (b, model, steps, best, optimum, refl, accepted)

pub returns-clause-line_before_the_best : goal.returns-clause-line_before_the_best
returns-clause-line_before_the_best c = λ rest. by_case rest
  where
    by_case : (rest : List ℕ) → IsBestBy status.Satisfiable (weighed []) 1 (codes "c x\n" ++ rest) → ⊥
    by_case rest (inl (b, model, steps, best, optimum, is, accepted)) = let same : 120 ≡ 98 = ap (λ (t : List ℕ). slice_index t 2) is in omega (arith, same)
    by_case rest (inr (model, beyond, is, accepted)) = let same : 120 ≡ 98 = ap (λ (t : List ℕ). slice_index t 2) is in omega (arith, same)

pub returns-clause-line_before_never : goal.returns-clause-line_before_never
returns-clause-line_before_never c = λ rest h. let same : 120 ≡ 110 = ap (λ (t : List ℕ). slice_index t 2) h.2 in omega (arith, same)

pub returns-clause-line_before_an_open_bound : goal.returns-clause-line_before_an_open_bound
returns-clause-line_before_an_open_bound c = λ rest h. let same : 120 ≡ 111 = ap (λ (t : List ℕ). slice_index t 2) h.3 in omega (arith, same)

pub returns-clause-line_before_a_board : goal.returns-clause-line_before_a_board
returns-clause-line_before_a_board c = λ rest h. let same : 99 ≡ 115 = ap (λ (t : List ℕ). slice_index t 0) h.2 in omega (arith, same)

pub returns-clause-judged : goal.returns-clause-judged
unfolding digits
returns-clause-judged c = λ p given right. record { judged = verdict.Progress 3; right = right; with_status = refl; is = refl }

-- the first byte of a verdict's text that rejects
rejected : (v : Verdict) (text : List ℕ) → status.Rejected ≡ verdict_status v → text ≡ verdict_text v → slice_index text 0 ≡ 114
rejected verdict.Model text with_status is = absurd (let same : status.Rejected ≡ status.Accepted = with_status in cc)
rejected verdict.Refutation text with_status is = absurd (let same : status.Rejected ≡ status.Accepted = with_status in cc)
rejected (verdict.Progress n) text with_status is = absurd (let same : status.Rejected ≡ status.Accepted = with_status in cc)
rejected (verdict.Rejected line r) text with_status is = ap (λ (t : List ℕ). slice_index t 0) is

pub returns-clause-judged_rejected : goal.returns-clause-judged_rejected
returns-clause-judged_rejected c = λ p given h. let first : 97 ≡ 114 = rejected h.judged (codes "accepted progress 3\n") h.with_status h.is in omega (arith, first)

pub returns-clause-line_before_a_verdict : goal.returns-clause-line_before_a_verdict
returns-clause-line_before_a_verdict c = λ p given rest h. let first : 99 ≡ 114 = rejected h.judged (codes "c x\n" ++ rest) h.with_status h.is in omega (arith, first)

pub returns-clause-written : goal.returns-clause-written
returns-clause-written c = λ run before now. record { there = codes "a"; held = before; wrote = now }

same_text : (xs ys : List ℕ) → Some xs ≡ Some ys → xs ≡ ys
same_text xs ys same = cc

pub returns-clause-written_before : goal.returns-clause-written_before
returns-clause-written_before c = λ run before now w.
    let there : codes "a" ≡ w.there = same_text (codes "a") w.there (sym before ∙ w.held) in
    let text : codes "abc" ≡ w.there ++ codes "abc" = same_text (codes "abc") (w.there ++ codes "abc") (sym now ∙ w.wrote) in
    omega (arith, ap length there, ap length text, length-append w.there (codes "abc"))

pub returns-clause-written_untold : goal.returns-clause-written_untold
returns-clause-written_untold c = λ run before w. let none : ◌≡◌ {A = Option (List ℕ)} None (Some w.there) = sym before ∙ w.held in cc
