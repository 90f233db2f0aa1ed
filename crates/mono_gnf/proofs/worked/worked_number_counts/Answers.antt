use Rattle.std.proofs.Common.{◌≡◌, ℕ, ◌∙◌, ◌+◌, ◌-◌, ◌++◌, ◌∷◌, [], List, ℤ, pos, refl, ap, length, sum_by, arith}
use Rattle.mono_base.specs.declared.limits.TheConstants.{MAX_CLAUSES, MAX_LITERALS}
use Rattle.mono_gnf.specs.Lines.{clauses_of, open_clause, literal_count}
use Rattle.mono_gnf.proofs.worked.worked_number_counts.Goals as goal
use Rattle.std.proofs.lemmas.List.{length-append}
use Rattle.mono_gnf.proofs.ClauseSplits.{clauses-zero, clauses-literal, open-literal, literals_in}

abbrev total : List (List ℤ) → ℕ
total cs = sum_by (λ (c : List ℤ). length c) cs

literals_more : (zs : List ℤ) → literal_count (zs ++ pos 1 ∷ []) ≡ literal_count zs + 1
literals_more zs =
    let same : total (clauses_of (zs ++ pos 1 ∷ [])) ≡ total (clauses_of zs) = ap total (clauses-literal zs (pos 1) refl) in
    let longer : length (open_clause (zs ++ pos 1 ∷ [])) ≡ length (open_clause zs) + 1 = ap length (open-literal zs (pos 1) refl) ∙ length-append (open_clause zs) (pos 1 ∷ []) in
    omega (arith, same, longer, literals_in zs, literals_in (zs ++ pos 1 ∷ []))

pub returns-clause-clauses : goal.returns-clause-clauses
returns-clause-clauses c = λ zs full. rw full refl

pub returns-clause-last_clause : goal.returns-clause-last_clause
returns-clause-last_clause c = λ zs left. let count : length (clauses_of zs) ≡ MAX_CLAUSES - 1 = omega (arith, left) in rw count refl

pub returns-clause-clause_of_the_line : goal.returns-clause-clause_of_the_line
returns-clause-clause_of_the_line c = λ zs left.
    let count : length (clauses_of zs) ≡ MAX_CLAUSES - 1 = omega (arith, left) in
    let next : length (clauses_of (zs ++ pos 0 ∷ [])) ≡ MAX_CLAUSES = ap length (clauses-zero zs (pos 0) refl) ∙ (length-append (clauses_of zs) (open_clause zs ∷ []) ∙ left) in
    rw (count, next) refl

pub returns-clause-clauses_alone : goal.returns-clause-clauses_alone
returns-clause-clauses_alone c = λ zs full none. rw none refl

pub returns-clause-literals : goal.returns-clause-literals
returns-clause-literals c = λ zs full. rw full refl

pub returns-clause-last_literal : goal.returns-clause-last_literal
returns-clause-last_literal c = λ zs left. let count : literal_count zs ≡ MAX_LITERALS - 1 = omega (arith, left) in rw count refl

pub returns-clause-literal_of_the_line : goal.returns-clause-literal_of_the_line
returns-clause-literal_of_the_line c = λ zs left.
    let count : literal_count zs ≡ MAX_LITERALS - 1 = omega (arith, left) in
    let next : literal_count (zs ++ pos 1 ∷ []) ≡ MAX_LITERALS = literals_more zs ∙ left in
    rw (count, next) refl

pub returns-clause-literals_alone : goal.returns-clause-literals_alone
returns-clause-literals_alone c = λ zs full none. rw none refl
