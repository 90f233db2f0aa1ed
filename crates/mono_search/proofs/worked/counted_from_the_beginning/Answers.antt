use Rattle.std.proofs.Common.{◌≡◌, ℕ, zero, suc, Bool, true, false, arith, refl, ap, subst}
use Rattle.mono_trail.specs.Luby.{Luby}
use Rattle.mono_trail.proofs.Terms.{one_term}
use Rattle.mono_search.specs.Restarts.{Counted, CountsClause, Counts, CountedAfter}
use Rattle.mono_search.specs.Worked.{after}
use Rattle.mono_search.proofs.worked.counted_from_the_beginning.Goals as goal

-- with a clause something is counted
not_nothing : (r : Bool) → CountsClause (after 0 0) (after 0 0) r → ⊥
not_nothing true h = let one = one_term 1 h.term 1 h.luby (Luby.whole 0) in let le = h.due.0 refl in omega (arith, one, le)
not_nothing false h = let e : zero ≡ suc zero = ap (λ (c : Counted). c.learned) h.counted in cc

-- where no clause was learned, nothing is counted
nothing_at_first : {n : ℕ} {c : Counted} → n ≡ 0 → CountedAfter n c → c ≡ after 0 0
nothing_at_first none (CountedAfter.at_first n c z e) = e
nothing_at_first none (CountedAfter.one_more m n old new r before next counts) = absurd (omega (arith, next, none))

never : {n : ℕ} {c : Counted} → n ≡ 1 → c ≡ after 0 0 → CountedAfter n c → ⊥
never one is (CountedAfter.at_first n c z e) = omega (arith, one, z)
never one is (CountedAfter.one_more m n old new r before next counts) =
    let first : old ≡ after 0 0 = nothing_at_first (omega (arith, next, one)) before in
    let begun : Counts (after 0 0) (after 0 0) r = subst (λ (d : Counted). Counts d (after 0 0) r) first (subst (λ (d : Counted). Counts old d r) is counts) in
    not_nothing r (begun (omega arith) (omega arith))

pub returns-clause-none : goal.returns-clause-none
returns-clause-none c = CountedAfter.at_first 0 (after 0 0) refl refl

pub returns-clause-one : goal.returns-clause-one
returns-clause-one c =
    CountedAfter.one_more 0 1 (after 0 0) (after 1 0) false (CountedAfter.at_first 0 (after 0 0) refl refl) refl
    (λ low high. record { term = 1; luby = Luby.whole 0; due = ((λ e. absurd cc), (λ le. absurd (omega (arith, le)))); counted = refl })

pub returns-clause-not_counted : goal.returns-clause-not_counted
returns-clause-not_counted c = λ h. never refl refl h

pub returns-clause-none_learned : goal.returns-clause-none_learned
returns-clause-none_learned c = λ h. let e : suc zero ≡ zero = ap (λ (d : Counted). d.learned) (nothing_at_first refl h) in cc
